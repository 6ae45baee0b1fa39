use Rattle.std.proofs.Common.{◌≡◌, ◌++◌, drop}
use Rattle.civl_conditions.specs.Permissions.{of_held}
use Rattle.civl_assumed.proofs.begun.push_held.Given as goal

abbrev pub invariant-loop-number : goal.invariant-loop-number
invariant-loop-number l = l.lists.items ++ of_held (drop l.number-index l.numbers) l.locals ≡ l.initial.lists.items ++ of_held l.numbers l.locals
