use Rattle.std.proofs.Common.{◌≡◌, ◌++◌, drop}
use Rattle.civl_meaning.specs.Permissions.{of_globals}
use Rattle.civl_assumed.proofs.permissions.push_globals.Given as goal

abbrev pub invariant-loop-at : goal.invariant-loop-at
invariant-loop-at l = l.lists.items ++ of_globals (drop l.at l.globals) (drop l.at l.values) ≡ l.initial.lists.items ++ of_globals l.globals l.values
