use Rattle.std.proofs.Common.{◌≡◌, ◌++◌, drop}
use Rattle.civl_meaning.specs.Permissions.{of_params}
use Rattle.civl_assumed.proofs.permissions.push_params.Given as goal

abbrev pub invariant-loop-at : goal.invariant-loop-at
invariant-loop-at l = l.lists.items ++ of_params (drop l.at l.params) (drop l.at l.values) ≡ l.initial.lists.items ++ of_params l.params l.values
