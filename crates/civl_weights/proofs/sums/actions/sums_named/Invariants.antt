use Rattle.std.proofs.Common.{◌≡◌, drop}
use Rattle.std.specs.List.{find}
use Rattle.civl_tree.specs.rules.Names.{same_name}
use Rattle.civl_weights.proofs.sums.actions.sums_named.Given as goal

abbrev pub invariant-loop-at : goal.invariant-loop-at
invariant-loop-at l = find (λ action. same_name l.name action.name) (drop l.at l.actions) ≡ find (λ action. same_name l.name action.name) l.actions
