use Rattle.std.proofs.Common.{take}
use Rattle.std.specs.List.{AllZip}
use Rattle.civl_weights.specs.sums.Sums.{OfAction}
use Rattle.civl_weights.proofs.sums.actions.action_sums.Given as goal

abbrev pub invariant-loop-action : goal.invariant-loop-action
invariant-loop-action l = AllZip (OfAction l.program) (take l.action-index l.actions) l.sums
