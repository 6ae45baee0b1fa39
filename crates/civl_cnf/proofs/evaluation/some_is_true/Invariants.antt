use Rattle.std.proofs.Common.{◌≡◌, false, take}
use Rattle.std.specs.List.{list_any}
use Rattle.civl_cnf.specs.Literal.{truth_of}
use Rattle.civl_cnf.specs.ClauseSet.{assignment}
use Rattle.civl_cnf.proofs.evaluation.some_is_true.Given as goal

abbrev pub invariant-loop-lit : goal.invariant-loop-lit
invariant-loop-lit l = list_any (truth_of (assignment l.bits)) (take l.lit-index l.lits) ≡ false
