use Rattle.std.proofs.Common.{◌≡◌, true, take}
use Rattle.std.specs.List.{list_any, list_all}
use Rattle.civl_cnf.specs.Literal.{truth_of}
use Rattle.civl_cnf.specs.ClauseSet.{assignment}
use Rattle.civl_cnf.proofs.evaluation.all_are_true.Given as goal

abbrev pub invariant-loop-clause : goal.invariant-loop-clause
invariant-loop-clause l = list_all (list_any (truth_of (assignment l.bits))) (take l.clause-index l.clauses) ≡ true
