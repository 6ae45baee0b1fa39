use Rattle.std.proofs.Common.{◌≡◌, true, take}
use Rattle.std.specs.List.{list_any, list_all}
use Rattle.civl_units.specs.Marks.{marked}
use Rattle.civl_provers.proofs.looking.all_hold.Given as goal

abbrev pub invariant-loop-clause : goal.invariant-loop-clause
invariant-loop-clause l = list_all (list_any (λ x. marked l.marks x.variable x.positive)) (take l.clause-index l.clauses) ≡ true
