use Rattle.std.proofs.Common.{◌≡◌, false, take}
use Rattle.std.specs.List.{list_any}
use Rattle.civl_units.specs.Marks.{marked}
use Rattle.civl_provers.proofs.looking.some_holds.Given as goal

abbrev pub invariant-loop-lit : goal.invariant-loop-lit
invariant-loop-lit l = list_any (λ x. marked l.marks x.variable x.positive) (take l.lit-index l.lits) ≡ false
