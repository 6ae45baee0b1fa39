use Rattle.std.proofs.Common.{◌≡◌, take}
use Rattle.civl_terms.specs.Graphs.{values, listed}
use Rattle.civl_terms.proofs.terms.value.Given as goal

abbrev pub invariant-loop-at : goal.invariant-loop-at
invariant-loop-at l = l.values.items ≡ values (listed l.given) (take l.at l.terms)
