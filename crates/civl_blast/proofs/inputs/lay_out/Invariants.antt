use Rattle.std.proofs.Common.{◌≡◌}
use Rattle.civl_blast.specs.inner.Steps.{inputs_before, places_before}
use Rattle.civl_blast.proofs.inputs.lay_out.Given as goal

abbrev pub invariant-loop-at : goal.invariant-loop-at
invariant-loop-at l = record {
  places : l.places.items ≡ places_before l.terms l.marks l.at;
  count : l.count ≡ inputs_before l.terms l.marks l.at;
}
