use Rattle.civl_proofs.specs.Text.{most_variables}
use Rattle.civl_proofs.specs.inner.Reading.{Variables, IsReadTo, IsWithin}
use Rattle.civl_proofs.proofs.heading.read_variables.Given as goal

abbrev pub invariant-loop-at : goal.invariant-loop-at
invariant-loop-at l = record {
  read : IsReadTo l.bytes l.at (Variables l.value);
  within : IsWithin most_variables l.value;
}
