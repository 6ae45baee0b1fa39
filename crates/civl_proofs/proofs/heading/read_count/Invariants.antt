use Rattle.civl_proofs.specs.Text.{most_clauses}
use Rattle.civl_proofs.specs.inner.Reading.{Count, IsReadTo, IsWithin}
use Rattle.civl_proofs.proofs.heading.read_count.Given as goal

abbrev pub invariant-loop-at : goal.invariant-loop-at
invariant-loop-at l = record {
  read : IsReadTo l.bytes l.at (Count l.variables l.value);
  within : IsWithin most_clauses l.value;
}
