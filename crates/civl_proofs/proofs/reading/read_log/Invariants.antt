use Rattle.civl_proofs.specs.inner.Reading.{Logging, IsReadTo, IsSoundWord}
use Rattle.civl_proofs.proofs.reading.read_log.Given as goal

abbrev pub invariant-bytes : goal.invariant-bytes
invariant-bytes l = record {
  word : IsSoundWord l.cnf.variables l.draft.word;
  read : IsReadTo l.bytes l.at (Logging l.cnf.variables l.cnf.clauses (record { clauses = l.log; lits = l.draft.lits.items; word = l.draft.word }));
}
