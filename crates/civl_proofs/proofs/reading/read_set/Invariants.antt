use Rattle.std.proofs.Common.{◌≡◌}
use Rattle.civl_cnf.specs.ClauseSet.{IsBelow}
use Rattle.civl_proofs.specs.inner.Reading.{Setting, IsReadTo, IsSoundWord}
use Rattle.civl_proofs.proofs.reading.read_set.Given as goal

abbrev pub invariant-bytes : goal.invariant-bytes
invariant-bytes l = record {
  variables : l.cnf.variables ≡ l.fn.cnf.variables;
  lits : IsBelow l.fn.cnf.variables l.draft.lits.items;
  word : IsSoundWord l.fn.cnf.variables l.draft.word;
  read : IsReadTo l.bytes l.at (Setting l.fn.cnf.variables l.count l.spot (record { clauses = l.cnf.clauses; lits = l.draft.lits.items; word = l.draft.word }));
}
