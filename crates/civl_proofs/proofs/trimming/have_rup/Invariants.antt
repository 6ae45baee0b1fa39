use Rattle.std.proofs.Common.{◌≡◌, ◌++◌, length, take}
use Rattle.civl_units.specs.Occurrences.{AreOccurrences}
use Rattle.civl_rup.specs.Rup.{HaveRup}
use Rattle.civl_proofs.proofs.trimming.have_rup.Given as goal

abbrev pub invariant-loop-at : goal.invariant-loop-at
invariant-loop-at l = record {
  marks : length l.marks.values ≡ l.cnf.variables;
  size : length l.occurrences.variables ≡ l.cnf.variables;
  lists : AreOccurrences (l.cnf.clauses ++ take l.at l.log) l.occurrences;
  rup : HaveRup l.cnf l.log l.at;
}
