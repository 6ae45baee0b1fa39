use Rattle.std.proofs.Common.{◌≡◌, length, take}
use Rattle.civl_units.specs.Occurrences.{AreOccurrences}
use Rattle.civl_units.proofs.occurrences.occurrences_of.Given as goal

abbrev pub invariant-loop-at : goal.invariant-loop-at
invariant-loop-at l = record {
  size : length l.occurrences.variables ≡ l.cnf.variables;
  lists : AreOccurrences (take l.at l.cnf.clauses) l.occurrences;
}
