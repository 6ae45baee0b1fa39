use Rattle.std.proofs.Common.{◌≡◌, ◌≤◌, length}
use Rattle.civl_rup.specs.Rup.{Refutes}
use Rattle.civl_proofs.specs.Lean.{IsSublist}
use Rattle.civl_proofs.proofs.Leaving.{NeededFrom}
use Rattle.civl_proofs.proofs.trimming.trim.Given as goal

abbrev pub invariant-places : goal.invariant-places
invariant-places l = record {
  marks : length l.marks.values ≡ l.cnf.variables;
  refutes : Refutes l.cnf l.short;
  part : IsSublist l.short l.log;
  low : l.at ≤ length l.short;
  needed : NeededFrom l.cnf l.short l.at;
}

abbrev pub decreases-places : goal.decreases-places
decreases-places l = l.at
