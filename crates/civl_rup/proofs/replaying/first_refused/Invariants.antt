use Rattle.std.proofs.Common.{◌≡◌, ◌++◌, length, take}
use Rattle.civl_rup.specs.Rup.{HaveRup}
use Rattle.civl_rup.specs.inner.Standing.{Stands}
use Rattle.civl_rup.proofs.replaying.first_refused.Given as goal

abbrev pub invariant-loop-at : goal.invariant-loop-at
invariant-loop-at l = record {
  marks : length l.marks.values ≡ l.cnf.variables;
  stands : Stands l.engine l.cnf.variables (l.cnf.clauses ++ take l.at l.log) l.refuted;
  rup : HaveRup l.cnf l.log l.at;
}
