use Rattle.std.proofs.Common.{◌≡◌, ◌++◌, length, take}
use Rattle.civl_rup.specs.Rup.{HaveRup}
use Rattle.civl_rup.specs.inner.Following.{IsLoose, IsRoot}
use Rattle.civl_rup.proofs.following.followed.Given as goal

abbrev pub invariant-loop-at : goal.invariant-loop-at
invariant-loop-at l = record {
  loose : IsLoose l.trail;
  size : length l.trail.marks ≡ l.cnf.variables;
  marks : length l.marks.values ≡ l.cnf.variables;
  root : IsRoot l.trail (l.cnf.clauses ++ take l.at l.log);
  rup : HaveRup l.cnf l.log l.at;
}
