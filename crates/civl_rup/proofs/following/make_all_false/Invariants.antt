use Rattle.std.proofs.Common.{◌≡◌, length}
use Rattle.civl_rup.specs.inner.Following.{IsLoose, AssumptionSays}
use Rattle.civl_rup.proofs.following.make_all_false.Given as goal

abbrev pub invariant-loop-lit : goal.invariant-loop-lit
invariant-loop-lit l = record {
  loose : IsLoose l.trail;
  size : length l.trail.marks ≡ length l.fn.trail.marks;
  says : AssumptionSays l.fn.trail l.trail l.lits;
}
