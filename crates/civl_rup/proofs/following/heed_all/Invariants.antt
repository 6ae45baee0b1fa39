use Rattle.std.proofs.Common.{◌≡◌, ◌++◌, false, length}
use Rattle.civl_rup.specs.inner.Following.{IsLoose, Heeds}
use Rattle.civl_rup.proofs.following.heed_all.Given as goal

abbrev pub invariant-loop-hint : goal.invariant-loop-hint
invariant-loop-hint l = record {
  loose : IsLoose l.trail;
  size : length l.trail.marks ≡ length l.fn.trail.marks;
  heeds : Heeds l.fn.trail l.trail (l.formula ++ l.earlier) false;
}
