use Rattle.std.proofs.Common.{ℕ}
use Rattle.civl_blocked.specs.inner.Turning.{IsGoing, IsTurning, measure}
use Rattle.civl_blocked.proofs.turning.turn.Given as goal

abbrev pub invariant-loop-turning : goal.invariant-loop-turning
invariant-loop-turning l = record {
  going : IsGoing l.ground l.turning;
  few : (bound : ℕ) → IsTurning l.ground bound l.fn.turning → IsTurning l.ground bound l.turning;
}

abbrev pub decreases-loop-turning : goal.decreases-loop-turning
decreases-loop-turning l = measure l.ground l.turning
