use Rattle.std.proofs.Common.{◌≡◌, ℕ, drop}
use Rattle.civl_meaning.specs.Rest.{head_of}
use Rattle.civl_meaning.specs.inner.Left.{stmt_of}
use Rattle.civl_meaning.specs.Remaining.{rest_of}
use Rattle.civl_goal_losses.proofs.faults.head.Given as goal

abbrev pub invariant-loop-at : goal.invariant-loop-at
invariant-loop-at l = (end : ℕ) → stmt_of (head_of end (rest_of l.fn.rest)) ≡ stmt_of (head_of end (rest_of (drop l.at l.rest)))
