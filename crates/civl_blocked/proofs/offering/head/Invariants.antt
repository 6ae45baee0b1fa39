use Rattle.std.proofs.Common.{◌≡◌, ℕ, drop}
use Rattle.civl_meaning.specs.Rest.{head_of}
use Rattle.civl_meaning.specs.Remaining.{rest_of}
use Rattle.civl_meaning.specs.inner.Left.{stmt_of}
use Rattle.civl_blocked.proofs.offering.head.Given as goal

abbrev pub invariant-loop-item : goal.invariant-loop-item
invariant-loop-item l = (end : ℕ) → stmt_of (head_of end (rest_of (drop l.item-index l.rest))) ≡ stmt_of (head_of end (rest_of l.fn.rest))
