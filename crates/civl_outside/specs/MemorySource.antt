-- A source in memory that fails as planned.
use Rattle.std.specs.Prelude.{ℕ, min, List, if◌then◌else◌}
use Rattle.civl_outside.specs.PlainSource.{given}
use Rattle.civl_outside.specs.FaultPlan.{FaultPlanState, fails_next}
use Rattle.civl_outside.specs.declared.source.Took.{Took}
use Rattle.civl_outside.specs.declared.source.Took.TheVariants.{Failed}

-- the bytes still to come, how many it gives a call at most, and its planned faults
pub record MemorySourceState : Type 0 where
  pub left : List ℕ
  pub piece : ℕ
  pub plan : FaultPlanState

-- a failure where it is planned, and else what a source that never fails gives for at most a piece
abbrev pub read_of : MemorySourceState → ℕ → Took
read_of source room = if fails_next source.plan then Failed else given source.left (min source.piece room)
