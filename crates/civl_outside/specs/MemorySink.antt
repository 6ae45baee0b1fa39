-- A sink in memory that fails as planned.
use Rattle.std.specs.Prelude.{ℕ, if◌then◌else◌}
use Rattle.civl_outside.specs.PlainSink.{PlainSinkState, accepted}
use Rattle.civl_outside.specs.FaultPlan.{FaultPlanState, fails_next}
use Rattle.civl_outside.specs.declared.sink.Wrote.{Wrote}
use Rattle.civl_outside.specs.declared.sink.Wrote.TheVariants.{Bytes, Failed}

-- the sink that it is where no call fails, and its planned faults
pub record MemorySinkState : Type 0 where
  pub sink : PlainSinkState
  pub plan : FaultPlanState

-- a failure where it is planned, and else what the sink that never fails takes
abbrev pub write_of : MemorySinkState → ℕ → Wrote
write_of state size = if fails_next state.plan then Failed else Bytes (accepted state.sink size)
