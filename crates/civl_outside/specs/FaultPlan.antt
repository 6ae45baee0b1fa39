-- Faults that are planned: which calls of a device fail.
use Rattle.std.specs.Prelude.{ℕ, List, Bool, ◌==◌, if◌then◌else◌}
use Rattle.std.specs.List.{list_any}
use Rattle.civl_outside.specs.Count.{count_up}

-- the numbers of the calls that fail, the number of the next call, the first being 0, and how many have failed
pub record FaultPlanState : Type 0 where
  pub failing : List ℕ
  pub calls : ℕ
  pub faults : ℕ

-- whether the next call fails
abbrev pub fails_next : FaultPlanState → Bool
fails_next plan = list_any (λ call. call == plan.calls) plan.failing

-- the plan after the next call
abbrev pub after_call : FaultPlanState → FaultPlanState
after_call plan = record {
  failing = plan.failing;
  calls = count_up plan.calls;
  faults = if fails_next plan then count_up plan.faults else plan.faults;
}
