-- The few outcomes that are found under each command.
use Rattle.std.specs.Prelude.{Option, Some}
use Rattle.std.proofs.Common.{◌≡◌, ℕ, ◌⊎◌, inl, inr, refl, ap, ap₂, ◌∙◌}
use Rattle.civl_tree.specs.declared.program.Program.{Program}
use Rattle.civl_tree.specs.declared.refusal.Refusal.{Refusal}
use Rattle.civl_tree.specs.declared.script.Script.{Script}
use Rattle.civl_meaning.specs.declared.config.Plain.{Plain}
use Rattle.civl_script.specs.declared.replays.trace.Trace.{Trace}
use Rattle.civl_script.specs.Schedules.{IsSchedule}
use Rattle.civl_script.specs.declared.schedule.Schedule.TheVariants.{Wrong}
use Rattle.civl_conditions.specs.declared.condition.Condition.{Condition}
use Rattle.civl_conditions.specs.Weights.{heavy}
use Rattle.civl_verdicts.specs.Surveys.{IsSurvey}
use Rattle.civl_verdicts.specs.Verdicts.{IsVerdict}
use Rattle.civl_outlines.specs.declared.outline.Outline.{Outline}
use Rattle.civl_prove.specs.declared.outline_reports.proving.Proving.{Proving}
use Rattle.civl_prove.specs.outline_reports.Proving.{IsProving}
use Rattle.civl_certify.specs.declared.proof_reports.making.Making.{Making}
use Rattle.civl_certify.specs.proof_reports.Making.{IsMaking}
use Rattle.civl_frontend.specs.Rules.{static_refusal, IsLawful, IsTaken}
use Rattle.civl_command.specs.Outcome.{Outcome, TooLong, Unread, Broken, Heavy, Judged, Surveyed, Printed, Misfit, Ran, Proven, Asked, Replayed, Checks, Surveys, Proves, Asks, Runs, RunsBy}

-- ---- of a program whose conditions are decided

pub record IsBroken (program : Program) (outcome : Outcome) : Type 0 where
  pub refusal : Refusal
  pub is : outcome ≡ Broken refusal
  pub broken : static_refusal program ≡ Some refusal

pub record IsHeavy (program : Program) (outcome : Outcome) : Type 0 where
  pub first : Option Condition
  pub is : outcome ≡ Heavy program first
  pub rules : IsLawful program
  pub weighs : heavy program ≡ Some first

-- it is taken, and this is decided
pub record IsDecided {D : Type 0} (tell : D → Outcome) (IsRight : D → Type 0) (program : Program) (outcome : Outcome) : Type 0 where
  pub decided : D
  pub is : outcome ≡ tell decided
  pub taken : IsTaken program
  pub right : IsRight decided

abbrev pub Ways : {D : Type 0} → (D → Outcome) → (D → Type 0) → Program → Outcome → Type 0
Ways tell IsRight program outcome = IsBroken program outcome ⊎ (IsHeavy program outcome ⊎ IsDecided tell IsRight program outcome)

module _ (budget : ℕ) (program : Program) where
  pub check_way : (outcome : Outcome) → Checks budget program outcome → Ways (Judged program budget) (IsVerdict program budget) program outcome
  check_way (TooLong most) h = absurd h
  check_way (Unread fault) h = absurd h
  check_way (Broken refusal) h = inl (record { refusal = refusal; is = refl; broken = h })
  check_way (Heavy weighed first) h = inr (inl (record { first = first; is = ap (λ (p : Program). Heavy p first) h.0; rules = h.1; weighs = h.2 }))
  check_way (Judged judged told verdict) h = inr (inr (record { decided = verdict; is = ap₂ (λ (p : Program) (n : ℕ). Judged p n verdict) h.0 h.1; taken = h.2; right = h.3 }))
  check_way (Surveyed surveyed told survey) h = absurd h
  check_way (Printed printed) h = absurd h
  check_way (Misfit number) h = absurd h
  check_way (Ran ran trace) h = absurd h
  check_way (Proven proven told found) h = absurd h
  check_way (Asked asked at told making) h = absurd h
  check_way (Replayed replaying) h = absurd h

  pub survey_way : (outcome : Outcome) → Surveys budget program outcome → Ways (Surveyed program budget) (IsSurvey program budget) program outcome
  survey_way (TooLong most) h = absurd h
  survey_way (Unread fault) h = absurd h
  survey_way (Broken refusal) h = inl (record { refusal = refusal; is = refl; broken = h })
  survey_way (Heavy weighed first) h = inr (inl (record { first = first; is = ap (λ (p : Program). Heavy p first) h.0; rules = h.1; weighs = h.2 }))
  survey_way (Judged judged told verdict) h = absurd h
  survey_way (Surveyed surveyed told survey) h = inr (inr (record { decided = survey; is = ap₂ (λ (p : Program) (n : ℕ). Surveyed p n survey) h.0 h.1; taken = h.2; right = h.3 }))
  survey_way (Printed printed) h = absurd h
  survey_way (Misfit number) h = absurd h
  survey_way (Ran ran trace) h = absurd h
  survey_way (Proven proven told found) h = absurd h
  survey_way (Asked asked at told making) h = absurd h
  survey_way (Replayed replaying) h = absurd h

-- ---- of an outline

pub record IsProven (budget : ℕ) (outline : Outline) (outcome : Outcome) : Type 0 where
  pub found : Proving
  pub is : outcome ≡ Proven outline budget found
  pub rules : IsLawful outline.program
  pub right : IsProving outline.program outline budget found

abbrev pub ProveWays : ℕ → Outline → Outcome → Type 0
ProveWays budget outline outcome = IsBroken outline.program outcome ⊎ IsProven budget outline outcome

module _ (budget : ℕ) (outline : Outline) where
  pub prove_way : (outcome : Outcome) → Proves budget outline outcome → ProveWays budget outline outcome
  prove_way (TooLong most) h = absurd h
  prove_way (Unread fault) h = absurd h
  prove_way (Broken refusal) h = inl (record { refusal = refusal; is = refl; broken = h })
  prove_way (Heavy weighed first) h = absurd h
  prove_way (Judged judged told verdict) h = absurd h
  prove_way (Surveyed surveyed told survey) h = absurd h
  prove_way (Printed printed) h = absurd h
  prove_way (Misfit number) h = absurd h
  prove_way (Ran ran trace) h = absurd h
  prove_way (Proven proven told found) h = inr (record { found = found; is = ap₂ (λ (o : Outline) (n : ℕ). Proven o n found) h.0 h.1; rules = h.2; right = h.3 })
  prove_way (Asked asked at told making) h = absurd h
  prove_way (Replayed replaying) h = absurd h

-- ---- of a program and the number of a condition

pub record IsAsked (at budget : ℕ) (program : Program) (outcome : Outcome) : Type 0 where
  pub making : Making
  pub is : outcome ≡ Asked program at budget making
  pub rules : IsLawful program
  pub right : IsMaking program budget at making

abbrev pub AskWays : ℕ → ℕ → Program → Outcome → Type 0
AskWays at budget program outcome = IsBroken program outcome ⊎ IsAsked at budget program outcome

same_asked : (asked program : Program) (place at told budget : ℕ) (making : Making) → asked ≡ program → place ≡ at → told ≡ budget → Asked asked place told making ≡ Asked program at budget making
same_asked asked program place at told budget making p q r = ap (λ (o : Program). Asked o place told making) p ∙ ap₂ (λ (m n : ℕ). Asked program m n making) q r

module _ (at budget : ℕ) (program : Program) where
  pub ask_way : (outcome : Outcome) → Asks at budget program outcome → AskWays at budget program outcome
  ask_way (TooLong most) h = absurd h
  ask_way (Unread fault) h = absurd h
  ask_way (Broken refusal) h = inl (record { refusal = refusal; is = refl; broken = h })
  ask_way (Heavy weighed first) h = absurd h
  ask_way (Judged judged told verdict) h = absurd h
  ask_way (Surveyed surveyed told survey) h = absurd h
  ask_way (Printed printed) h = absurd h
  ask_way (Misfit number) h = absurd h
  ask_way (Ran ran trace) h = absurd h
  ask_way (Proven proven told found) h = absurd h
  ask_way (Asked asked place told making) h = inr (record { making = making; is = same_asked asked program place at told budget making h.0 h.1 h.2; rules = h.3; right = h.4 })
  ask_way (Replayed replaying) h = absurd h

-- ---- of a script

pub record IsMisfit (script : Script) (outcome : Outcome) : Type 0 where
  pub number : ℕ
  pub is : outcome ≡ Misfit number
  pub rules : IsLawful script.program
  pub wrong : IsSchedule script.program.globals script.store script.moves (Wrong number)

pub record IsRun (plain_of : Program → Plain) (script : Script) (outcome : Outcome) : Type 0 where
  pub trace : Trace
  pub is : outcome ≡ Ran script.program trace
  pub rules : IsLawful script.program
  pub runs : RunsBy (plain_of script.program) script trace

abbrev pub RunWays : (Program → Plain) → Script → Outcome → Type 0
RunWays plain_of script outcome = IsBroken script.program outcome ⊎ (IsMisfit script outcome ⊎ IsRun plain_of script outcome)

module _ (plain_of : Program → Plain) (script : Script) where
  pub run_way : (outcome : Outcome) → Runs plain_of script outcome → RunWays plain_of script outcome
  run_way (TooLong most) h = absurd h
  run_way (Unread fault) h = absurd h
  run_way (Broken refusal) h = inl (record { refusal = refusal; is = refl; broken = h })
  run_way (Heavy weighed first) h = absurd h
  run_way (Judged judged told verdict) h = absurd h
  run_way (Surveyed surveyed told survey) h = absurd h
  run_way (Printed printed) h = absurd h
  run_way (Misfit number) h = inr (inl (record { number = number; is = refl; rules = h.0; wrong = h.1 }))
  run_way (Ran ran trace) h = inr (inr (record { trace = trace; is = ap (λ (p : Program). Ran p trace) h.0; rules = h.1; runs = h.2 }))
  run_way (Proven proven told found) h = absurd h
  run_way (Asked asked at told making) h = absurd h
  run_way (Replayed replaying) h = absurd h
