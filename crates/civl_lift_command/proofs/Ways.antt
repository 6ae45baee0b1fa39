-- The few outcomes that are found of a script.
use Rattle.std.specs.Prelude.{Option, Some}
use Rattle.std.proofs.Common.{◌≡◌, ℕ, ◌⊎◌, inl, inr, List, refl, ap, ap₂, ◌∙◌, subst}
use Rattle.civl_tree.specs.declared.program.Program.{Program}
use Rattle.civl_tree.specs.declared.refusal.Refusal.{Refusal}
use Rattle.civl_tree.specs.declared.script.Script.{Script}
use Rattle.civl_meaning.specs.declared.config.Move.{Move}
use Rattle.civl_script.specs.Schedules.{IsSchedule}
use Rattle.civl_script.specs.declared.schedule.Schedule.TheVariants.{Wrong}
use Rattle.civl_cnf.specs.Literal.{Literal}
use Rattle.civl_conditions.specs.declared.condition.Condition.{Condition}
use Rattle.civl_conditions.specs.Weights.{heavy}
use Rattle.civl_verdicts.specs.declared.verdict.Counter.{Counter}
use Rattle.civl_verdicts.specs.declared.verdict.Verdict.{Verdict}
use Rattle.civl_verdicts.specs.declared.verdict.Verdict.TheVariants as verdict
use Rattle.civl_verdicts.specs.Verdicts.{IsVerdict}
use Rattle.civl_frontend.specs.Rules.{static_refusal, IsLawful, IsTaken}
use Rattle.civl_frontend.specs.Status.{verdict_status}
use Rattle.civl_frontend.specs.declared.status.Status.TheVariants.{Done, Rejected, Undecided}
use Rattle.civl_lift_command.specs.Lifting.{IsAccepted}
use Rattle.civl_lift_command.specs.Outcome.{Outcome, TooLong, Unread, Broken, Heavy, Judged, Misfit, NotInitial, NotFailing, Lifted, Spent, RaisesGiven, IsNotAccepted, Lifts, status_of}

pub record IsBroken (program : Program) (outcome : Outcome) : Type 0 where
  pub refusal : Refusal
  pub is : outcome ≡ Broken refusal
  pub broken : static_refusal program ≡ Some refusal

pub record IsHeavy (program : Program) (outcome : Outcome) : Type 0 where
  pub first : Option Condition
  pub is : outcome ≡ Heavy program first
  pub rules : IsLawful program
  pub weighs : heavy program ≡ Some first

pub record IsDecided (budget : ℕ) (program : Program) (outcome : Outcome) : Type 0 where
  pub verdict_ : Verdict
  pub is : outcome ≡ Judged program budget verdict_
  pub taken : IsTaken program
  pub right : IsVerdict program budget verdict_
  pub other : IsNotAccepted verdict_

pub record IsMisfit (script : Script) (outcome : Outcome) : Type 0 where
  pub number : ℕ
  pub is : outcome ≡ Misfit number
  pub accepted : IsAccepted script.program
  pub wrong : IsSchedule script.program.globals script.store script.moves (Wrong number)

abbrev pub Ways : ℕ → Script → Outcome → Type 0
Ways budget script outcome =
    IsBroken script.program outcome ⊎ (IsHeavy script.program outcome ⊎ (IsDecided budget script.program outcome ⊎ (IsMisfit script outcome ⊎ RaisesGiven script outcome)))

module _ (budget : ℕ) (script : Script) where
  pub lift_way : (outcome : Outcome) → Lifts budget script outcome → Ways budget script outcome
  lift_way (TooLong most) h = absurd h
  lift_way (Unread fault) h = absurd h
  lift_way (Broken refusal) h = inl (record { refusal = refusal; is = refl; broken = h })
  lift_way (Heavy weighed first) h = inr (inl (record { first = first; is = ap (λ (p : Program). Heavy p first) h.0; rules = h.1; weighs = h.2 }))
  lift_way (Judged judged told v) h = inr (inr (inl (record { verdict_ = v; is = ap₂ (λ (p : Program) (n : ℕ). Judged p n v) h.0 h.1; taken = h.2; right = h.3; other = h.4 })))
  lift_way (Misfit number) h = inr (inr (inr (inl (record { number = number; is = refl; accepted = h.0; wrong = h.1 }))))
  lift_way NotInitial h = inr (inr (inr (inr h)))
  lift_way (NotFailing moved) h = inr (inr (inr (inr h)))
  lift_way (Lifted moves thread) h = inr (inr (inr (inr h)))
  lift_way (Spent step thread) h = inr (inr (inr (inr h)))

  -- ---- what a status tells

  -- Done
  pub record IsLift (outcome : Outcome) : Type 0 where
    pub moves : List Move
    pub thread : ℕ
    pub is : outcome ≡ Lifted moves thread
    pub raises : RaisesGiven script (Lifted moves thread)

  done_verdict : (v : Verdict) → IsNotAccepted v → Done ≡ verdict_status v → ⊥
  done_verdict (verdict.Accepted count) other e = other
  done_verdict (verdict.Rejected counter) other e = cc
  done_verdict (verdict.Undecided formula log) other e = cc
  done_verdict verdict.NoInitial other e = cc

  pub done_way : (outcome : Outcome) → Lifts budget script outcome → Done ≡ status_of outcome → IsLift outcome
  done_way (TooLong most) h e = absurd h
  done_way (Unread fault) h e = absurd h
  done_way (Broken refusal) h e = cc
  done_way (Heavy weighed first) h e = cc
  done_way (Judged judged told v) h e = absurd (done_verdict v h.4 e)
  done_way (Misfit number) h e = cc
  done_way NotInitial h e = cc
  done_way (NotFailing moved) h e = cc
  done_way (Lifted moves thread) h e = record { moves = moves; thread = thread; is = refl; raises = h }
  done_way (Spent step thread) h e = cc

  -- Rejected
  pub record IsRejected (outcome : Outcome) : Type 0 where
    pub counter : Counter
    pub is : outcome ≡ Judged script.program budget (verdict.Rejected counter)
    pub taken : IsTaken script.program
    pub right : IsVerdict script.program budget (verdict.Rejected counter)

  rejected_verdict : (v : Verdict) → Rejected ≡ verdict_status v → (counter : Counter) × (v ≡ verdict.Rejected counter)
  rejected_verdict (verdict.Accepted count) e = cc
  rejected_verdict (verdict.Rejected counter) e = (counter, refl)
  rejected_verdict (verdict.Undecided formula log) e = cc
  rejected_verdict verdict.NoInitial e = cc

  of_rejected : (outcome : Outcome) (d : IsDecided budget script.program outcome) → (r : (counter : Counter) × (d.verdict_ ≡ verdict.Rejected counter)) → IsRejected outcome
  of_rejected outcome d r = record {
    counter = r.0;
    is = d.is ∙ ap (Judged script.program budget) r.1;
    taken = d.taken;
    right = subst (λ (v : Verdict). IsVerdict script.program budget v) r.1 d.right;
  }

  pub rejected_way : (outcome : Outcome) → Lifts budget script outcome → Rejected ≡ status_of outcome → IsRejected outcome
  rejected_way (TooLong most) h e = absurd h
  rejected_way (Unread fault) h e = absurd h
  rejected_way (Broken refusal) h e = cc
  rejected_way (Heavy weighed first) h e = cc
  rejected_way (Judged judged told v) h e =
      of_rejected (Judged judged told v)
      (record { verdict_ = v; is = ap₂ (λ (p : Program) (n : ℕ). Judged p n v) h.0 h.1; taken = h.2; right = h.3; other = h.4 }) (rejected_verdict v e)
  rejected_way (Misfit number) h e = cc
  rejected_way NotInitial h e = cc
  rejected_way (NotFailing moved) h e = cc
  rejected_way (Lifted moves thread) h e = cc
  rejected_way (Spent step thread) h e = cc

  -- Undecided
  pub record IsOpen (outcome : Outcome) : Type 0 where
    pub formula : Option Condition
    pub log : List (List Literal)
    pub is : outcome ≡ Judged script.program budget (verdict.Undecided formula log)
    pub taken : IsTaken script.program
    pub right : IsVerdict script.program budget (verdict.Undecided formula log)

  pub record IsUnended (outcome : Outcome) : Type 0 where
    pub step : ℕ
    pub thread : ℕ
    pub is : outcome ≡ Spent step thread
    pub raises : RaisesGiven script (Spent step thread)

  open_verdict : (v : Verdict) → Undecided ≡ verdict_status v → (formula : Option Condition) × (log : List (List Literal)) × (v ≡ verdict.Undecided formula log)
  open_verdict (verdict.Accepted count) e = cc
  open_verdict (verdict.Rejected counter) e = cc
  open_verdict (verdict.Undecided formula log) e = (formula, log, refl)
  open_verdict verdict.NoInitial e = cc

  of_open : (outcome : Outcome) (d : IsDecided budget script.program outcome) → (r : (formula : Option Condition) × (log : List (List Literal)) × (d.verdict_ ≡ verdict.Undecided formula log)) → IsOpen outcome
  of_open outcome d r = record {
    formula = r.0;
    log = r.1;
    is = d.is ∙ ap (Judged script.program budget) r.2;
    taken = d.taken;
    right = subst (λ (v : Verdict). IsVerdict script.program budget v) r.2 d.right;
  }

  pub undecided_way : (outcome : Outcome) → Lifts budget script outcome → Undecided ≡ status_of outcome → IsOpen outcome ⊎ IsUnended outcome
  undecided_way (TooLong most) h e = absurd h
  undecided_way (Unread fault) h e = absurd h
  undecided_way (Broken refusal) h e = cc
  undecided_way (Heavy weighed first) h e = cc
  undecided_way (Judged judged told v) h e =
      inl (of_open (Judged judged told v)
      (record { verdict_ = v; is = ap₂ (λ (p : Program) (n : ℕ). Judged p n v) h.0 h.1; taken = h.2; right = h.3; other = h.4 }) (open_verdict v e))
  undecided_way (Misfit number) h e = cc
  undecided_way NotInitial h e = cc
  undecided_way (NotFailing moved) h e = cc
  undecided_way (Lifted moves thread) h e = cc
  undecided_way (Spent step thread) h e = inr (record { step = step; thread = thread; is = refl; raises = h })
