-- No other status than Done, but for WriteFault, has a report that begins with `lifted`.
use Rattle.std.specs.Prelude.{codes}
use Rattle.std.proofs.Common.{◌≡◌, ℕ, inl, inr, List, [], ◌∷◌, ◌++◌, refl, sym, ◌∙◌, subst, arith}
use Rattle.civl_tree.specs.declared.program.Program.{Program}
use Rattle.civl_tree.proofs.Lists.{one_first}
use Rattle.civl_verdicts.specs.declared.verdict.Verdict.{Verdict}
use Rattle.civl_verdicts.specs.declared.verdict.Verdict.TheVariants as verdict
use Rattle.civl_verdicts.specs.verdict_reports.Verdicts.{verdict_text}
use Rattle.civl_frontend.specs.Report.{fault_text}
use Rattle.civl_frontend.specs.Call.{Call}
use Rattle.civl_frontend.specs.declared.reader.Fault.{Fault}
use Rattle.civl_frontend.specs.declared.reader.Fault.TheVariants.{NoToken, NotHere, Deep}
use Rattle.civl_frontend.specs.declared.status.Status.{Status}
use Rattle.civl_frontend.specs.declared.status.Status.TheVariants.{Done, Rejected, Undecided, Refused, ReadFault, WriteFault, Usage, Memory}
use Rattle.civl_frontend.proofs.Streaming.{grown_by}
use Rattle.civl_lift_command.specs.Outcome.{Outcome, TooLong, Unread, Broken, Heavy, Judged, Misfit, NotInitial, NotFailing, Lifted, Spent, status_of, report_of}
use Rattle.civl_lift_command.specs.Judge.{JudgesInput, Fails, Explains}
use Rattle.civl_lift_command.specs.Statuses.{LiftsAlone}

-- a text begins with `lifted`
abbrev Begins : List ℕ → Type 0
Begins text = (rest : List ℕ) × (text ≡ codes "lifted" ++ rest)

-- nor does one that begins with another byte
refused_first : (xs : List ℕ) → Begins (114 ∷ xs) → ⊥
refused_first xs h = let bytes : 114 ≡ 108 = one_first 114 108 _ _ h.1 in omega (arith, bytes)

usual_first : (xs : List ℕ) → Begins (117 ∷ xs) → ⊥
usual_first xs h = let bytes : 117 ≡ 108 = one_first 117 108 _ _ h.1 in omega (arith, bytes)

accepted_first : (xs : List ℕ) → Begins (97 ∷ xs) → ⊥
accepted_first xs h = let bytes : 97 ≡ 108 = one_first 97 108 _ _ h.1 in omega (arith, bytes)

spent_first : (xs : List ℕ) → Begins (115 ∷ xs) → ⊥
spent_first xs h = let bytes : 115 ≡ 108 = one_first 115 108 _ _ h.1 in omega (arith, bytes)

nothing_first : Begins [] → ⊥
nothing_first h = let e : [] ≡ codes "lifted" ++ h.0 = h.1 in cc

fault_first : (fault : Fault) → Begins (fault_text fault) → ⊥
fault_first (NoToken place) h = refused_first _ h
fault_first (NotHere place) h = refused_first _ h
fault_first (Deep place) h = refused_first _ h

verdict_first : (program : Program) (budget : ℕ) (v : Verdict) → Begins (verdict_text program budget v) → ⊥
verdict_first program budget (verdict.Accepted count) h = accepted_first _ h
verdict_first program budget (verdict.Rejected counter) h = refused_first _ h
verdict_first program budget (verdict.Undecided formula log) h = usual_first _ h
verdict_first program budget verdict.NoInitial h = refused_first _ h

outcome_alone : (outcome : Outcome) → Begins (report_of outcome) → Done ≡ status_of outcome
outcome_alone (TooLong most) h = absurd (refused_first _ h)
outcome_alone (Unread fault) h = absurd (fault_first fault h)
outcome_alone (Broken refusal) h = absurd (refused_first _ h)
outcome_alone (Heavy program first) h = absurd (refused_first _ h)
outcome_alone (Judged program budget v) h = absurd (verdict_first program budget v h)
outcome_alone (Misfit number) h = absurd (refused_first _ h)
outcome_alone NotInitial h = absurd (refused_first _ h)
outcome_alone (NotFailing moved) h = absurd (refused_first _ h)
outcome_alone (Lifted moves thread) h = refl
outcome_alone (Spent step thread) h = absurd (spent_first _ h)

module _ (call : Call) where
  failed_alone : (status : Status) (report : List ℕ) → Fails call.words call.source call.source_after status report → Begins report → ⊥
  failed_alone Done report f h = f
  failed_alone Rejected report f h = f
  failed_alone Undecided report f h = f
  failed_alone Refused report f h = f
  failed_alone ReadFault report f h = nothing_first (subst Begins f.2 h)
  failed_alone WriteFault report f h = f
  failed_alone Usage report f h = usual_first _ (subst Begins f.2 h)
  failed_alone Memory report f h = nothing_first (subst Begins f.1 h)

  judged_alone : (status : Status) (report : List ℕ) → JudgesInput call.words call.source call.source_after status report → Begins report → status ≡ Done
  judged_alone status report h begins = h.status_is ∙ sym (outcome_alone h.outcome (subst Begins h.report_is begins))

  pub alone_by : Explains call → LiftsAlone call
  alone_by (inl (report, inl h, grown)) taken rest was is =
      inl (judged_alone call.status report h (rest, grown_by call.sink call.sink_after taken report (codes "lifted" ++ rest) grown was is))
  alone_by (inl (report, inr f, grown)) taken rest was is =
      absurd (failed_alone call.status report f (rest, grown_by call.sink call.sink_after taken report (codes "lifted" ++ rest) grown was is))
  alone_by (inr h) taken rest was is = inr h.0
