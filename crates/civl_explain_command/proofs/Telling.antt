-- From what is written of an outcome to what is judged of a text.
use Rattle.std.proofs.Common.{◌≡◌, ◌⊎◌, inl, inr, List, ℕ, Result, refl, subst, sym, length, ◌≤◌}
use Rattle.civl_expected.specs.declared.kind.TextKind.{TextKind}
use Rattle.civl_explain_command.specs.declared.manner.Manner.{Manner}
use Rattle.civl_frontend.specs.Report.{bytes_of}
use Rattle.civl_frontend.specs.Texts.{limit}
use Rattle.civl_frontend.specs.declared.judged.Judged.{Judged}
use Rattle.civl_frontend.specs.declared.reader.Fault.{Fault}
use Rattle.civl_explain_command.specs.Outcome.{Outcome, Unread, Finds, OfRead, status_of}
use Rattle.civl_explain_command.specs.Told.{IsTold}
use Rattle.civl_explain_command.specs.Judge.{IsJudged}

module _ (kind : TextKind) (manner : Manner) (input : List ℕ) (judged : Judged) where
  -- a report that tells one outcome
  pub told_one : (one : Outcome) (report : List ℕ) → judged.status ≡ status_of one → bytes_of judged.report ≡ report
      → IsTold kind manner input one report → IsJudged kind manner input (λ outcome. outcome ≡ one) judged
  told_one one report status is told = inl (record {
    outcome = one;
    says_so = refl;
    status_is = status;
    is_told = subst (IsTold kind manner input one) (sym is) told;
  })

  -- what is so of this outcome
  pub of_one : (says : Outcome → Type 0) (one : Outcome) → says one → IsJudged kind manner input (λ outcome. outcome ≡ one) judged
      → IsJudged kind manner input says judged
  of_one says one h (inl t) = inl (record {
    outcome = t.outcome;
    says_so = subst says (sym t.says_so) h;
    status_is = t.status_is;
    is_told = t.is_told;
  })
  of_one says one h (inr wants) = inr wants

  -- what follows from what is so
  pub of_more : (says more : Outcome → Type 0) → ((outcome : Outcome) → says outcome → more outcome) → IsJudged kind manner input says judged
      → IsJudged kind manner input more judged
  of_more says more leads (inl t) = inl (record {
    outcome = t.outcome;
    says_so = leads t.outcome t.says_so;
    status_is = t.status_is;
    is_told = t.is_told;
  })
  of_more says more leads (inr wants) = inr wants

  -- what is found of what was read is found of the input
  pub found_in : {A : Type 0} (IsRead : List ℕ → Result A Fault → Type 0) (Says : A → Outcome → Type 0) (reading : Result A Fault)
      → length input ≤ limit → IsRead input reading → IsJudged kind manner input (OfRead Says reading) judged
      → IsJudged kind manner input (Finds IsRead Says input) judged
  found_in IsRead Says reading short read j =
      of_more (OfRead Says reading) (Finds IsRead Says input) (λ outcome says. record { short = short; reading = reading; read = read; says = says }) j
