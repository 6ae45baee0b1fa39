-- From what is found of a store and moves to what is found of a script, and from what is found of a text to what was read.
use Rattle.std.proofs.Common.{◌≡◌, ◌∙◌, ap, ℕ, inl, inr, List, [], refl, sym, subst}
use Rattle.civl_outside.specs.Count.{Rose}
use Rattle.civl_tree.specs.declared.script.Script.{Script}
use Rattle.civl_firing.specs.declared.store.Store.{Store}
use Rattle.civl_meaning.specs.declared.config.Move.{Move}
use Rattle.civl_frontend.specs.Streams.{ReadState, ReadsPast, ReadsText}
use Rattle.civl_frontend.specs.Texts.{limit}
use Rattle.civl_frontend.specs.Told.{WantsMemory, Gives}
use Rattle.civl_frontend.specs.declared.status.Status.{Status}
use Rattle.civl_frontend.specs.declared.status.Status.TheVariants.{ReadFault, Usage}
use Rattle.civl_lift_command.specs.Words.{AskToLift, AskToLiftSome}
use Rattle.civl_lift_command.specs.Lifting.{IsGiven}
use Rattle.civl_lift_command.specs.Outcome.{Outcome, TooLong, Unread, Broken, Heavy, Judged, Misfit, NotInitial, NotFailing, Lifted, Spent, Raises, Lifts, FindsBy, telling, status_of, report_of}
use Rattle.civl_lift_command.specs.Report.{usage_text}
use Rattle.civl_lift_command.specs.Judge.{Judges}

-- what is found of the store and the moves of a script is found of it
raised_script : (budget : ℕ) (script : Script) (store : Store) (moves : List Move) → IsGiven script store moves → (outcome : Outcome) → Raises script.program store moves outcome → Lifts budget script outcome
raised_script budget script store moves given (TooLong most) h = absurd h
raised_script budget script store moves given (Unread fault) h = absurd h
raised_script budget script store moves given (Broken refusal) h = absurd h
raised_script budget script store moves given (Heavy program first) h = absurd h
raised_script budget script store moves given (Judged program told verdict) h = absurd h
raised_script budget script store moves given (Misfit number) h = absurd h
raised_script budget script store moves given NotInitial h = record { store = store; moves = moves; given = given; raises = h }
raised_script budget script store moves given (NotFailing moved) h = record { store = store; moves = moves; given = given; raises = h }
raised_script budget script store moves given (Lifted raised thread) h = record { store = store; moves = moves; given = given; raises = h }
raised_script budget script store moves given (Spent step thread) h = record { store = store; moves = moves; given = given; raises = h }

pub raised_in : (budget : ℕ) (script : Script) (store : Store) (moves : List Move) → IsGiven script store moves → (status : Status) (report : List ℕ)
    → Gives telling (Raises script.program store moves) status report → Gives telling (Lifts budget script) status report
raised_in budget script store moves given status report (inl a) = inl (record {
  outcome = a.outcome;
  says_so = raised_script budget script store moves given a.outcome a.says_so;
  status_is = a.status_is;
  report_is = a.report_is;
})
raised_in budget script store moves given status report (inr wants) = inr wants

module _ (words : List (List ℕ)) (budget : ℕ) (before after : ReadState) (report : List ℕ) (words_are : AskToLift budget words) where
  -- memory is wanting
  pub input_wanted : (status : Status) → WantsMemory status report → Judges words before after status report
  input_wanted status wants = subst (λ (s : Status). Judges words before after s report) (sym wants.status_is) (inr ((budget, words_are), wants.report_is))

  -- an input that was read past the limit
  pub long_judged : (status : Status) → ReadsPast limit before after → Gives telling (λ outcome. outcome ≡ TooLong limit) status report → Judges words before after status report
  long_judged status past (inl a) = inl (record {
    budget = budget;
    words_are = words_are;
    outcome = TooLong limit;
    reads = inl (refl, past);
    status_is = a.status_is ∙ ap status_of a.says_so;
    report_is = a.report_is ∙ ap report_of a.says_so;
  })
  long_judged status past (inr wants) = input_wanted status wants

  -- the source failed
  pub input_failed : Rose before.faults after.faults → report ≡ [] → Judges words before after ReadFault report
  input_failed rose is = inr ((budget, words_are), rose, is)

  -- an input that was read whole
  pub input_judged : (bytes : List ℕ) (status : Status) → ReadsText before after bytes → Gives telling (FindsBy budget bytes) status report → Judges words before after status report
  input_judged bytes status reads (inl a) = inl (record {
    budget = budget;
    words_are = words_are;
    outcome = a.outcome;
    reads = inr (bytes, reads, a.says_so);
    status_is = a.status_is;
    report_is = a.report_is;
  })
  input_judged bytes status reads (inr wants) = input_wanted status wants

-- the words are no command's
pub usage_judged : (words : List (List ℕ)) (before : ReadState) (status : Status) (report : List ℕ) → (AskToLiftSome words → ⊥) → status ≡ Usage → report ≡ usage_text → Judges words before before status report
usage_judged words before status report unasked is text = subst (λ (s : Status). Judges words before before s report) (sym is) (inr (unasked, refl, text))
