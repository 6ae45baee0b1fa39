-- From what is found of a program or a script to what is found of its text, and from there to what was read.
use Rattle.std.proofs.lemmas.Bool.{false≢true}
use Rattle.std.proofs.Common.{◌≡◌, ◌∙◌, ap, ◌==◌, true, false, ℕ, ◌<◌, ◌⊎◌, inl, inr, List, [], ◌++◌, length, refl, sym, subst}
use Rattle.civl_outside.specs.Count.{Rose}
use Rattle.civl_frontend.specs.Streams.{ReadState, ReadsPast, ReadsText}
use Rattle.civl_frontend.specs.Told.{WantsMemory, Gives}
use Rattle.civl_frontend.specs.Status.{code_of}
use Rattle.civl_frontend.specs.Report.{bytes_of}
use Rattle.civl_frontend.specs.declared.judged.Judged.{Judged}
use Rattle.civl_frontend.specs.declared.status.Status.{Status}
use Rattle.civl_frontend.specs.declared.status.Status.TheVariants.{ReadFault, Usage}
use Rattle.civl_command.specs.Tasks.{AskFor, AskForTrial, AreTaken}
use Rattle.civl_command.specs.Outcome.{TooLong, FindsBy, CallsFor, TrialCallsFor, status_of, report_of, telling, limit_of}
use Rattle.civl_command.specs.Judge.{IsJudged, TrialAnswers, Judges, usage_text}
use Rattle.civl_command.specs.Report.{trial_line}
use Rattle.civl_command.specs.declared.task.Task.{Task}

-- what is found of a text by a task is what the text calls for
pub called_in : (task : Task) (input : List ℕ) (judged : Judged) → IsJudged (FindsBy task input) judged → IsJudged (CallsFor task input) judged
called_in task input judged (inl a) = inl (record { outcome = a.outcome; says_so = inr a.says_so; status_is = a.status_is; report_is = a.report_is })
called_in task input judged (inr wants) = inr wants

-- and a text that is too long calls for that
pub long_in : (task : Task) (input : List ℕ) (judged : Judged) → limit_of task < length input → IsJudged (λ outcome. outcome ≡ TooLong (limit_of task)) judged → IsJudged (CallsFor task input) judged
long_in task input judged long (inl a) = inl (record { outcome = a.outcome; says_so = inl (a.says_so, long); status_is = a.status_is; report_is = a.report_is })
long_in task input judged long (inr wants) = inr wants

-- what is reported under the line of a trial, where memory isn't wanting
pub tried_in : (number : ℕ) (judged : Judged) (report : List ℕ) → IsJudged (TrialCallsFor number) judged → (code_of judged.status == 7) ≡ false
    → report ≡ trial_line number ++ bytes_of judged.report → TrialAnswers number judged.status report ⊎ WantsMemory judged.status report
tried_in number judged report (inl a) some is =
    inl (record { outcome = a.outcome; calls = a.says_so; status_is = a.status_is; report_is = is ∙ ap (λ (r : List ℕ). trial_line number ++ r) a.report_is })
tried_in number judged report (inr wants) some is =
    let code : (code_of judged.status == 7) ≡ true = ap (λ (s : Status). code_of s == 7) wants.status_is in
    absurd (false≢true (sym some ∙ code))

module _ (words : List (List ℕ)) (task : Task) (before after : ReadState) (report : List ℕ) (words_are : AskFor task words) where
  -- an input that was read past the limit
  pub long_judged : (most : ℕ) (status : Status) → most ≡ limit_of task → ReadsPast most before after → Gives telling (λ outcome. outcome ≡ TooLong most) status report → Judges words before after status report
  long_judged most status same past (inl a) = inl (record {
    task = task;
    words_are = words_are;
    outcome = TooLong (limit_of task);
    reads = inl (refl, subst (λ (m : ℕ). ReadsPast m before after) same past);
    status_is = a.status_is ∙ ap status_of (a.says_so ∙ ap TooLong same);
    report_is = a.report_is ∙ ap report_of (a.says_so ∙ ap TooLong same);
  })
  long_judged most status same past (inr wants) =
      subst (λ (s : Status). Judges words before after s report) (sym wants.status_is) (inr (inr (inl (task, words_are), wants.report_is)))

  -- memory is wanting
  pub input_wanted : (status : Status) → WantsMemory status report → Judges words before after status report
  input_wanted status wants = subst (λ (s : Status). Judges words before after s report) (sym wants.status_is) (inr (inr (inl (task, words_are), wants.report_is)))

  -- the source failed
  pub input_failed : Rose before.faults after.faults → report ≡ [] → Judges words before after ReadFault report
  input_failed rose is = inr (inr ((task, words_are), rose, is))

  -- an input that was read whole
  pub input_judged : (bytes : List ℕ) (status : Status) → ReadsText before after bytes → Gives telling (FindsBy task bytes) status report → Judges words before after status report
  input_judged bytes status reads (inl a) = inl (record {
    task = task;
    words_are = words_are;
    outcome = a.outcome;
    reads = inr (bytes, reads, a.says_so);
    status_is = a.status_is;
    report_is = a.report_is;
  })
  input_judged bytes status reads (inr wants) = input_wanted status wants

module _ (words : List (List ℕ)) (before : ReadState) (status : Status) (report : List ℕ) where
  -- memory is wanting before anything is read
  pub unread_wanted : WantsMemory status report → Judges words before before status report
  unread_wanted wants = subst (λ (s : Status). Judges words before before s report) (sym wants.status_is) (inr (inr (inr refl, wants.report_is)))

  -- the words are no command's
  pub usage_judged : (AreTaken words → ⊥) → status ≡ Usage → report ≡ usage_text → Judges words before before status report
  usage_judged untaken is text = subst (λ (s : Status). Judges words before before s report) (sym is) (inr (inr (untaken, refl, text)))

  -- a trial
  pub trial_judged : (number : ℕ) → AskForTrial number words → TrialAnswers number status report ⊎ WantsMemory status report → Judges words before before status report
  trial_judged number words_are (inl answers) = inr (inl (record { number = number; words_are = words_are; unread = refl; answers = answers }))
  trial_judged number words_are (inr wants) = unread_wanted wants
