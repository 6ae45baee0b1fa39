-- No other status of `check` than Done, but for WriteFault, has a report that begins with `accepted`; nor one of `prove` a report that
-- begins with `safe`.
use Rattle.std.specs.Prelude.{Some, codes}
use Rattle.std.proofs.Common.{◌≡◌, ℕ, ◌⊎◌, inl, inr, List, [], ◌∷◌, ◌++◌, sym, ap, ◌∙◌, subst, arith, Result, Ok, Err}
use Rattle.std.proofs.lemmas.List.{append_cancel_left}
use Rattle.civl_tree.specs.declared.program.Program.{Program}
use Rattle.civl_tree.proofs.Lists.{one_first}
use Rattle.civl_verdicts.specs.Verdicts.{IsVerdict}
use Rattle.civl_verdicts.proofs.verdict_reports.Beginning.{only_accepted_accepts}
use Rattle.civl_outlines.specs.declared.outline.Outline.{Outline}
use Rattle.civl_prove.specs.declared.outline_reports.proving.Proving.{Proving}
use Rattle.civl_prove.proofs.outline_reports.Beginning.{only_safe_is_safe}
use Rattle.civl_words.specs.Words.{usual_budget}
use Rattle.civl_frontend.specs.Report.{fault_text}
use Rattle.civl_frontend.specs.Texts.{limit}
use Rattle.civl_frontend.specs.Call.{Call}
use Rattle.civl_frontend.specs.declared.reader.Fault.{Fault}
use Rattle.civl_frontend.specs.declared.reader.Fault.TheVariants.{NoToken, NotHere, Deep}
use Rattle.civl_frontend.specs.declared.status.Status.{Status}
use Rattle.civl_frontend.specs.declared.status.Status.TheVariants.{Done, Rejected, Undecided, Refused, ReadFault, WriteFault, Usage, Memory}
use Rattle.civl_frontend.proofs.Streaming.{grown_by}
use Rattle.civl_command.specs.Tasks.{AskFor, AskForTrial, AreTaken}
use Rattle.civl_command.specs.Report.{trial_line}
use Rattle.civl_command.specs.Outcome.{Outcome, TooLong, Unread, Broken, Judged, Heavy, Proven, Checks, Proves, OfRead, TrialCallsFor, status_of, report_of}
use Rattle.civl_command.specs.Judge.{Reads, JudgesInput, JudgesTrial, Fails, Explains}
use Rattle.civl_command.specs.Statuses.{AcceptsAlone, IsSafeAlone}
use Rattle.civl_command.specs.declared.task.Task.{Task}
use Rattle.civl_command.specs.declared.task.Task.TheVariants.{Check, Prove}
use Rattle.civl_command.proofs.Asking.{same_task, same_trial, task_or_trial}
use Rattle.civl_command.proofs.Ways.{Ways, check_way, ProveWays, prove_way}

-- a text begins with `accepted`
abbrev Accepted : List ℕ → Type 0
Accepted text = (rest : List ℕ) × (text ≡ codes "accepted" ++ rest)

refused_first : (xs : List ℕ) → Accepted (114 ∷ xs) → ⊥
refused_first xs h = let bytes : 114 ≡ 97 = one_first 114 97 _ _ h.1 in omega (arith, bytes)

-- nothing doesn't begin so
nothing : (lines rest : List ℕ) → [] ≡ lines ++ (codes "accepted" ++ rest) → ⊥
nothing [] rest is = cc
nothing (x ∷ xs) rest is = cc

fault_first : (fault : Fault) → Accepted (fault_text fault) → ⊥
fault_first (NoToken place) h = refused_first _ h
fault_first (NotHere place) h = refused_first _ h
fault_first (Deep place) h = refused_first _ h

-- ---- what is found under `check`

accepted_of : (outcome one : Outcome) → outcome ≡ one → Accepted (report_of outcome) → Accepted (report_of one)
accepted_of outcome one is h = subst (λ (o : Outcome). Accepted (report_of o)) is h

way_alone : (budget : ℕ) (program : Program) (outcome : Outcome) → Ways (Judged program budget) (IsVerdict program budget) program outcome → Accepted (report_of outcome) → Done ≡ status_of outcome
way_alone budget program outcome (inl a) h = absurd (refused_first _ (accepted_of outcome (Broken a.refusal) a.is h))
way_alone budget program outcome (inr (inl a)) h = absurd (refused_first _ (accepted_of outcome (Heavy program a.first) a.is h))
way_alone budget program outcome (inr (inr a)) h =
    let text = accepted_of outcome (Judged program budget a.decided) a.is h in
    let accepted = only_accepted_accepts program budget a.decided text.0 text.1 in
    sym (ap status_of (a.is ∙ ap (Judged program budget) accepted.1))

read_alone : (budget : ℕ) (reading : Result Program Fault) (outcome : Outcome) → OfRead (Checks budget) reading outcome → Accepted (report_of outcome) → Done ≡ status_of outcome
read_alone budget (Ok program) outcome says h = way_alone budget program outcome (check_way budget program outcome says) h
read_alone budget (Err fault) outcome says h = absurd (fault_first fault (accepted_of outcome (Unread fault) says h))

module _ (call : Call) (text : List ℕ → List ℕ) (never : (rest : List ℕ) → [] ≡ text rest → ⊥) (taken_by : AreTaken call.words) where
  -- the report goes on as some text does
  abbrev GoesOn : List ℕ → Type 0
  GoesOn report = (rest : List ℕ) × (report ≡ text rest)

  failed_alone : (status : Status) (report : List ℕ) → Fails call.words call.source call.source_after status report → GoesOn report → ⊥
  failed_alone Done report f h = f
  failed_alone Rejected report f h = f
  failed_alone Undecided report f h = f
  failed_alone Refused report f h = f
  failed_alone ReadFault report f h = never h.0 (sym f.2 ∙ h.1)
  failed_alone WriteFault report f h = f
  failed_alone Usage report f h = f.0 taken_by
  failed_alone Memory report f h = never h.0 (sym f.1 ∙ h.1)

  -- so it is enough to look at the answers that are no failures
  alone_if : ((status : Status) (report : List ℕ) → JudgesInput call.words call.source call.source_after status report → GoesOn report → status ≡ Done)
      → ((status : Status) (report : List ℕ) → JudgesTrial call.words call.source call.source_after status report → GoesOn report → status ≡ Done)
      → Explains call → (taken rest : List ℕ) → call.sink.bytes ≡ Some taken → call.sink_after.bytes ≡ Some (taken ++ text rest)
      → (call.status ≡ Done) ⊎ (call.status ≡ WriteFault)
  alone_if on_input on_trial (inl (report, inl h, grown)) taken rest was is = inl (on_input call.status report h (rest, grown_by call.sink call.sink_after taken report (text rest) grown was is))
  alone_if on_input on_trial (inl (report, inr (inl t), grown)) taken rest was is = inl (on_trial call.status report t (rest, grown_by call.sink call.sink_after taken report (text rest) grown was is))
  alone_if on_input on_trial (inl (report, inr (inr f), grown)) taken rest was is = absurd (failed_alone call.status report f (rest, grown_by call.sink call.sink_after taken report (text rest) grown was is))
  alone_if on_input on_trial (inr h) taken rest was is = inr h.0

module _ (call : Call) (budget : ℕ) (ask : AskFor (Check budget) call.words) where
  found_alone : (outcome : Outcome) → Reads (Check budget) call.source call.source_after outcome → Accepted (report_of outcome) → Done ≡ status_of outcome
  found_alone outcome (inl past) h = absurd (refused_first _ (accepted_of outcome (TooLong limit) past.0 h))
  found_alone outcome (inr all) h = read_alone budget all.2.reading outcome all.2.says h

  judged_alone : (status : Status) (report : List ℕ) → JudgesInput call.words call.source call.source_after status report → Accepted report → status ≡ Done
  judged_alone status report h begins =
      let reads = subst (λ (t : Task). Reads t call.source call.source_after h.outcome) (same_task call.words h.task (Check budget) h.words_are ask) h.reads in
      h.status_is ∙ sym (found_alone h.outcome reads (subst Accepted h.report_is begins))

  pub alone_by : Explains call → AcceptsAlone [] call
  alone_by = alone_if call (λ rest. codes "accepted" ++ rest) (nothing []) (inl (Check budget, ask)) judged_alone
      (λ status report t begins. absurd (task_or_trial call.words (Check budget) t.number ask t.words_are))

module _ (call : Call) (number : ℕ) (trial : AskForTrial number call.words) where
  tried_alone : (outcome : Outcome) → TrialCallsFor number outcome → Accepted (report_of outcome) → Done ≡ status_of outcome
  tried_alone outcome (inl long) h = absurd (refused_first _ (accepted_of outcome (TooLong limit) long.0 h))
  tried_alone outcome (inr finds) h = read_alone usual_budget finds.reading outcome finds.says h

  under_line : (status : Status) (report : List ℕ) → JudgesTrial call.words call.source call.source_after status report → (rest : List ℕ) × (report ≡ trial_line number ++ (codes "accepted" ++ rest)) → status ≡ Done
  under_line status report t h =
      let line = ap trial_line (same_trial call.words t.number number t.words_are trial) in
      let same = sym (t.answers.report_is ∙ ap (λ (l : List ℕ). l ++ report_of t.answers.outcome) line) ∙ h.1 in
      let begins = append_cancel_left (trial_line number) (report_of t.answers.outcome) (codes "accepted" ++ h.0) same in
      let calls = subst (λ (n : ℕ). TrialCallsFor n t.answers.outcome) (same_trial call.words t.number number t.words_are trial) t.answers.calls in
      t.answers.status_is ∙ sym (tried_alone t.answers.outcome calls (h.0, begins))

  pub tried_alone_by : Explains call → AcceptsAlone (trial_line number) call
  tried_alone_by = alone_if call (λ rest. trial_line number ++ (codes "accepted" ++ rest)) (nothing (trial_line number)) (inr (number, trial))
      (λ status report h begins. absurd (task_or_trial call.words h.task number h.words_are trial)) under_line

-- ---- what is found under `prove`

-- a text begins with `safe`
abbrev Safe : List ℕ → Type 0
Safe text = (rest : List ℕ) × (text ≡ codes "safe" ++ rest)

never_safe : (xs : List ℕ) → Safe (114 ∷ xs) → ⊥
never_safe xs h = let bytes : 114 ≡ 115 = one_first 114 115 _ _ h.1 in omega (arith, bytes)

fault_safe : (fault : Fault) → Safe (fault_text fault) → ⊥
fault_safe (NoToken place) h = never_safe _ h
fault_safe (NotHere place) h = never_safe _ h
fault_safe (Deep place) h = never_safe _ h

safe_of : (outcome one : Outcome) → outcome ≡ one → Safe (report_of outcome) → Safe (report_of one)
safe_of outcome one is h = subst (λ (o : Outcome). Safe (report_of o)) is h

way_safe : (budget : ℕ) (outline : Outline) (outcome : Outcome) → ProveWays budget outline outcome → Safe (report_of outcome) → Done ≡ status_of outcome
way_safe budget outline outcome (inl a) h = absurd (never_safe _ (safe_of outcome (Broken a.refusal) a.is h))
way_safe budget outline outcome (inr a) h =
    let text = safe_of outcome (Proven outline budget a.found) a.is h in
    let safe = only_safe_is_safe outline.program budget a.found text.0 text.1 in
    sym (ap status_of (a.is ∙ ap (λ (f : Proving). Proven outline budget f) safe.2))

read_safe : (budget : ℕ) (reading : Result Outline Fault) (outcome : Outcome) → OfRead (Proves budget) reading outcome → Safe (report_of outcome) → Done ≡ status_of outcome
read_safe budget (Ok outline) outcome says h = way_safe budget outline outcome (prove_way budget outline outcome says) h
read_safe budget (Err fault) outcome says h = absurd (fault_safe fault (safe_of outcome (Unread fault) says h))

module _ (call : Call) (budget : ℕ) (ask : AskFor (Prove budget) call.words) where
  found_safe : (outcome : Outcome) → Reads (Prove budget) call.source call.source_after outcome → Safe (report_of outcome) → Done ≡ status_of outcome
  found_safe outcome (inl past) h = absurd (never_safe _ (safe_of outcome (TooLong limit) past.0 h))
  found_safe outcome (inr all) h = read_safe budget all.2.reading outcome all.2.says h

  judged_safe : (status : Status) (report : List ℕ) → JudgesInput call.words call.source call.source_after status report → Safe report → status ≡ Done
  judged_safe status report h begins =
      let reads = subst (λ (t : Task). Reads t call.source call.source_after h.outcome) (same_task call.words h.task (Prove budget) h.words_are ask) h.reads in
      h.status_is ∙ sym (found_safe h.outcome reads (subst Safe h.report_is begins))

  pub safe_alone_by : Explains call → IsSafeAlone call
  safe_alone_by = alone_if call (λ rest. codes "safe" ++ rest) (λ rest is. cc) (inl (Prove budget, ask)) judged_safe
      (λ status report t begins. absurd (task_or_trial call.words (Prove budget) t.number ask t.words_are))
