-- From what each status says of the source and the sink, whatever they tell, to what is promised where they tell their
-- bytes.
use Rattle.std.proofs.Common.{◌≡◌, ℕ, ◌<◌, ◌≤◌, ◌⊎◌, inl, inr, List, [], ◌++◌, length, refl, sym, ap, ◌∙◌, subst, arith, Result, Ok, Err}
use Rattle.std.specs.Prelude.{Option, Some}
use Rattle.std.specs.Io.KnownBytes.{Appends}
use Rattle.civl_outside.specs.Count.{Stayed}
use Rattle.civl_tree.specs.declared.program.Program.{Program}
use Rattle.civl_tree.specs.declared.script.Script.{Script}
use Rattle.civl_meaning.specs.declared.config.Plain.{Plain}
use Rattle.civl_meaning.specs.Layers.{lowest, topmost}
use Rattle.civl_script.specs.declared.replays.trace.Trace.{Trace}
use Rattle.civl_cnf.specs.Literal.{Literal}
use Rattle.civl_conditions.specs.declared.condition.Condition.{Condition}
use Rattle.civl_verdicts.specs.declared.survey.Survey.{Survey}
use Rattle.civl_verdicts.specs.declared.survey.Survey.TheVariants as survey
use Rattle.civl_verdicts.specs.declared.verdict.Counter.{Counter}
use Rattle.civl_verdicts.specs.declared.verdict.Verdict.{Verdict}
use Rattle.civl_verdicts.specs.declared.verdict.Verdict.TheVariants as verdict
use Rattle.civl_verdicts.specs.Surveys.{IsSurvey}
use Rattle.civl_verdicts.specs.Verdicts.{IsVerdict}
use Rattle.civl_verdicts.proofs.reports.Quiet.{never_accepts}
use Rattle.civl_verdicts.specs.verdict_reports.Verdicts.{accepted_text, rejected_text, undecided_text}
use Rattle.civl_reduction.specs.simulation.Preserved.{AcceptedProgramsPreserve}
use Rattle.civl_safety.specs.Safe.{LowestIsSafe}
use Rattle.civl_outlines.specs.declared.outline.Outline.{Outline}
use Rattle.civl_prove.specs.declared.proved.Proved.{Proved}
use Rattle.civl_prove.specs.declared.proved.Proved.TheVariants as proved
use Rattle.civl_prove.specs.declared.outline_reports.proving.Proving.{Proving}
use Rattle.civl_prove.specs.declared.outline_reports.proving.Proving.TheVariants as proving
use Rattle.civl_prove.specs.outline_reports.Reports.{safe_text, unproved_text, open_text}
use Rattle.civl_certify.specs.declared.certified.Certified.TheVariants as certified
use Rattle.civl_certify.specs.declared.proof_reports.making.Making.{Making}
use Rattle.civl_certify.specs.declared.proof_reports.making.Making.TheVariants as making
use Rattle.civl_certify.specs.declared.proof_reports.replaying.Replaying.{Replaying}
use Rattle.civl_certify.specs.declared.proof_reports.replaying.Replaying.TheVariants as replaying
use Rattle.civl_words.specs.Words.{usual_budget}
use Rattle.civl_frontend.specs.Texts.{SpellsOutline, IsReading, IsScriptReading, IsOutlineReading, limit}
use Rattle.civl_frontend.specs.Status.{verdict_status, code_of}
use Rattle.civl_frontend.specs.Streams.{ReadState, WriteState, IsReported, Writes}
use Rattle.civl_frontend.specs.Call.{Call, Reports, OnInput}
use Rattle.civl_frontend.specs.declared.reader.Fault.{Fault}
use Rattle.civl_frontend.specs.declared.status.Status.{Status}
use Rattle.civl_frontend.specs.declared.status.Status.TheVariants.{Done, Rejected, Undecided, Refused, ReadFault, WriteFault, Usage, Memory}
use Rattle.civl_frontend.proofs.Streaming.{grown_as, not_both}
use Rattle.civl_frontend.proofs.Telling.{verdict_code, silent_failure, all_found, written, called, carried, IsSpelled, spelled as spelled_of}
use Rattle.civl_frontend.proofs.Lawful.{text_written}
use Rattle.civl_frontend.proofs.Accepting.{preserved}
use Rattle.civl_command.specs.Tasks.{AskFor, AskForSome, AskForTrial, AreTaken}
use Rattle.civl_command.specs.Outcome.{Outcome, TooLong, Unread, Broken, Judged, Heavy, Surveyed, Printed, Misfit, Ran, Proven, Asked, Replayed, Checks, Surveys, Proves, Asks, Prints, Runs, OfRead, Finds, FindsBy, TrialCallsFor, survey_status, proved_status, proving_status, making_status, replaying_status, status_of, report_of, telling, trial_text, trial_report, limit_of}
use Rattle.civl_command.specs.Judge.{Reads, JudgesInput, JudgesTrial, Fails, Judges, Explains, usage_text}
use Rattle.civl_command.specs.Report.{run_text, trial_line}
use Rattle.civl_command.specs.Statuses.{OnTrial, SpellsTaken, Accepts, AcceptsRightly, IsSafeRightly, Rejects, RejectsProving, RejectsRightly, LeavesOpen, LeavesProvingOpen, LeavesOpenRightly, Tells, SurveysRightly, PrintsRightly, Replays, ReplaysRightly, CertifiesRightly, RefutesRightly, RefusesRightly, AnswersAs, IsComplete, TrialAnswersAs, IsTrialComplete}
use Rattle.civl_command.specs.declared.task.Task.{Task}
use Rattle.civl_command.specs.declared.task.Task.TheVariants.{Check, Conditions, Fmt, RunLow, RunTop, Prove, Make, Replay}
use Rattle.civl_command.proofs.Asking.{same_task, same_trial, task_or_trial}
use Rattle.civl_command.proofs.Agreeing.{one_outcome}
use Rattle.civl_command.proofs.Certifying.{certifying, replayed_as}
use Rattle.civl_command.proofs.Showing.{ShowsRejected, ShowsUnproved, ShowsUndecided, ShowsOpen, shown_safe, shown_rejected, shown_undecided}
use Rattle.civl_command.proofs.Ways.{Ways, IsDecided, check_way, survey_way, ProveWays, IsProven, prove_way, AskWays, IsAsked, ask_way, RunWays, IsRun, run_way}

-- ---- what the ends keep

survey_code : (s : Survey) → code_of (survey_status s) ≤ 3
survey_code survey.NoInitial = omega arith
survey_code (survey.Findings initial findings) = omega arith

proved_code : (f : Proved) → code_of (proved_status f) ≤ 3
proved_code (proved.All count) = omega arith
proved_code (proved.Fails goal values) = omega arith
proved_code (proved.Undecided goal log) = omega arith

proving_code : (f : Proving) → code_of (proving_status f) ≤ 3
proving_code (proving.Note number) = omega arith
proving_code (proving.Roots item statement) = omega arith
proving_code (proving.Heavy first) = omega arith
proving_code (proving.HeavyGoal goal) = omega arith
proving_code (proving.Judged v) = verdict_code v
proving_code (proving.Decided count found) = proved_code found

making_code : (m : Making) → code_of (making_status m) ≤ 3
making_code (making.Heavy first) = omega arith
making_code (making.Beyond count) = omega arith
making_code (making.Shown condition certified.NoInitial) = omega arith
making_code (making.Shown condition (certified.Answer initial shown)) = omega arith

replaying_code : (r : Replaying) → code_of (replaying_status r) ≤ 3
replaying_code (replaying.Unread place) = omega arith
replaying_code (replaying.Read found) = omega arith

-- no outcome fails
outcome_code : (outcome : Outcome) → code_of (status_of outcome) ≤ 3
outcome_code (TooLong most) = omega arith
outcome_code (Unread fault) = omega arith
outcome_code (Broken refusal) = omega arith
outcome_code (Heavy program first) = omega arith
outcome_code (Judged program budget v) = verdict_code v
outcome_code (Surveyed program budget s) = survey_code s
outcome_code (Printed program) = omega arith
outcome_code (Misfit number) = omega arith
outcome_code (Ran program trace) = omega arith
outcome_code (Proven outline budget found) = proving_code found
outcome_code (Asked program at budget m) = making_code m
outcome_code (Replayed r) = replaying_code r

no_outcome : (status : Status) (outcome : Outcome) → 3 < code_of status → status ≡ status_of outcome → ⊥
no_outcome status outcome high is = let code = ap code_of is in omega (arith, outcome_code outcome, code)

pub silent : (words : List (List ℕ)) (before after : ReadState) (status : Status) (report : List ℕ) → Judges words before after status report
    → (status ≡ ReadFault) ⊎ (status ≡ Memory) → report ≡ []
silent words before after status report (inl h) (inl is) =
    let code = ap code_of is in absurd (no_outcome status h.outcome (omega (arith, code)) h.status_is)
silent words before after status report (inl h) (inr is) =
    let code = ap code_of is in absurd (no_outcome status h.outcome (omega (arith, code)) h.status_is)
silent words before after status report (inr (inl t)) (inl is) =
    let code = ap code_of is in absurd (no_outcome status t.answers.outcome (omega (arith, code)) t.answers.status_is)
silent words before after status report (inr (inl t)) (inr is) =
    let code = ap code_of is in absurd (no_outcome status t.answers.outcome (omega (arith, code)) t.answers.status_is)
silent words before after status report (inr (inr f)) is =
    silent_failure (AskForSome words) (AreTaken words) (AskForSome words ⊎ (after ≡ before)) usage_text before after status report f is

-- on Usage the words ask for nothing of an input
pub usage_unasked : (words : List (List ℕ)) (before after : ReadState) (sink sink_after : WriteState) → IsReported (Judges words before after) sink sink_after Usage → AskForSome words → ⊥
usage_unasked words before after sink sink_after (inl (report, inl h, grown)) = λ ask. no_outcome Usage h.outcome (omega arith) h.status_is
usage_unasked words before after sink sink_after (inl (report, inr (inl t), grown)) = λ ask. no_outcome Usage t.answers.outcome (omega arith) t.answers.status_is
usage_unasked words before after sink sink_after (inl (report, inr (inr f), grown)) = λ ask. f.0 (inl ask)
usage_unasked words before after sink sink_after (inr h) = let is = h.0 in absurd cc

-- an input that was read past the limit is refused
long_refused : (most : ℕ) (outcome : Outcome) (status : Status) → outcome ≡ TooLong most → status ≡ status_of outcome → status ≡ Refused
long_refused most outcome status long is = is ∙ ap status_of long

done_not_refused : Done ≡ Refused → ⊥
done_not_refused e = cc

rejected_not_refused : Rejected ≡ Refused → ⊥
rejected_not_refused e = cc

undecided_not_refused : Undecided ≡ Refused → ⊥
undecided_not_refused e = cc

-- ---- what is found of a text that isn't refused

module _ {A : Type 0} (IsRead : List ℕ → Result A Fault → Type 0) (Says : A → Outcome → Type 0) (input : List ℕ) (outcome : Outcome) (status : Status) (some : status ≡ Refused → ⊥) (is : status ≡ status_of outcome) where
  spelled : Finds IsRead Says input outcome → IsSpelled IsRead Says input outcome
  spelled found = spelled_of telling IsRead Says input outcome (λ fault e. some (is ∙ ap status_of e)) found

-- and is neither refused nor heavy
decided : {D : Type 0} (tell : D → Outcome) (IsRight : D → Type 0) (program : Program) (outcome : Outcome) (status : Status) → (status ≡ Refused → ⊥) → status ≡ status_of outcome
    → Ways tell IsRight program outcome → IsDecided tell IsRight program outcome
decided tell IsRight program outcome status some is (inl a) = absurd (some (is ∙ ap status_of a.is))
decided tell IsRight program outcome status some is (inr (inl a)) = absurd (some (is ∙ ap status_of a.is))
decided tell IsRight program outcome status some is (inr (inr a)) = a

-- a verdict
record HasVerdict (input : List ℕ) (budget : ℕ) (outcome : Outcome) (status : Status) : Type 0 where
  program : Program
  given : SpellsTaken input program
  verdict_ : Verdict
  right : IsVerdict program budget verdict_
  is : outcome ≡ Judged program budget verdict_
  status_is : status ≡ verdict_status verdict_

checked : (input : List ℕ) (budget : ℕ) (outcome : Outcome) (status : Status) → (status ≡ Refused → ⊥) → status ≡ status_of outcome → Finds IsReading (Checks budget) input outcome → HasVerdict input budget outcome status
checked input budget outcome status some is found =
    let s = spelled IsReading (Checks budget) input outcome status some is found in
    let d = decided (Judged s.value budget) (IsVerdict s.value budget) s.value outcome status some is (check_way budget s.value outcome s.says) in
    record {
      program = s.value;
      given = record { spells = s.read.0; taken = d.taken };
      verdict_ = d.decided;
      right = d.right;
      is = d.is;
      status_is = is ∙ ap status_of d.is;
    }

-- ---- what is accepted, rejected and left open

record IsAccepted (input : List ℕ) (outcome : Outcome) : Type 0 where
  program : Program
  count : ℕ
  accepts : Accepts input program count
  report_is : report_of outcome ≡ accepted_text count

accepted : AcceptedProgramsPreserve → (input : List ℕ) (budget : ℕ) (outcome : Outcome) → length input ≤ limit → HasVerdict input budget outcome Done → IsAccepted input outcome
accepted law input budget outcome short h = by h.verdict_ h.right h.is h.status_is
  where
    by : (v : Verdict) → IsVerdict h.program budget v → outcome ≡ Judged h.program budget v → Done ≡ verdict_status v → IsAccepted input outcome
    by (verdict.Accepted count) right is same = record {
      program = h.program;
      count = count;
      accepts = record {
        spelled = h.given;
        preserves = preserved law input h.program short h.given.spells h.given.taken.rules right.1 right.0;
        hold = right.1;
        count_is = right.2;
      };
      report_is = ap report_of is;
    }
    by (verdict.Rejected counter) right is same = cc
    by (verdict.Undecided formula log) right is same = cc
    by verdict.NoInitial right is same = cc

record IsRejected (input : List ℕ) (outcome : Outcome) : Type 0 where
  program : Program
  counter : Counter
  rejects : Rejects input program counter
  report_is : report_of outcome ≡ rejected_text program counter

rejected : (input : List ℕ) (budget : ℕ) (outcome : Outcome) → HasVerdict input budget outcome Rejected → IsRejected input outcome
rejected input budget outcome h = by h.verdict_ h.right h.is h.status_is
  where
    by : (v : Verdict) → IsVerdict h.program budget v → outcome ≡ Judged h.program budget v → Rejected ≡ verdict_status v → IsRejected input outcome
    by (verdict.Accepted count) right is same = cc
    by (verdict.Rejected counter) right is same = record {
      program = h.program;
      counter = counter;
      rejects = record { spelled = h.given; place = right.0.0; reached = right.0.1; violates = right.1 };
      report_is = ap report_of is;
    }
    by (verdict.Undecided formula log) right is same = cc
    by verdict.NoInitial right is same = cc

record IsOpen (input : List ℕ) (budget : ℕ) (outcome : Outcome) : Type 0 where
  program : Program
  formula : Option Condition
  log : List (List Literal)
  leaves : LeavesOpen input budget program formula log
  report_is : report_of outcome ≡ undecided_text program formula budget

left_open : (input : List ℕ) (budget : ℕ) (outcome : Outcome) → HasVerdict input budget outcome Undecided → IsOpen input budget outcome
left_open input budget outcome h = by h.verdict_ h.right h.is h.status_is
  where
    by : (v : Verdict) → IsVerdict h.program budget v → outcome ≡ Judged h.program budget v → Undecided ≡ verdict_status v → IsOpen input budget outcome
    by (verdict.Accepted count) right is same = cc
    by (verdict.Rejected counter) right is same = cc
    by (verdict.Undecided formula log) right is same = record {
      program = h.program;
      formula = formula;
      log = log;
      leaves = record { spelled = h.given; undecided = right };
      report_is = ap report_of is;
    }
    by verdict.NoInitial right is same = cc

-- ---- every other command does what it says, or refuses

abbrev IsPlain : Outcome → Type 0
IsPlain outcome = (Done ≡ status_of outcome) ⊎ (Refused ≡ status_of outcome)

survey_plain : (s : Survey) → (Done ≡ survey_status s) ⊎ (Refused ≡ survey_status s)
survey_plain survey.NoInitial = inr refl
survey_plain (survey.Findings initial findings) = inl refl

way_plain : {D : Type 0} (tell : D → Outcome) (IsRight : D → Type 0) (program : Program) (outcome : Outcome) → ((d : D) → IsPlain (tell d)) → Ways tell IsRight program outcome → IsPlain outcome
way_plain tell IsRight program outcome plain (inl a) = inr (sym (ap status_of a.is))
way_plain tell IsRight program outcome plain (inr (inl a)) = inr (sym (ap status_of a.is))
way_plain tell IsRight program outcome plain (inr (inr a)) = subst IsPlain (sym a.is) (plain a.decided)

run_plain : (plain_of : Program → Plain) (script : Script) (outcome : Outcome) → RunWays plain_of script outcome → IsPlain outcome
run_plain plain_of script outcome (inl a) = inr (sym (ap status_of a.is))
run_plain plain_of script outcome (inr (inl a)) = inr (sym (ap status_of a.is))
run_plain plain_of script outcome (inr (inr a)) = inl (sym (ap status_of a.is))

making_plain : (m : Making) → (Done ≡ making_status m) ⊎ (Refused ≡ making_status m)
making_plain (making.Heavy first) = inr refl
making_plain (making.Beyond count) = inr refl
making_plain (making.Shown condition certified.NoInitial) = inr refl
making_plain (making.Shown condition (certified.Answer initial shown)) = inl refl

ask_plain : (at budget : ℕ) (program : Program) (outcome : Outcome) → AskWays at budget program outcome → IsPlain outcome
ask_plain at budget program outcome (inl a) = inr (sym (ap status_of a.is))
ask_plain at budget program outcome (inr a) = subst IsPlain (sym a.is) (making_plain a.making)

replaying_plain : (r : Replaying) → (Done ≡ replaying_status r) ⊎ (Refused ≡ replaying_status r)
replaying_plain (replaying.Unread place) = inr refl
replaying_plain (replaying.Read found) = inl refl

module _ {A : Type 0} (IsRead : List ℕ → Result A Fault → Type 0) (Says : A → Outcome → Type 0) (input : List ℕ) (outcome : Outcome) (plain : (value : A) → Says value outcome → IsPlain outcome) where
  read_plain : (reading : Result A Fault) → OfRead Says reading outcome → IsPlain outcome
  read_plain (Ok value) says = plain value says
  read_plain (Err fault) says = inr (sym (ap status_of says))

  find_plain : Finds IsRead Says input outcome → IsPlain outcome
  find_plain found = read_plain found.reading found.says

-- so what isn't plain is found under `check` or `prove`
record IsOf (task_of : ℕ → Task) (task : Task) : Type 0 where
  budget : ℕ
  task_is : task ≡ task_of budget

abbrev IsOfCheck : Task → Type 0
IsOfCheck task = IsOf (λ budget. Check budget) task

abbrev IsOfProve : Task → Type 0
IsOfProve task = IsOf (λ budget. Prove budget) task

of_check : (task : Task) (input : List ℕ) (outcome : Outcome) → (IsPlain outcome → ⊥) → FindsBy task input outcome → IsOfCheck task ⊎ IsOfProve task
of_check (Check budget) input outcome other found = inl (record { budget = budget; task_is = refl })
of_check (Prove budget) input outcome other found = inr (record { budget = budget; task_is = refl })
of_check (Conditions budget) input outcome other found =
    absurd (other (find_plain IsReading (Surveys budget) input outcome
    (λ program says. way_plain (Surveyed program budget) _ program outcome survey_plain (survey_way budget program outcome says)) found))
of_check Fmt input outcome other found = absurd (other (find_plain IsReading Prints input outcome (λ program says. inl (sym (ap status_of says))) found))
of_check RunLow input outcome other found = absurd (other (find_plain IsScriptReading (Runs lowest) input outcome (λ script says. run_plain lowest script outcome (run_way lowest script outcome says)) found))
of_check RunTop input outcome other found = absurd (other (find_plain IsScriptReading (Runs topmost) input outcome (λ script says. run_plain topmost script outcome (run_way topmost script outcome says)) found))
of_check (Make at budget) input outcome other found =
    absurd (other (find_plain IsReading (Asks at budget) input outcome (λ program says. ask_plain at budget program outcome (ask_way at budget program outcome says)) found))
of_check Replay input outcome other found = absurd (other (subst IsPlain (sym found.outcome_is) (replaying_plain found.replaying_)))

rejected_other : (outcome : Outcome) → Rejected ≡ status_of outcome → IsPlain outcome → ⊥
rejected_other outcome is (inl done) = let e : Rejected ≡ Done = is ∙ sym done in cc
rejected_other outcome is (inr refused) = let e : Rejected ≡ Refused = is ∙ sym refused in cc

undecided_other : (outcome : Outcome) → Undecided ≡ status_of outcome → IsPlain outcome → ⊥
undecided_other outcome is (inl done) = let e : Undecided ≡ Done = is ∙ sym done in cc
undecided_other outcome is (inr refused) = let e : Undecided ≡ Refused = is ∙ sym refused in cc

-- ---- what is told and replayed

record IsTold (input : List ℕ) (budget : ℕ) (outcome : Outcome) : Type 0 where
  program : Program
  found : Survey
  tells : Tells input budget program found
  is : outcome ≡ Surveyed program budget found

told_of : (input : List ℕ) (budget : ℕ) (outcome : Outcome) → Done ≡ status_of outcome → Finds IsReading (Surveys budget) input outcome → IsTold input budget outcome
told_of input budget outcome is found =
    let s = spelled IsReading (Surveys budget) input outcome Done done_not_refused is found in
    let d = decided (Surveyed s.value budget) (IsSurvey s.value budget) s.value outcome Done done_not_refused is (survey_way budget s.value outcome s.says) in
    record {
      program = s.value;
      found = d.decided;
      tells = record {
        spelled = record { spells = s.read.0; taken = d.taken };
        found = d.right;
        never_accepts = never_accepts s.value budget d.decided (text_written input s.value s.read.0);
      };
      is = d.is;
    }

replayed : (plain_of : Program → Plain) (script : Script) (outcome : Outcome) → Done ≡ status_of outcome → RunWays plain_of script outcome → IsRun plain_of script outcome
replayed plain_of script outcome is (inl a) = absurd (done_not_refused (is ∙ ap status_of a.is))
replayed plain_of script outcome is (inr (inl a)) = absurd (done_not_refused (is ∙ ap status_of a.is))
replayed plain_of script outcome is (inr (inr a)) = a

proven_by : (budget : ℕ) (outline : Outline) (outcome : Outcome) (status : Status) → (status ≡ Refused → ⊥) → status ≡ status_of outcome → ProveWays budget outline outcome → IsProven budget outline outcome
proven_by budget outline outcome status some is (inl a) = absurd (some (is ∙ ap status_of a.is))
proven_by budget outline outcome status some is (inr a) = a

-- what `prove` finds where it isn't refused
record HasProving (input : List ℕ) (budget : ℕ) (outcome : Outcome) : Type 0 where
  outline : Outline
  spells : SpellsOutline input outline
  proven : IsProven budget outline outcome
  short : length input ≤ limit

outlined : (input : List ℕ) (budget : ℕ) (outcome : Outcome) (status : Status) → (status ≡ Refused → ⊥) → status ≡ status_of outcome → Finds IsOutlineReading (Proves budget) input outcome → HasProving input budget outcome
outlined input budget outcome status some is found =
    let s = spelled IsOutlineReading (Proves budget) input outcome status some is found in
    record { outline = s.value; spells = s.read.0; proven = proven_by budget s.value outcome status some is (prove_way budget s.value outcome s.says); short = found.short }

asked_by : (at budget : ℕ) (program : Program) (outcome : Outcome) → Done ≡ status_of outcome → AskWays at budget program outcome → IsAsked at budget program outcome
asked_by at budget program outcome is (inl a) = absurd (done_not_refused (is ∙ ap status_of a.is))
asked_by at budget program outcome is (inr a) = a

-- what the status says of the rest of the call, if it is this one
abbrev pub ExplainsAs : Call → Status → Type 0
ExplainsAs call status = IsReported (Judges call.words call.source call.source_after) call.sink call.sink_after status

module _ (call : Call) where
  -- what was found of the whole input for a task, where it isn't refused
  record Judgement (task : Task) (input : List ℕ) (status : Status) : Type 0 where
    outcome : Outcome
    finds : FindsBy task input outcome
    status_is : status ≡ status_of outcome
    does : Reports call (report_of outcome)

  judgement : (status : Status) (report input : List ℕ) → (status ≡ Refused → ⊥) → call.source.left ≡ Some input → Appends call.sink.bytes call.sink_after.bytes report
      → (h : JudgesInput call.words call.source call.source_after status report) → Judgement h.task input status
  judgement status report input some told grown h = by h.reads
    where
      by : Reads h.task call.source call.source_after h.outcome → Judgement h.task input status
      by (inl past) = absurd (some (long_refused _ h.outcome status past.0 h.status_is))
      by (inr all) =
          let found = all_found (FindsBy h.task) call.source call.source_after input h.outcome told all in
          record {
            outcome = h.outcome;
            finds = found.finds;
            status_is = h.status_is;
            does = record { read = found.read; written = written telling (limit_of h.task) (FindsBy h.task) call.source call.source_after call.sink call.sink_after input report told grown h.outcome h.report_is };
          }

  -- what was found of the text of a trial
  record Trial (number : ℕ) (status : Status) : Type 0 where
    outcome : Outcome
    calls : TrialCallsFor number outcome
    status_is : status ≡ status_of outcome
    writes : Writes call.sink call.sink_after (trial_report number outcome)

  trial_of : (status : Status) (report : List ℕ) → Appends call.sink.bytes call.sink_after.bytes report → (t : JudgesTrial call.words call.source call.source_after status report) → Trial t.number status
  trial_of status report grown t = record {
    outcome = t.answers.outcome;
    calls = t.answers.calls;
    status_is = t.answers.status_is;
    writes = grown_as call.sink call.sink_after report (trial_report t.number t.answers.outcome) grown t.answers.report_is;
  }

  -- a report on an input, written whole
  abbrev IsOnInput : Status → Type 0
  IsOnInput status = (report : List ℕ) × JudgesInput call.words call.source call.source_after status report × Appends call.sink.bytes call.sink_after.bytes report

  -- a report on the text of a trial, written whole
  abbrev IsOnTrial : Status → Type 0
  IsOnTrial status = (number : ℕ) × AskForTrial number call.words × Trial number status

  -- where the report was written whole, and no failure has this status
  judged_by : (status : Status) → (status ≡ WriteFault → ⊥) → ((report : List ℕ) → Fails call.words call.source call.source_after status report → ⊥) → ExplainsAs call status
      → IsOnInput status ⊎ IsOnTrial status
  judged_by status no_fault no_failure (inl (report, inl h, grown)) = inl (report, h, grown)
  judged_by status no_fault no_failure (inl (report, inr (inl t), grown)) = inr (t.number, t.words_are, trial_of status report grown t)
  judged_by status no_fault no_failure (inl (report, inr (inr f), grown)) = absurd (no_failure report f)
  judged_by status no_fault no_failure (inr h) = absurd (no_fault h.0)

  -- for the task that the words ask for
  done_by : (wanted : Task) → ExplainsAs call Done → AskFor wanted call.words → (input : List ℕ) → call.source.left ≡ Some input → Judgement wanted input Done
  done_by wanted e ask input told = by (judged_by Done (λ i. cc) (λ report f. f) e)
    where
      by : IsOnInput Done ⊎ IsOnTrial Done → Judgement wanted input Done
      by (inl (report, h, grown)) =
          subst (λ (t : Task). Judgement t input Done) (same_task call.words h.task wanted h.words_are ask) (judgement Done report input done_not_refused told grown h)
      by (inr (number, trial, t)) = absurd (task_or_trial call.words wanted number ask trial)

  -- the report in other words
  written_as : (input report : List ℕ) (outcome : Outcome) → report_of outcome ≡ report → Reports call (report_of outcome) → Reports call report
  written_as input report outcome is does = subst (λ (r : List ℕ). Reports call r) is does

  pub accepts_by : AcceptedProgramsPreserve → (budget : ℕ) → ExplainsAs call Done → AskFor (Check budget) call.words → OnInput call AcceptsRightly
  accepts_by law budget e check input is =
      let found = done_by (Check budget) e check input is in
      let h = checked input budget found.outcome Done done_not_refused found.status_is found.finds in
      let a = accepted law input budget found.outcome found.finds.short h in
      (a.program, a.count, a.accepts, written_as input (accepted_text a.count) found.outcome a.report_is found.does)

  pub surveys_by : (budget : ℕ) → ExplainsAs call Done → AskFor (Conditions budget) call.words → OnInput call (SurveysRightly budget)
  surveys_by budget e conditions input is =
      let found = done_by (Conditions budget) e conditions input is in
      let t = told_of input budget found.outcome found.status_is found.finds in
      (t.program, t.found, t.tells, written_as input _ found.outcome (ap report_of t.is) found.does)

  pub prints_by : ExplainsAs call Done → AskFor Fmt call.words → OnInput call PrintsRightly
  prints_by e fmt input told =
      let found = done_by Fmt e fmt input told in
      let p = spelled IsReading Prints input found.outcome Done done_not_refused found.status_is found.finds in
      (p.value, p.read.0, written_as input _ found.outcome (ap report_of p.says) found.does)

  replays_by : (plain_of : Program → Plain) (input : List ℕ) (outcome : Outcome) → Done ≡ status_of outcome → Finds IsScriptReading (Runs plain_of) input outcome → Reports call (report_of outcome)
      → (script : Script) × (trace : Trace) × Replays plain_of input script trace × Reports call (run_text script.program trace)
  replays_by plain_of input outcome is finds does =
      let s = spelled IsScriptReading (Runs plain_of) input outcome Done done_not_refused is finds in
      let r = replayed plain_of s.value outcome is (run_way plain_of s.value outcome s.says) in
      (s.value, r.trace, record { spells = s.read.0; rules = r.rules; runs = r.runs }, written_as input _ outcome (ap report_of r.is) does)

  pub low_by : ExplainsAs call Done → AskFor RunLow call.words → OnInput call (ReplaysRightly lowest)
  low_by e low input told = let found = done_by RunLow e low input told in replays_by lowest input found.outcome found.status_is found.finds found.does

  pub top_by : ExplainsAs call Done → AskFor RunTop call.words → OnInput call (ReplaysRightly topmost)
  top_by e top input told = let found = done_by RunTop e top input told in replays_by topmost input found.outcome found.status_is found.finds found.does

  -- ---- outlines

  pub safe_by : LowestIsSafe → (budget : ℕ) → ExplainsAs call Done → AskFor (Prove budget) call.words → OnInput call IsSafeRightly
  safe_by law budget e prove input told =
      let found = done_by (Prove budget) e prove input told in
      let h = outlined input budget found.outcome Done done_not_refused found.status_is found.finds in
      let s = shown_safe input budget found.outcome h.outline h.short h.spells h.proven law found.status_is in
      (s.outline, s.count, s.safe, written_as input (safe_text s.count) found.outcome s.report_is found.does)

  rejects_proving : (input : List ℕ) (outcome : Outcome) → Reports call (report_of outcome) → ShowsRejected input outcome ⊎ ShowsUnproved input outcome → RejectsProving input (Reports call)
  rejects_proving input outcome does (inl s) = inl (s.outline, s.counter, s.rejects, written_as input (rejected_text s.outline.program s.counter) outcome s.report_is does)
  rejects_proving input outcome does (inr s) = inr (s.outline, s.goal, s.values, s.unproves, written_as input (unproved_text s.outline.program s.goal s.values) outcome s.report_is does)

  leaves_proving : (input : List ℕ) (budget : ℕ) (outcome : Outcome) → Reports call (report_of outcome) → ShowsUndecided input budget outcome ⊎ ShowsOpen input budget outcome
      → LeavesProvingOpen budget input (Reports call)
  leaves_proving input budget outcome does (inl s) = inl (s.outline, s.formula, s.log, s.leaves, written_as input (undecided_text s.outline.program s.formula budget) outcome s.report_is does)
  leaves_proving input budget outcome does (inr s) = inr (s.outline, s.goal, s.log, s.leaves, written_as input (open_text s.outline.program s.goal budget) outcome s.report_is does)

  -- ---- certificates

  pub certifies_by : (at budget : ℕ) → ExplainsAs call Done → AskFor (Make at budget) call.words → OnInput call (CertifiesRightly at budget)
  certifies_by at budget e make input told =
      let found = done_by (Make at budget) e make input told in
      let s = spelled IsReading (Asks at budget) input found.outcome Done done_not_refused found.status_is found.finds in
      let asked = asked_by at budget s.value found.outcome found.status_is (ask_way at budget s.value found.outcome s.says) in
      let c = certifying input at budget found.outcome s.value s.read.0 asked found.status_is in
      (c.program, c.condition, c.initial, c.shown, c.certifies, written_as input _ found.outcome c.report_is found.does)

  pub refutes_by : ExplainsAs call Done → AskFor Replay call.words → OnInput call RefutesRightly
  refutes_by e replay input told =
      let found = done_by Replay e replay input told in
      let r = replayed_as input found.outcome found.finds found.status_is in
      (r.set, r.log, r.found, r.replayed, written_as input _ found.outcome (ap report_of r.is) found.does)

  -- ---- what is found of the text of a trial

  -- a text that isn't refused isn't too long
  tried_whole : (number : ℕ) (status : Status) → (status ≡ Refused → ⊥) → (t : Trial number status) → Finds IsReading (Checks usual_budget) (trial_text number) t.outcome
  tried_whole number status some t = by t.calls
    where
      by : TrialCallsFor number t.outcome → Finds IsReading (Checks usual_budget) (trial_text number) t.outcome
      by (inl long) = absurd (some (long_refused _ t.outcome status long.0 t.status_is))
      by (inr finds) = finds

  -- the report in other words
  tried_as : (number : ℕ) (report : List ℕ) (outcome : Outcome) → report_of outcome ≡ report → Writes call.sink call.sink_after (trial_report number outcome) → Writes call.sink call.sink_after (trial_line number ++ report)
  tried_as number report outcome is writes = subst (λ (r : List ℕ). Writes call.sink call.sink_after (trial_line number ++ r)) is writes

  tried_accepts : AcceptedProgramsPreserve → (number : ℕ) → Trial number Done → OnTrial call number AcceptsRightly
  tried_accepts law number t =
      let finds = tried_whole number Done done_not_refused t in
      let h = checked (trial_text number) usual_budget t.outcome Done done_not_refused t.status_is finds in
      let a = accepted law (trial_text number) usual_budget t.outcome finds.short h in
      (a.program, a.count, a.accepts, tried_as number (accepted_text a.count) t.outcome a.report_is t.writes)

  pub tries_by : AcceptedProgramsPreserve → (number : ℕ) → ExplainsAs call Done → AskForTrial number call.words → OnTrial call number AcceptsRightly
  tries_by law number e trial = by (judged_by Done (λ i. cc) (λ report f. f) e)
    where
      by : IsOnInput Done ⊎ IsOnTrial Done → OnTrial call number AcceptsRightly
      by (inl (report, h, grown)) = absurd (task_or_trial call.words h.task number h.words_are trial)
      by (inr (other, also, t)) = subst (λ (n : ℕ). OnTrial call n AcceptsRightly) (same_trial call.words other number also trial) (tried_accepts law other t)

  -- ---- what is rejected and left open

  -- a report on an input that is neither plain nor a refusal is one of `check` or of `prove`
  on_check : (status : Status) → (status ≡ Refused → ⊥) → ((outcome : Outcome) → status ≡ status_of outcome → IsPlain outcome → ⊥) → (report : List ℕ)
      → (h : JudgesInput call.words call.source call.source_after status report) → IsOfCheck h.task ⊎ IsOfProve h.task
  on_check status some other report h = by h.reads
    where
      by : Reads h.task call.source call.source_after h.outcome → IsOfCheck h.task ⊎ IsOfProve h.task
      by (inl past) = absurd (some (long_refused _ h.outcome status past.0 h.status_is))
      by (inr all) = of_check h.task all.0 h.outcome (other h.outcome h.status_is) all.2

  pub rejects_by : ExplainsAs call Rejected → RejectsRightly call
  rejects_by e = by (judged_by Rejected (λ i. cc) (λ report f. f) e)
    where
      of_task : (report : List ℕ) (h : JudgesInput call.words call.source call.source_after Rejected report) → Appends call.sink.bytes call.sink_after.bytes report → IsOfCheck h.task ⊎ IsOfProve h.task → RejectsRightly call
      of_task report h grown (inl c) =
          inl (
            c.budget,
            subst (λ (t : Task). AskFor t call.words) c.task_is h.words_are,
            λ input told.
                let found = subst (λ (t : Task). Judgement t input Rejected) c.task_is (judgement Rejected report input rejected_not_refused told grown h) in
                let v = checked input c.budget found.outcome Rejected rejected_not_refused found.status_is found.finds in
                let r = rejected input c.budget found.outcome v in
                (r.program, r.counter, r.rejects, written_as input (rejected_text r.program r.counter) found.outcome r.report_is found.does),
          )
      of_task report h grown (inr c) =
          inr (inr (
            c.budget,
            subst (λ (t : Task). AskFor t call.words) c.task_is h.words_are,
            λ input told.
                let found = subst (λ (t : Task). Judgement t input Rejected) c.task_is (judgement Rejected report input rejected_not_refused told grown h) in
                let p = outlined input c.budget found.outcome Rejected rejected_not_refused found.status_is found.finds in
                rejects_proving input found.outcome found.does (shown_rejected input c.budget found.outcome p.outline p.short p.spells p.proven found.status_is),
          ))

      by : IsOnInput Rejected ⊎ IsOnTrial Rejected → RejectsRightly call
      by (inl (report, h, grown)) = of_task report h grown (on_check Rejected rejected_not_refused rejected_other report h)
      by (inr (number, trial, t)) =
          let v = checked (trial_text number) usual_budget t.outcome Rejected rejected_not_refused t.status_is (tried_whole number Rejected rejected_not_refused t) in
          let r = rejected (trial_text number) usual_budget t.outcome v in
          inr (inl (number, trial, (r.program, r.counter, r.rejects, tried_as number (rejected_text r.program r.counter) t.outcome r.report_is t.writes)))

  pub leaves_open_by : ExplainsAs call Undecided → LeavesOpenRightly call
  leaves_open_by e = by (judged_by Undecided (λ i. cc) (λ report f. f) e)
    where
      of_task : (report : List ℕ) (h : JudgesInput call.words call.source call.source_after Undecided report) → Appends call.sink.bytes call.sink_after.bytes report → IsOfCheck h.task ⊎ IsOfProve h.task → LeavesOpenRightly call
      of_task report h grown (inl c) =
          inl (
            c.budget,
            subst (λ (t : Task). AskFor t call.words) c.task_is h.words_are,
            λ input told.
                let found = subst (λ (t : Task). Judgement t input Undecided) c.task_is (judgement Undecided report input undecided_not_refused told grown h) in
                let v = checked input c.budget found.outcome Undecided undecided_not_refused found.status_is found.finds in
                let o = left_open input c.budget found.outcome v in
                (o.program, o.formula, o.log, o.leaves, written_as input (undecided_text o.program o.formula c.budget) found.outcome o.report_is found.does),
          )
      of_task report h grown (inr c) =
          inr (inr (
            c.budget,
            subst (λ (t : Task). AskFor t call.words) c.task_is h.words_are,
            λ input told.
                let found = subst (λ (t : Task). Judgement t input Undecided) c.task_is (judgement Undecided report input undecided_not_refused told grown h) in
                let p = outlined input c.budget found.outcome Undecided undecided_not_refused found.status_is found.finds in
                leaves_proving input c.budget found.outcome found.does (shown_undecided input c.budget found.outcome p.outline p.short p.spells p.proven found.status_is),
          ))

      by : IsOnInput Undecided ⊎ IsOnTrial Undecided → LeavesOpenRightly call
      by (inl (report, h, grown)) = of_task report h grown (on_check Undecided undecided_not_refused undecided_other report h)
      by (inr (number, trial, t)) =
          let v = checked (trial_text number) usual_budget t.outcome Undecided undecided_not_refused t.status_is (tried_whole number Undecided undecided_not_refused t) in
          let o = left_open (trial_text number) usual_budget t.outcome v in
          inr (inl (number, trial, (o.program, o.formula, o.log, o.leaves, tried_as number (undecided_text o.program o.formula usual_budget) t.outcome o.report_is t.writes)))

  pub refuses_by : ExplainsAs call Refused → RefusesRightly call
  refuses_by e = by (judged_by Refused (λ i. cc) (λ report f. f) e)
    where
      by : IsOnInput Refused ⊎ IsOnTrial Refused → RefusesRightly call
      by (inl (report, h, grown)) =
          inl (
            h.task,
            h.words_are,
            λ input told. (
              h.outcome,
              called telling (limit_of h.task) (FindsBy h.task) call.source call.source_after call.sink call.sink_after input report told grown h.outcome h.reads,
              sym h.status_is,
              carried telling (limit_of h.task) (FindsBy h.task) call.source call.source_after call.sink call.sink_after input report told grown h.outcome h.reads h.report_is,
            ),
          )
      by (inr (number, trial, t)) = inr (number, trial, (t.outcome, t.calls, sym t.status_is, t.writes))

  -- ---- each input is answered

  module _ (task : Task) (input : List ℕ) (ask : AskFor task call.words) (told : call.source.left ≡ Some input) (stayed : Stayed call.source.faults call.source_after.faults) where
    judged : (status : Status) (report : List ℕ) → Appends call.sink.bytes call.sink_after.bytes report → JudgesInput call.words call.source call.source_after status report → AnswersAs task input call.source_after call.sink call.sink_after status ⊎ (status ≡ Memory)
    judged status report grown h =
        let reads = subst (λ (t : Task). Reads t call.source call.source_after h.outcome) (same_task call.words h.task task h.words_are ask) h.reads in
        let found = called telling (limit_of task) (FindsBy task) call.source call.source_after call.sink call.sink_after input report told grown h.outcome reads in
        inl (record {
          found = h.outcome;
          calls = found;
          status_is = h.status_is;
          alike = λ outcome calls. one_outcome task input h.outcome outcome found calls;
          carries = carried telling (limit_of task) (FindsBy task) call.source call.source_after call.sink call.sink_after input report told grown h.outcome reads h.report_is;
        })

    failed : (status : Status) (report : List ℕ) → Fails call.words call.source call.source_after status report → AnswersAs task input call.source_after call.sink call.sink_after status ⊎ (status ≡ Memory)
    failed Done report f = absurd f
    failed Rejected report f = absurd f
    failed Undecided report f = absurd f
    failed Refused report f = absurd f
    failed ReadFault report f = absurd (not_both call.source.faults call.source_after.faults stayed f.1)
    failed WriteFault report f = absurd f
    failed Usage report f = absurd (f.0 (inl (task, ask)))
    failed Memory report f = inr refl

    answered : (status : Status) (report : List ℕ) → Appends call.sink.bytes call.sink_after.bytes report → Judges call.words call.source call.source_after status report → AnswersAs task input call.source_after call.sink call.sink_after status ⊎ (status ≡ Memory)
    answered status report grown (inl h) = judged status report grown h
    answered status report grown (inr (inl t)) = absurd (task_or_trial call.words task t.number ask t.words_are)
    answered status report grown (inr (inr f)) = failed status report f

  pub complete_by : Explains call → IsComplete call
  complete_by e task input ask told stayed faults stalls = elim e [
    | inl h ↦ answered task input ask told stayed call.status h.0 h.2 h.1
    | inr h ↦ elim h.4.cause [
      | inl rose ↦ absurd (not_both call.sink.faults call.sink_after.faults faults rose)
      | inr rose ↦ absurd (not_both call.sink.stalls call.sink_after.stalls stalls rose)
    ]
  ]

  module _ (number : ℕ) (outcome : Outcome) (trial : AskForTrial number call.words) (calls : TrialCallsFor number outcome) where
    tried : (other : ℕ) (status : Status) → other ≡ number → Trial other status → TrialAnswersAs number call.sink call.sink_after status outcome
    tried other status same found =
        let t = subst (λ (n : ℕ). Trial n status) same found in
        record { found = t.outcome; calls = t.calls; status_is = t.status_is; alike = one_outcome (Check usual_budget) (trial_text number) t.outcome outcome t.calls calls; written = t.writes }

    untried : (status : Status) (report : List ℕ) → Fails call.words call.source call.source_after status report → TrialAnswersAs number call.sink call.sink_after status outcome ⊎ (status ≡ Memory)
    untried Done report f = absurd f
    untried Rejected report f = absurd f
    untried Undecided report f = absurd f
    untried Refused report f = absurd f
    untried ReadFault report f = absurd (task_or_trial call.words f.0.0 number f.0.1 trial)
    untried WriteFault report f = absurd f
    untried Usage report f = absurd (f.0 (inr (number, trial)))
    untried Memory report f = inr refl

    tried_answered : (status : Status) (report : List ℕ) → Appends call.sink.bytes call.sink_after.bytes report → Judges call.words call.source call.source_after status report → TrialAnswersAs number call.sink call.sink_after status outcome ⊎ (status ≡ Memory)
    tried_answered status report grown (inl h) = absurd (task_or_trial call.words h.task number h.words_are trial)
    tried_answered status report grown (inr (inl t)) = inl (tried t.number status (same_trial call.words t.number number t.words_are trial) (trial_of status report grown t))
    tried_answered status report grown (inr (inr f)) = untried status report f

  pub trial_complete_by : Explains call → IsTrialComplete call
  trial_complete_by e number outcome trial calls faults stalls = elim e [
    | inl h ↦ tried_answered number outcome trial calls call.status h.0 h.2 h.1
    | inr h ↦ elim h.4.cause [
      | inl rose ↦ absurd (not_both call.sink.faults call.sink_after.faults faults rose)
      | inr rose ↦ absurd (not_both call.sink.stalls call.sink_after.stalls stalls rose)
    ]
  ]
