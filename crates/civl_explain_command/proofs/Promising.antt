-- From what each status says of the source and the sink to what is promised where the source tells its bytes.
use Rattle.std.proofs.Common.{◌≡◌, ◌∙◌, ℕ, ◌<◌, ◌≤◌, ◌⊎◌, inl, inr, List, [], refl, ap, subst, arith}
use Rattle.std.specs.Prelude.{Option, Some}
use Rattle.std.specs.Io.KnownBytes.{Appends, Consumes}
use Rattle.civl_outside.specs.Count.{Stayed}
use Rattle.civl_verdicts.specs.declared.survey.Survey.{Survey}
use Rattle.civl_verdicts.specs.declared.survey.Survey.TheVariants as survey
use Rattle.civl_prove.specs.declared.proved.Proved.{Proved}
use Rattle.civl_prove.specs.declared.proved.Proved.TheVariants as proved
use Rattle.civl_prove.specs.declared.outline_reports.proving.Proving.{Proving}
use Rattle.civl_prove.specs.declared.outline_reports.proving.Proving.TheVariants as proving
use Rattle.civl_frontend.specs.Call.{Call}
use Rattle.civl_frontend.specs.Status.{code_of}
use Rattle.civl_frontend.specs.Streams.{ReadState, WriteState, IsReported}
use Rattle.civl_frontend.specs.declared.status.Status.{Status}
use Rattle.civl_frontend.specs.declared.status.Status.TheVariants.{Done, Rejected, Undecided, Refused, ReadFault, WriteFault, Usage, Memory}
use Rattle.civl_frontend.proofs.Streaming.{consumed, consumed_part, grown_as, not_both}
use Rattle.civl_frontend.proofs.Telling.{verdict_code, silent_failure}
use Rattle.civl_command.specs.Outcome.{survey_status, proved_status, proving_status}
use Rattle.civl_explain_words.specs.Words.{AreWordsOf}
use Rattle.civl_explain_words.specs.declared.words.Request.{Request}
use Rattle.civl_explain_words.proofs.Once.{one_command}
use Rattle.civl_explain_command.specs.Tasks.{AskForSome, manner_of, kind_of}
use Rattle.civl_explain_command.specs.Outcome.{Outcome, TooLong, Unread, Broken, Heavy, Judged, Surveyed, Misfit, Ran, Proven, CallsFor, FindsBy, status_of}
use Rattle.civl_explain_command.specs.Told.{IsTold}
use Rattle.civl_explain_command.specs.Judge.{IsExplained, JudgesInput, Judges, Fails, Reads, ReadsLong, ReadsWhole, usage_text}
use Rattle.civl_explain_command.specs.Promises.{Answers, Promises}
use Rattle.civl_explain_command.proofs.AsCivl.{finds_as_civl}

-- ---- no outcome fails

survey_code : (s : Survey) → code_of (survey_status s) ≤ 3
survey_code survey.NoInitial = omega arith
survey_code (survey.Findings initial findings) = omega arith

proved_code : (f : Proved) → code_of (proved_status f) ≤ 3
proved_code (proved.All count) = omega arith
proved_code (proved.Fails goal values) = omega arith
proved_code (proved.Undecided goal log) = omega arith

proving_code : (f : Proving) → code_of (proving_status f) ≤ 3
proving_code (proving.Note number) = omega arith
proving_code (proving.Roots item statement) = omega arith
proving_code (proving.Heavy first) = omega arith
proving_code (proving.HeavyGoal goal) = omega arith
proving_code (proving.Judged v) = verdict_code v
proving_code (proving.Decided count found) = proved_code found

outcome_code : (outcome : Outcome) → code_of (status_of outcome) ≤ 3
outcome_code (TooLong most) = omega arith
outcome_code (Unread fault) = omega arith
outcome_code (Broken program refusal) = omega arith
outcome_code (Heavy program first) = omega arith
outcome_code (Judged program budget v) = verdict_code v
outcome_code (Surveyed program budget s) = survey_code s
outcome_code (Misfit script number) = omega arith
outcome_code (Ran script plain store moves) = omega arith
outcome_code (Proven outline budget found) = proving_code found

no_outcome : (status : Status) (outcome : Outcome) → 3 < code_of status → status ≡ status_of outcome → ⊥
no_outcome status outcome high is = let code = ap code_of is in omega (arith, outcome_code outcome, code)

-- ---- what the ends keep

pub silent : (words : List (List ℕ)) (before after : ReadState) (status : Status) (report : List ℕ) → Judges words before after status report
    → (status ≡ ReadFault) ⊎ (status ≡ Memory) → report ≡ []
silent words before after status report (inl h) (inl is) =
    let code = ap code_of is in absurd (no_outcome status h.outcome (omega (arith, code)) h.status_is)
silent words before after status report (inl h) (inr is) =
    let code = ap code_of is in absurd (no_outcome status h.outcome (omega (arith, code)) h.status_is)
silent words before after status report (inr f) is =
    silent_failure (AskForSome words) (AskForSome words) (AskForSome words ⊎ (after ≡ before)) usage_text before after status report f is

-- on Usage the words ask for nothing
pub usage_unasked : (words : List (List ℕ)) (before after : ReadState) (sink sink_after : WriteState)
    → IsReported (Judges words before after) sink sink_after Usage → AskForSome words → ⊥
usage_unasked words before after sink sink_after (inl (report, inl h, grown)) = λ ask. no_outcome Usage h.outcome (omega arith) h.status_is
usage_unasked words before after sink sink_after (inl (report, inr f, grown)) = λ ask. f.0 ask
usage_unasked words before after sink sink_after (inr h) = let is = h.0 in absurd cc

-- ---- each input is answered

module _ (call : Call) (request : Request) (input : List ℕ) (ask : AreWordsOf request call.words) (told : call.source.left ≡ Some input)
    (stayed : Stayed call.source.faults call.source_after.faults) where
  -- what was read calls for an outcome of the input, and is told of it
  in_input : (report read : List ℕ) (outcome : Outcome) → Reads request call.source call.source_after read outcome
      → IsTold (kind_of request.command) (manner_of request) read outcome report
      → CallsFor request.command input outcome × IsTold (kind_of request.command) (manner_of request) input outcome report
  in_input report read outcome (ReadsLong _ past) is =
      let taken = subst (λ (left : Option (List ℕ)). Consumes left call.source_after.left past.0) told past.1 in
      let size = consumed_part input past.0 call.source_after.left taken in
      let count = past.2 in
      (inl (refl, omega (arith, size, count)), is)
  in_input report read outcome (ReadsWhole _ _ reads says) is =
      let taken = subst (λ (left : Option (List ℕ)). Consumes left call.source_after.left read) told reads.taken in
      let whole = consumed input read call.source_after.left taken reads.at_end in (
        inr (subst (λ (bytes : List ℕ). FindsBy request.command bytes outcome) whole.0 says),
        subst (λ (bytes : List ℕ). IsTold (kind_of request.command) (manner_of request) bytes outcome report) whole.0 is,
      )

  judged : (report : List ℕ) → Appends call.sink.bytes call.sink_after.bytes report
      → JudgesInput call.words call.source call.source_after call.status report → Answers call request input
  judged report grown h =
      let same : h.request ≡ request = one_command call.words h.request request h.words_are ask in
      let reads = subst (λ (r : Request). Reads r call.source call.source_after h.input h.outcome) same h.reads in
      let is = subst (λ (r : Request). IsTold (kind_of r.command) (manner_of r) h.input h.outcome report) same h.is_told in
      let both = in_input report h.input h.outcome reads is in
      record {
        outcome = h.outcome;
        calls = both.0;
        as_civl = finds_as_civl request.command input h.outcome both.0;
        status_is = h.status_is;
        report = report;
        is_told = both.1;
        written = grown_as call.sink call.sink_after report report grown refl;
      }

  failed : (status : Status) (report : List ℕ) → Fails call.words call.source call.source_after status report → status ≡ Memory
  failed Done report f = absurd f
  failed Rejected report f = absurd f
  failed Undecided report f = absurd f
  failed Refused report f = absurd f
  failed ReadFault report f = absurd (not_both call.source.faults call.source_after.faults stayed f.1)
  failed WriteFault report f = absurd f
  failed Usage report f = absurd (f.0 (request, ask))
  failed Memory report f = refl

  answered : (report : List ℕ) → Appends call.sink.bytes call.sink_after.bytes report
      → Judges call.words call.source call.source_after call.status report → Answers call request input ⊎ (call.status ≡ Memory)
  answered report grown (inl h) = inl (judged report grown h)
  answered report grown (inr f) = inr (failed call.status report f)

  pub complete_by : IsExplained call → Stayed call.sink.faults call.sink_after.faults → Stayed call.sink.stalls call.sink_after.stalls
      → Answers call request input ⊎ (call.status ≡ Memory)
  complete_by e faults stalls = elim e [
    | inl h ↦ answered h.0 h.2 h.1
    | inr h ↦ elim h.4.cause [
      | inl rose ↦ absurd (not_both call.sink.faults call.sink_after.faults faults rose)
      | inr rose ↦ absurd (not_both call.sink.stalls call.sink_after.stalls stalls rose)
    ]
  ]

pub promises_by : (call : Call) → IsExplained call → Promises call
promises_by call explains = record {
  explains = explains;
  complete = λ request input ask told stayed faults stalls. complete_by call request input ask told stayed explains faults stalls;
}
