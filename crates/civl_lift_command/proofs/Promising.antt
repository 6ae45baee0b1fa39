-- From what each status says of the source and the sink, whatever they tell, to what is promised where they tell their bytes.
use Rattle.std.specs.Prelude.{Some, IsTrue}
use Rattle.std.proofs.Common.{◌≡◌, ℕ, ◌<◌, ◌≤◌, ◌⊎◌, inl, inr, List, [], length, refl, sym, ap, ◌∙◌, subst, arith}
use Rattle.std.specs.Io.KnownBytes.{Appends}
use Rattle.std.proofs.lemmas.Bool.{and_parts}
use Rattle.civl_outside.specs.Count.{Stayed}
use Rattle.civl_tree.specs.SpellingDomain.{allows_program}
use Rattle.civl_tree.specs.declared.script.Script.{Script}
use Rattle.civl_firing.specs.declared.store.Store.{Store}
use Rattle.civl_meaning.specs.declared.config.Move.{Move}
use Rattle.civl_meaning.specs.Preserves.{Preserves}
use Rattle.civl_verdicts.specs.declared.verdict.Verdict.TheVariants as verdict
use Rattle.civl_verdicts.specs.verdict_reports.Verdicts.{rejected_text, undecided_text}
use Rattle.civl_reduction.specs.simulation.Preserved.{AcceptedProgramsPreserve}
use Rattle.civl_frontend.specs.Status.{code_of}
use Rattle.civl_frontend.specs.Streams.{ReadState, WriteState, IsReported}
use Rattle.civl_frontend.specs.Call.{Call, Reports, OnInput}
use Rattle.civl_frontend.specs.Texts.{IsScriptReading, SpellsScript, limit}
use Rattle.civl_frontend.specs.declared.status.Status.{Status}
use Rattle.civl_frontend.specs.declared.status.Status.TheVariants.{Done, Rejected, Undecided, Refused, ReadFault, WriteFault, Usage, Memory}
use Rattle.civl_frontend.proofs.Streaming.{not_both}
use Rattle.civl_frontend.proofs.Telling.{verdict_code, silent_failure, all_found, written, called, carried, spelled}
use Rattle.civl_frontend.proofs.Lawful.{script_numbered}
use Rattle.civl_frontend.proofs.Accepting.{accepted_by}
use Rattle.civl_lift_command.specs.Words.{AskToLift, AskToLiftSome}
use Rattle.civl_lift_command.specs.Lifting.{IsAccepted, IsGiven, CanBeLifted}
use Rattle.civl_lift_command.specs.Outcome.{Outcome, TooLong, Unread, Broken, Heavy, Judged, Misfit, NotInitial, NotFailing, Lifted, Spent, Lifts, FindsBy, telling, status_of, report_of}
use Rattle.civl_lift_command.specs.Report.{usage_text, lifted_text, spent_text}
use Rattle.civl_lift_command.specs.Judge.{Reads, JudgesInput, Fails, Judges, Explains}
use Rattle.civl_lift_command.specs.Statuses.{GivesFailure, LiftsRightly, RejectsRightly, LeavesLiftOpen, LeavesOpenRightly, RefusesRightly, AnswersAs, IsComplete}
use Rattle.civl_lift_command.proofs.Asking.{one_budget}
use Rattle.civl_lift_command.proofs.Agreeing.{one_outcome}
use Rattle.civl_lift_command.proofs.Ways.{done_way, rejected_way, IsOpen, IsUnended, undecided_way}

-- ---- what the ends keep

-- no outcome fails
outcome_code : (outcome : Outcome) → code_of (status_of outcome) ≤ 3
outcome_code (TooLong most) = omega arith
outcome_code (Unread fault) = omega arith
outcome_code (Broken refusal) = omega arith
outcome_code (Heavy program first) = omega arith
outcome_code (Judged program budget v) = verdict_code v
outcome_code (Misfit number) = omega arith
outcome_code NotInitial = omega arith
outcome_code (NotFailing moved) = omega arith
outcome_code (Lifted moves thread) = omega arith
outcome_code (Spent step thread) = omega arith

no_outcome : (status : Status) (outcome : Outcome) → 3 < code_of status → status ≡ status_of outcome → ⊥
no_outcome status outcome high is = let code = ap code_of is in omega (arith, outcome_code outcome, code)

pub silent : (words : List (List ℕ)) (before after : ReadState) (status : Status) (report : List ℕ) → Judges words before after status report
    → (status ≡ ReadFault) ⊎ (status ≡ Memory) → report ≡ []
silent words before after status report (inl h) (inl is) = let code = ap code_of is in absurd (no_outcome status h.outcome (omega (arith, code)) h.status_is)
silent words before after status report (inl h) (inr is) = let code = ap code_of is in absurd (no_outcome status h.outcome (omega (arith, code)) h.status_is)
silent words before after status report (inr f) is =
    silent_failure (AskToLiftSome words) (AskToLiftSome words) (AskToLiftSome words) usage_text before after status report f is

-- on Usage the words don't ask for lifting
pub usage_unasked : (words : List (List ℕ)) (before after : ReadState) (sink sink_after : WriteState) → IsReported (Judges words before after) sink sink_after Usage → AskToLiftSome words → ⊥
usage_unasked words before after sink sink_after (inl (report, inl h, grown)) = λ ask. no_outcome Usage h.outcome (omega arith) h.status_is
usage_unasked words before after sink sink_after (inl (report, inr f, grown)) = f.0
usage_unasked words before after sink sink_after (inr h) = let is = h.0 in absurd cc

done_not_refused : Done ≡ Refused → ⊥
done_not_refused e = cc

rejected_not_refused : Rejected ≡ Refused → ⊥
rejected_not_refused e = cc

undecided_not_refused : Undecided ≡ Refused → ⊥
undecided_not_refused e = cc

-- the report of an outcome is that of the one that it is
report_is : (outcome one : Outcome) → outcome ≡ one → report_of outcome ≡ report_of one
report_is outcome one is = ap report_of is

-- ---- what a script gives

pub script_written : (input : List ℕ) (script : Script) → SpellsScript input script → IsTrue (allows_program script.program)
script_written input script h = (and_parts (allows_program script.program) _ h.spells.spelled.0).0

given_preserves : AcceptedProgramsPreserve → (input : List ℕ) (script : Script) → length input ≤ limit → SpellsScript input script → IsAccepted script.program → Preserves script.program
given_preserves law input script short spells accepted =
    law script.program (accepted_by script.program (script_written input script spells) (script_numbered input script spells short) accepted.taken.rules accepted.hold) accepted.initial

gives_failure : AcceptedProgramsPreserve → (input : List ℕ) (script : Script) (store : Store) (moves : List Move) → length input ≤ limit → SpellsScript input script
    → IsGiven script store moves → CanBeLifted script.program store moves → GivesFailure input script store moves
gives_failure law input script store moves short spells given fails = record {
  spells = spells;
  given = given;
  preserves = given_preserves law input script short spells given.accepted;
  fails = fails;
}

-- ---- what is found of the whole input

-- what the status says of the rest of the call, if it is this one
abbrev pub ExplainsAs : Call → Status → Type 0
ExplainsAs call status = IsReported (Judges call.words call.source call.source_after) call.sink call.sink_after status

module _ (call : Call) where
  -- what was found of it, where it isn't refused
  record Judgement (budget : ℕ) (input : List ℕ) (status : Status) : Type 0 where
    outcome : Outcome
    short : length input ≤ limit
    script : Script
    spells : SpellsScript input script
    lifts : Lifts budget script outcome
    status_is : status ≡ status_of outcome
    does : Reports call (report_of outcome)

  judgement : (status : Status) (report input : List ℕ) → (status ≡ Refused → ⊥) → call.source.left ≡ Some input → Appends call.sink.bytes call.sink_after.bytes report
      → (h : JudgesInput call.words call.source call.source_after status report) → Judgement h.budget input status
  judgement status report input some told grown h = by h.reads
    where
      by : Reads h.budget call.source call.source_after h.outcome → Judgement h.budget input status
      by (inl past) = absurd (some (h.status_is ∙ ap status_of past.0))
      by (inr all) =
          let found = all_found (FindsBy h.budget) call.source call.source_after input h.outcome told all in
          let s = spelled telling IsScriptReading (Lifts h.budget) input h.outcome (λ fault e. some (h.status_is ∙ ap status_of e)) found.finds in
          record {
            outcome = h.outcome;
            short = found.finds.short;
            script = s.value;
            spells = s.read.0;
            lifts = s.says;
            status_is = h.status_is;
            does = record { read = found.read; written = written telling limit (FindsBy h.budget) call.source call.source_after call.sink call.sink_after input report told grown h.outcome h.report_is };
          }

  -- a report on an input, written whole
  abbrev IsOnInput : Status → Type 0
  IsOnInput status = (report : List ℕ) × JudgesInput call.words call.source call.source_after status report × Appends call.sink.bytes call.sink_after.bytes report

  -- where the report was written whole, and no failure has this status
  judged_by : (status : Status) → (status ≡ WriteFault → ⊥) → ((report : List ℕ) → Fails call.words call.source call.source_after status report → ⊥) → ExplainsAs call status → IsOnInput status
  judged_by status no_fault no_failure (inl (report, inl h, grown)) = (report, h, grown)
  judged_by status no_fault no_failure (inl (report, inr f, grown)) = absurd (no_failure report f)
  judged_by status no_fault no_failure (inr h) = absurd (no_fault h.0)

  -- the report in other words
  written_as : (outcome : Outcome) (report : List ℕ) → report_of outcome ≡ report → Reports call (report_of outcome) → Reports call report
  written_as outcome report is does = subst (λ (r : List ℕ). Reports call r) is does

  pub lifts_by : AcceptedProgramsPreserve → ExplainsAs call Done → OnInput call LiftsRightly
  lifts_by law e input told =
      let on = judged_by Done (λ i. cc) (λ report f. f) e in
      let j = judgement Done on.0 input done_not_refused told on.2 on.1 in
      let l = done_way on.1.budget j.script j.outcome j.lifts j.status_is in (
        j.script,
        l.moves,
        l.thread,
        record {
          store = l.raises.store;
          given = l.raises.moves;
          failure = gives_failure law input j.script l.raises.store l.raises.moves j.short j.spells l.raises.given l.raises.raises.0;
          lifted = l.raises.raises.1;
        },
        written_as j.outcome (lifted_text l.moves l.thread) (report_is j.outcome (Lifted l.moves l.thread) l.is) j.does,
      )

  pub rejects_by : ExplainsAs call Rejected → OnInput call RejectsRightly
  rejects_by e input told =
      let on = judged_by Rejected (λ i. cc) (λ report f. f) e in
      let j = judgement Rejected on.0 input rejected_not_refused told on.2 on.1 in
      let r = rejected_way on.1.budget j.script j.outcome j.lifts j.status_is in (
        j.script,
        r.counter,
        record { spelled = record { spells = j.spells; taken = r.taken }; place = r.right.0.0; reached = r.right.0.1; violates = r.right.1 },
        written_as j.outcome (rejected_text j.script.program r.counter) (report_is j.outcome (Judged j.script.program on.1.budget (verdict.Rejected r.counter)) r.is) j.does,
      )

  leaves_open : AcceptedProgramsPreserve → (budget : ℕ) (input : List ℕ) (j : Judgement budget input Undecided) → IsOpen budget j.script j.outcome ⊎ IsUnended budget j.script j.outcome
      → LeavesLiftOpen budget input (Reports call)
  leaves_open law budget input j (inl o) = inl (
    j.script,
    o.formula,
    o.log,
    record { spelled = record { spells = j.spells; taken = o.taken }; undecided = o.right },
    written_as j.outcome (undecided_text j.script.program o.formula budget) (report_is j.outcome (Judged j.script.program budget (verdict.Undecided o.formula o.log)) o.is) j.does,
  )
  leaves_open law budget input j (inr u) = inr (
    j.script,
    u.step,
    u.thread,
    record {
      store = u.raises.store;
      given = u.raises.moves;
      failure = gives_failure law input j.script u.raises.store u.raises.moves j.short j.spells u.raises.given u.raises.raises.0;
      block = u.raises.raises.1;
    },
    written_as j.outcome (spent_text u.step u.thread) (report_is j.outcome (Spent u.step u.thread) u.is) j.does,
  )

  pub leaves_open_by : AcceptedProgramsPreserve → ExplainsAs call Undecided → LeavesOpenRightly call
  leaves_open_by law e =
      let on = judged_by Undecided (λ i. cc) (λ report f. f) e in (
        on.1.budget,
        on.1.words_are,
        λ input told.
            let j = judgement Undecided on.0 input undecided_not_refused told on.2 on.1 in
            leaves_open law on.1.budget input j (undecided_way on.1.budget j.script j.outcome j.lifts j.status_is),
      )

  pub refuses_by : ExplainsAs call Refused → RefusesRightly call
  refuses_by e =
      let on = judged_by Refused (λ i. cc) (λ report f. f) e in
      let h = on.1 in (
        h.budget,
        h.words_are,
        λ input told. (
          h.outcome,
          called telling limit (FindsBy h.budget) call.source call.source_after call.sink call.sink_after input on.0 told on.2 h.outcome h.reads,
          sym h.status_is,
          carried telling limit (FindsBy h.budget) call.source call.source_after call.sink call.sink_after input on.0 told on.2 h.outcome h.reads h.report_is,
        ),
      )

  -- ---- each input is answered

  module _ (budget : ℕ) (input : List ℕ) (ask : AskToLift budget call.words) (told : call.source.left ≡ Some input) (stayed : Stayed call.source.faults call.source_after.faults) where
    judged : (status : Status) (report : List ℕ) → Appends call.sink.bytes call.sink_after.bytes report → JudgesInput call.words call.source call.source_after status report → AnswersAs budget input call.source_after call.sink call.sink_after status ⊎ (status ≡ Memory)
    judged status report grown h =
        let reads = subst (λ (b : ℕ). Reads b call.source call.source_after h.outcome) (one_budget call.words h.budget budget h.words_are ask) h.reads in
        let found = called telling limit (FindsBy budget) call.source call.source_after call.sink call.sink_after input report told grown h.outcome reads in
        inl (record {
          found = h.outcome;
          calls = found;
          status_is = h.status_is;
          alike = λ outcome calls. one_outcome budget input h.outcome outcome found calls;
          carries = carried telling limit (FindsBy budget) call.source call.source_after call.sink call.sink_after input report told grown h.outcome reads h.report_is;
        })

    failed : (status : Status) (report : List ℕ) → Fails call.words call.source call.source_after status report → AnswersAs budget input call.source_after call.sink call.sink_after status ⊎ (status ≡ Memory)
    failed Done report f = absurd f
    failed Rejected report f = absurd f
    failed Undecided report f = absurd f
    failed Refused report f = absurd f
    failed ReadFault report f = absurd (not_both call.source.faults call.source_after.faults stayed f.1)
    failed WriteFault report f = absurd f
    failed Usage report f = absurd (f.0 (budget, ask))
    failed Memory report f = inr refl

    answered : (status : Status) (report : List ℕ) → Appends call.sink.bytes call.sink_after.bytes report → Judges call.words call.source call.source_after status report → AnswersAs budget input call.source_after call.sink call.sink_after status ⊎ (status ≡ Memory)
    answered status report grown (inl h) = judged status report grown h
    answered status report grown (inr f) = failed status report f

  pub complete_by : Explains call → IsComplete call
  complete_by e budget input ask told stayed faults stalls = elim e [
    | inl h ↦ answered budget input ask told stayed call.status h.0 h.2 h.1
    | inr h ↦ elim h.4.cause [
      | inl rose ↦ absurd (not_both call.sink.faults call.sink_after.faults faults rose)
      | inr rose ↦ absurd (not_both call.sink.stalls call.sink_after.stalls stalls rose)
    ]
  ]
