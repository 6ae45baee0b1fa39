-- Each input calls for some outcome for each task.
use Rattle.std.proofs.Common.{◌≡◌, ℕ, ◌<◌, ◌≤◌, ◌⊎◌, inl, inr, List, ◌++◌, length, refl, Result, Ok, Err}
use Rattle.std.specs.Prelude.{Option, None, Some}
use Rattle.std.proofs.lemmas.Bool.{cases_lt}
use Rattle.civl_tree.specs.declared.program.Program.{Program}
use Rattle.civl_tree.specs.declared.refusal.Refusal.{Refusal}
use Rattle.civl_tree.specs.declared.script.Script.{Script}
use Rattle.civl_tree.specs.rules.Rules.{Keeps}
use Rattle.civl_tree.specs.rules.Typing.{typing_rules}
use Rattle.civl_tree.proofs.First.{none_first}
use Rattle.civl_meaning.specs.declared.config.Plain.{Plain}
use Rattle.civl_meaning.specs.Layers.{lowest, topmost}
use Rattle.civl_script.specs.replays.Trace.{trace_of}
use Rattle.civl_script.specs.Schedules.{IsSchedule}
use Rattle.civl_script.specs.declared.schedule.Schedule.{Schedule}
use Rattle.civl_script.specs.declared.schedule.Schedule.TheVariants.{Fits, Wrong}
use Rattle.civl_script.proofs.Deciding.{schedules_exist}
use Rattle.civl_layers.specs.LayerRules.{layer_rules}
use Rattle.civl_yields.specs.verify.Admitted.{admission_rules}
use Rattle.civl_yields.proofs.verify.Admitting.{keeps_first}
use Rattle.civl_conditions.specs.declared.condition.Condition.{Condition}
use Rattle.civl_conditions.specs.Weights.{heavy}
use Rattle.civl_verdicts.proofs.findings.Surveying.{each_program_has_a_survey}
use Rattle.civl_verdicts.proofs.judgements.Judging.{each_program_has_a_verdict}
use Rattle.civl_outlines.specs.declared.outline.Outline.{Outline}
use Rattle.civl_prove.proofs.outline_reports.Existing.{each_outline_is_answered}
use Rattle.civl_certify.proofs.proof_reports.Existing.{each_program_has_a_making}
use Rattle.civl_certify.proofs.proof_reports.Scanning.{each_text_has_a_replaying}
use Rattle.civl_frontend.specs.Rules.{static_refusal, IsLawful}
use Rattle.civl_frontend.specs.Texts.{IsReading, IsScriptReading, IsOutlineReading, limit}
use Rattle.civl_frontend.specs.declared.reader.Fault.{Fault}
use Rattle.civl_frontend.proofs.Reading.{some_reading, some_script_reading, some_outline_reading}
use Rattle.civl_command.specs.declared.task.Task.{Task}
use Rattle.civl_command.specs.declared.task.Task.TheVariants.{Check, Conditions, Fmt, RunLow, RunTop, Prove, Make, Replay}
use Rattle.civl_command.specs.Outcome.{Outcome, TooLong, Unread, Broken, Judged, Heavy, Surveyed, Printed, Misfit, Ran, Proven, Asked, Replayed, Checks, Surveys, Prints, Proves, Asks, Runs, OfRead, Finds, FindsBy, CallsFor, limit_of}
use Rattle.civl_command.specs.Laws.{EachInputIsAnswered}

-- an outcome of which this is so
abbrev Has : (Outcome → Type 0) → Type 0
Has Says = (outcome : Outcome) × Says outcome

-- ---- a program

lawful : (program : Program) → static_refusal program ≡ None → IsLawful program
lawful program e = none_first _ e

typed : (program : Program) → IsLawful program → Keeps typing_rules program
typed program rules = keeps_first typing_rules (layer_rules ++ admission_rules) program rules

-- its first broken rule, or what is found of it where it breaks none
module _ (program : Program) (Says : Outcome → Type 0) (broken : (refusal : Refusal) → static_refusal program ≡ Some refusal → Says (Broken refusal)) (taken : IsLawful program → Has Says) where
  by_refusal : (refusal : Option Refusal) → static_refusal program ≡ refusal → Has Says
  by_refusal (Some refusal) e = (Broken refusal, broken refusal e)
  by_refusal None e = taken (lawful program e)

  broken_or : Has Says
  broken_or = by_refusal (static_refusal program) refl

-- the first formula that weighs too much, or what is found of it where none does
module _ (program : Program) (Says : Outcome → Type 0) (weighty : (first : Option Condition) → heavy program ≡ Some first → Says (Heavy program first)) (light : heavy program ≡ None → Has Says) where
  by_weight : (first : Option (Option Condition)) → heavy program ≡ first → Has Says
  by_weight (Some first) e = (Heavy program first, weighty first e)
  by_weight None e = light e

  heavy_or : Has Says
  heavy_or = by_weight (heavy program) refl

module _ (budget : ℕ) (program : Program) where
  lawful_check : IsLawful program → Has (Checks budget program)
  lawful_check rules = heavy_or program (Checks budget program) (λ first e. (refl, rules, e)) (λ e.
      let found = each_program_has_a_verdict program budget (typed program rules) in
      (Judged program budget found.0, (refl, refl, record { rules = rules; light = e }, found.1)))

  some_check : Has (Checks budget program)
  some_check = broken_or program (Checks budget program) (λ refusal e. e) lawful_check

  lawful_survey : IsLawful program → Has (Surveys budget program)
  lawful_survey rules = heavy_or program (Surveys budget program) (λ first e. (refl, rules, e)) (λ e.
      let found = each_program_has_a_survey program budget (typed program rules) in
      (Surveyed program budget found.0, (refl, refl, record { rules = rules; light = e }, found.1)))

  some_survey : Has (Surveys budget program)
  some_survey = broken_or program (Surveys budget program) (λ refusal e. e) lawful_survey

some_ask : (at budget : ℕ) (program : Program) → Has (Asks at budget program)
some_ask at budget program = broken_or program (Asks at budget program) (λ refusal e. e) (λ rules.
    let found = each_program_has_a_making program budget at (typed program rules) in
    (Asked program at budget found.0, (refl, refl, refl, rules, found.1)))

-- ---- an outline

some_prove : (budget : ℕ) (outline : Outline) → Has (Proves budget outline)
some_prove budget outline = broken_or outline.program (Proves budget outline) (λ refusal e. e) (λ rules.
    let found = each_outline_is_answered outline.program outline budget (typed outline.program rules) in
    (Proven outline budget found.0, (refl, refl, rules, found.1)))

some_print : (program : Program) → Has (Prints program)
some_print program = (Printed program, refl)

-- ---- a script

module _ (plain_of : Program → Plain) (script : Script) where
  run_lawful : (schedule : Schedule) → IsLawful script.program → IsSchedule script.program.globals script.store script.moves schedule → Has (Runs plain_of script)
  run_lawful (Fits store moves) rules fits = (
    Ran script.program (trace_of (plain_of script.program) store moves),
    (refl, rules, record { store = store; moves = moves; fits = fits; trace_is = refl }),
  )
  run_lawful (Wrong number) rules wrong = (Misfit number, (rules, wrong))

  some_run : Has (Runs plain_of script)
  some_run = broken_or script.program (Runs plain_of script) (λ refusal e. e) (λ rules.
      let found = schedules_exist script.program.globals script.store script.moves in
      run_lawful found.0 rules found.1)

-- ---- an input

module _ {A : Type 0} (IsRead : List ℕ → Result A Fault → Type 0) (Says : A → Outcome → Type 0)
    (read : (input : List ℕ) → (x : Result A Fault) × IsRead input x) (some : (value : A) → Has (Says value)) where
  some_of : (reading : Result A Fault) → Has (OfRead Says reading)
  some_of (Ok value) = some value
  some_of (Err fault) = (Unread fault, refl)

  some_find : (input : List ℕ) → length input ≤ limit → Has (Finds IsRead Says input)
  some_find input short =
      let reading = read input in
      let found = some_of reading.0 in
      (found.0, record { short = short; reading = reading.0; read = reading.1; says = found.1 })

some_found : (task : Task) (input : List ℕ) → length input ≤ limit_of task → Has (FindsBy task input)
some_found (Check budget) input short = some_find IsReading (Checks budget) some_reading (some_check budget) input short
some_found (Conditions budget) input short = some_find IsReading (Surveys budget) some_reading (some_survey budget) input short
some_found Fmt input short = some_find IsReading Prints some_reading some_print input short
some_found RunLow input short = some_find IsScriptReading (Runs lowest) some_script_reading (some_run lowest) input short
some_found RunTop input short = some_find IsScriptReading (Runs topmost) some_script_reading (some_run topmost) input short
some_found (Prove budget) input short = some_find IsOutlineReading (Proves budget) some_outline_reading (some_prove budget) input short
some_found (Make at budget) input short = some_find IsReading (Asks at budget) some_reading (some_ask at budget) input short
some_found Replay input short =
    let found = each_text_has_a_replaying input in
    (Replayed found.0, record { short = short; replaying_ = found.0; is = found.1; outcome_is = refl })

called : (task : Task) (input : List ℕ) → (limit_of task < length input) ⊎ (length input ≤ limit_of task) → Has (CallsFor task input)
called task input (inl long) = (TooLong (limit_of task), inl (refl, long))
called task input (inr short) = let found = some_found task input short in (found.0, inr found.1)

pub some_outcome : EachInputIsAnswered
some_outcome task input = called task input (cases_lt (limit_of task) (length input))
