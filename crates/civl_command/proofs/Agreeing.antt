-- An input calls for one outcome, but for what a search leaves open and for the values that violate a condition.
use Rattle.std.proofs.Common.{◌≡◌, ℕ, ◌≤◌, inl, inr, List, length, refl, sym, ap, ap₂, ◌∙◌, subst, arith, Result, Ok, Err}
use Rattle.std.specs.Prelude.{Option}
use Rattle.civl_tree.specs.declared.program.Program.{Program}
use Rattle.civl_tree.specs.declared.script.Script.{Script}
use Rattle.civl_meaning.specs.declared.config.Plain.{Plain}
use Rattle.civl_firing.specs.declared.store.Store.{Store}
use Rattle.civl_meaning.specs.declared.config.Move.{Move}
use Rattle.civl_meaning.specs.Layers.{lowest, topmost}
use Rattle.civl_script.specs.replays.Trace.{trace_of}
use Rattle.civl_script.specs.declared.replays.trace.Trace.{Trace}
use Rattle.civl_script.specs.declared.schedule.Schedule.TheVariants.{Fits, Wrong}
use Rattle.civl_script.proofs.Only.{one_schedule}
use Rattle.civl_conditions.specs.declared.condition.Condition.{Condition as Formula}
use Rattle.civl_verdicts.specs.declared.survey.Survey.{Survey}
use Rattle.civl_verdicts.specs.declared.verdict.Verdict.{Verdict}
use Rattle.civl_verdicts.proofs.findings.Surveying.{surveys_of_one_agree}
use Rattle.civl_verdicts.proofs.judgements.Judging.{verdicts_on_one_agree}
use Rattle.civl_outlines.specs.declared.outline.Outline.{Outline}
use Rattle.civl_prove.proofs.outline_reports.Agreeing.{provings_agree}
use Rattle.civl_certify.proofs.proof_reports.Agreeing.{makings_agree, one_replaying}
use Rattle.civl_frontend.specs.Texts.{IsReading, IsScriptReading, IsOutlineReading}
use Rattle.civl_frontend.specs.declared.reader.Fault.{Fault}
use Rattle.civl_frontend.proofs.Reading.{one_reading, one_script_reading, one_outline_reading}
use Rattle.civl_frontend.proofs.Once.{one_refusal, not_broken, one_weight, not_heavy, wrongs_same, wrong_not_fits, fits_stores, fits_moves}
use Rattle.civl_command.specs.declared.task.Task.{Task}
use Rattle.civl_command.specs.declared.task.Task.TheVariants.{Check, Conditions, Fmt, RunLow, RunTop, Prove, Make, Replay}
use Rattle.civl_command.specs.Outcome.{Outcome, TooLong, Unread, Broken, Judged, Heavy, Surveyed, Printed, Misfit, Ran, Proven, Asked, Replayed, Checks, Surveys, Proves, Asks, Prints, Runs, RunsBy, OfRead, Finds, FindsReplayed, FindsBy, limit_of}
use Rattle.civl_command.specs.Alike.{AreAlike}
use Rattle.civl_command.specs.Laws.{EachInputIsAnsweredOnce}
use Rattle.civl_command.proofs.Ways.{Ways, check_way, survey_way, ProveWays, prove_way, AskWays, ask_way, RunWays, run_way}

-- two outcomes are as alike as those that they are
alike_by : (first second one other : Outcome) → first ≡ one → second ≡ other → AreAlike one other → AreAlike first second
alike_by first second one other f s alike =
    subst (λ (o : Outcome). AreAlike o second) (sym f) (subst (λ (o : Outcome). AreAlike one o) (sym s) alike)

-- ---- schedules

one_trace : (plain : Plain) (script : Script) (first second : Trace) → RunsBy plain script first → RunsBy plain script second → first ≡ second
one_trace plain script first second a b =
    let same = one_schedule script.program.globals script.store script.moves (Fits a.store a.moves) (Fits b.store b.moves) a.fits b.fits in
    a.trace_is
    ∙ ap₂ (λ (s : Store) (m : List Move). trace_of plain s m) (fits_stores a.store b.store a.moves b.moves same) (fits_moves a.store b.store a.moves b.moves same)
    ∙ sym b.trace_is

-- ---- what is found of a program and of a script

module _ {D : Type 0} (tell : D → Outcome) (IsRight : D → Type 0) (program : Program) (agree : (x y : D) → IsRight x → IsRight y → AreAlike (tell x) (tell y)) where
  one_way : (first second : Outcome) → Ways tell IsRight program first → Ways tell IsRight program second → AreAlike first second
  one_way first second (inl a) (inl b) = alike_by first second (Broken a.refusal) (Broken b.refusal) a.is b.is (ap Broken (one_refusal program a.refusal b.refusal a.broken b.broken))
  one_way first second (inl a) (inr (inl b)) = absurd (not_broken program a.refusal b.rules a.broken)
  one_way first second (inl a) (inr (inr b)) = absurd (not_broken program a.refusal b.taken.rules a.broken)
  one_way first second (inr (inl a)) (inl b) = absurd (not_broken program b.refusal a.rules b.broken)
  one_way first second (inr (inl a)) (inr (inl b)) =
      alike_by first second (Heavy program a.first) (Heavy program b.first) a.is b.is (ap (λ (f : Option Formula). Heavy program f) (one_weight program a.first b.first a.weighs b.weighs))
  one_way first second (inr (inl a)) (inr (inr b)) = absurd (not_heavy program a.first b.taken.light a.weighs)
  one_way first second (inr (inr a)) (inl b) = absurd (not_broken program b.refusal a.taken.rules b.broken)
  one_way first second (inr (inr a)) (inr (inl b)) = absurd (not_heavy program b.first a.taken.light b.weighs)
  one_way first second (inr (inr a)) (inr (inr b)) = alike_by first second (tell a.decided) (tell b.decided) a.is b.is (agree a.decided b.decided a.right b.right)

one_check : (budget : ℕ) (program : Program) (first second : Outcome) → Checks budget program first → Checks budget program second → AreAlike first second
one_check budget program first second a b =
    one_way (Judged program budget) _ program (λ (x y : Verdict) p q. verdicts_on_one_agree program budget budget x y p q) first second (check_way budget program first a) (check_way budget program second b)

one_survey : (budget : ℕ) (program : Program) (first second : Outcome) → Surveys budget program first → Surveys budget program second → AreAlike first second
one_survey budget program first second a b =
    one_way (Surveyed program budget) _ program (λ (x y : Survey) p q. surveys_of_one_agree program budget budget x y p q) first second (survey_way budget program first a) (survey_way budget program second b)

module _ (budget : ℕ) (outline : Outline) where
  one_prove_way : (first second : Outcome) → ProveWays budget outline first → ProveWays budget outline second → AreAlike first second
  one_prove_way first second (inl a) (inl b) =
      alike_by first second (Broken a.refusal) (Broken b.refusal) a.is b.is (ap Broken (one_refusal outline.program a.refusal b.refusal a.broken b.broken))
  one_prove_way first second (inl a) (inr b) = absurd (not_broken outline.program a.refusal b.rules a.broken)
  one_prove_way first second (inr a) (inl b) = absurd (not_broken outline.program b.refusal a.rules b.broken)
  one_prove_way first second (inr a) (inr b) =
      alike_by first second (Proven outline budget a.found) (Proven outline budget b.found) a.is b.is (provings_agree outline.program outline budget budget a.found b.found a.right b.right)

  one_prove : (first second : Outcome) → Proves budget outline first → Proves budget outline second → AreAlike first second
  one_prove first second a b = one_prove_way first second (prove_way budget outline first a) (prove_way budget outline second b)

module _ (at budget : ℕ) (program : Program) where
  one_ask_way : (first second : Outcome) → AskWays at budget program first → AskWays at budget program second → AreAlike first second
  one_ask_way first second (inl a) (inl b) = alike_by first second (Broken a.refusal) (Broken b.refusal) a.is b.is (ap Broken (one_refusal program a.refusal b.refusal a.broken b.broken))
  one_ask_way first second (inl a) (inr b) = absurd (not_broken program a.refusal b.rules a.broken)
  one_ask_way first second (inr a) (inl b) = absurd (not_broken program b.refusal a.rules b.broken)
  one_ask_way first second (inr a) (inr b) =
      alike_by first second (Asked program at budget a.making) (Asked program at budget b.making) a.is b.is (makings_agree program budget budget at a.making b.making a.right b.right)

  one_ask : (first second : Outcome) → Asks at budget program first → Asks at budget program second → AreAlike first second
  one_ask first second a b = one_ask_way first second (ask_way at budget program first a) (ask_way at budget program second b)

one_print : (program : Program) (first second : Outcome) → Prints program first → Prints program second → AreAlike first second
one_print program first second a b = alike_by first second (Printed program) (Printed program) a b refl

module _ (plain_of : Program → Plain) (script : Script) where
  one_run_way : (first second : Outcome) → RunWays plain_of script first → RunWays plain_of script second → AreAlike first second
  one_run_way first second (inl a) (inl b) =
      alike_by first second (Broken a.refusal) (Broken b.refusal) a.is b.is (ap Broken (one_refusal script.program a.refusal b.refusal a.broken b.broken))
  one_run_way first second (inl a) (inr (inl b)) = absurd (not_broken script.program a.refusal b.rules a.broken)
  one_run_way first second (inl a) (inr (inr b)) = absurd (not_broken script.program a.refusal b.rules a.broken)
  one_run_way first second (inr (inl a)) (inl b) = absurd (not_broken script.program b.refusal a.rules b.broken)
  one_run_way first second (inr (inl a)) (inr (inl b)) =
      alike_by first second (Misfit a.number) (Misfit b.number) a.is b.is
      (ap Misfit (wrongs_same a.number b.number (one_schedule script.program.globals script.store script.moves (Wrong a.number) (Wrong b.number) a.wrong b.wrong)))
  one_run_way first second (inr (inl a)) (inr (inr b)) =
      absurd (wrong_not_fits a.number b.runs.store b.runs.moves (one_schedule script.program.globals script.store script.moves (Wrong a.number) (Fits b.runs.store b.runs.moves) a.wrong b.runs.fits))
  one_run_way first second (inr (inr a)) (inl b) = absurd (not_broken script.program b.refusal a.rules b.broken)
  one_run_way first second (inr (inr a)) (inr (inl b)) =
      absurd (wrong_not_fits b.number a.runs.store a.runs.moves (one_schedule script.program.globals script.store script.moves (Wrong b.number) (Fits a.runs.store a.runs.moves) b.wrong a.runs.fits))
  one_run_way first second (inr (inr a)) (inr (inr b)) =
      alike_by first second (Ran script.program a.trace) (Ran script.program b.trace) a.is b.is
      (ap (λ (t : Trace). Ran script.program t) (one_trace (plain_of script.program) script a.trace b.trace a.runs b.runs))

  one_run : (first second : Outcome) → Runs plain_of script first → Runs plain_of script second → AreAlike first second
  one_run first second a b = one_run_way first second (run_way plain_of script first a) (run_way plain_of script second b)

-- ---- what is found of an input

module _ {A : Type 0} (IsRead : List ℕ → Result A Fault → Type 0) (Says : A → Outcome → Type 0)
    (once : (input : List ℕ) (x y : Result A Fault) → IsRead input x → IsRead input y → x ≡ y)
    (one : (value : A) (first second : Outcome) → Says value first → Says value second → AreAlike first second) where
  one_read : (reading : Result A Fault) (first second : Outcome) → OfRead Says reading first → OfRead Says reading second → AreAlike first second
  one_read (Ok value) first second a b = one value first second a b
  one_read (Err fault) first second a b = alike_by first second (Unread fault) (Unread fault) a b refl

  one_find : (input : List ℕ) (first second : Outcome) → Finds IsRead Says input first → Finds IsRead Says input second → AreAlike first second
  one_find input first second a b = one_read b.reading first second (subst (λ (r : Result A Fault). OfRead Says r first) (once input a.reading b.reading a.read b.read) a.says) b.says

one_replayed : (input : List ℕ) (first second : Outcome) → FindsReplayed input first → FindsReplayed input second → AreAlike first second
one_replayed input first second a b = alike_by first second (Replayed a.replaying_) (Replayed b.replaying_) a.outcome_is b.outcome_is (ap Replayed (one_replaying input a.replaying_ b.replaying_ a.is b.is))

one_found : (task : Task) (input : List ℕ) (first second : Outcome) → FindsBy task input first → FindsBy task input second → AreAlike first second
one_found (Check budget) input first second a b = one_find IsReading (Checks budget) one_reading (one_check budget) input first second a b
one_found (Conditions budget) input first second a b = one_find IsReading (Surveys budget) one_reading (one_survey budget) input first second a b
one_found Fmt input first second a b = one_find IsReading Prints one_reading one_print input first second a b
one_found RunLow input first second a b = one_find IsScriptReading (Runs lowest) one_script_reading (one_run lowest) input first second a b
one_found RunTop input first second a b = one_find IsScriptReading (Runs topmost) one_script_reading (one_run topmost) input first second a b
one_found (Prove budget) input first second a b = one_find IsOutlineReading (Proves budget) one_outline_reading (one_prove budget) input first second a b
one_found (Make at budget) input first second a b = one_find IsReading (Asks at budget) one_reading (one_ask at budget) input first second a b
one_found Replay input first second a b = one_replayed input first second a b

found_short : (task : Task) (input : List ℕ) (outcome : Outcome) → FindsBy task input outcome → length input ≤ limit_of task
found_short (Check budget) input outcome h = h.short
found_short (Conditions budget) input outcome h = h.short
found_short Fmt input outcome h = h.short
found_short RunLow input outcome h = h.short
found_short RunTop input outcome h = h.short
found_short (Prove budget) input outcome h = h.short
found_short (Make at budget) input outcome h = h.short
found_short Replay input outcome h = h.short

pub one_outcome : EachInputIsAnsweredOnce
one_outcome task input first second (inl a) (inl b) = alike_by first second (TooLong (limit_of task)) (TooLong (limit_of task)) a.0 b.0 refl
one_outcome task input first second (inl a) (inr b) = absurd (omega (arith, a.1, found_short task input second b))
one_outcome task input first second (inr a) (inl b) = absurd (omega (arith, b.1, found_short task input first a))
one_outcome task input first second (inr a) (inr b) = one_found task input first second a b
