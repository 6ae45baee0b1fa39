-- What `civl` finds of an input is found of it here, of some outcome.
use Rattle.std.proofs.Common.{◌≡◌, ◌∙◌, ◌⊎◌, inl, inr, List, ℕ, Result, Ok, Err, ap, sym, refl}
use Rattle.civl_tree.specs.declared.program.Program.{Program}
use Rattle.civl_tree.specs.declared.script.Script.{Script}
use Rattle.civl_meaning.specs.declared.config.Plain.{Plain}
use Rattle.civl_meaning.specs.Layers.{lowest, topmost}
use Rattle.civl_script.specs.replays.Trace.{trace_of}
use Rattle.civl_script.specs.declared.replays.trace.Trace.{Trace}
use Rattle.civl_outlines.specs.declared.outline.Outline.{Outline}
use Rattle.civl_frontend.specs.Texts.{limit}
use Rattle.civl_frontend.specs.declared.reader.Fault.{Fault}
use Rattle.civl_command.specs.Outcome.{Outcome as Civl, Finds as CivlFindsOf, Checks, Proves, Runs, Surveys}
use Rattle.civl_command.specs.Outcome as civl
use Rattle.civl_explain_words.specs.declared.words.Command.TheVariants.{Check, Conditions, RunLow, RunTop, Prove}
use Rattle.civl_explain_command.specs.Laws.{FindsAllOfCivl}
use Rattle.civl_explain_command.specs.Outcome.{Outcome, TooLong, Unread, Broken, Heavy, Judged, Surveyed, Misfit, Ran, Proven}
use Rattle.civl_explain_command.specs.Outcome.{Explains, Finds, Outlines, Traces, of_civl}

-- what is found is that of an outcome of which this is so
abbrev Has : (Outcome → Type 0) → Civl → Type 0
Has says found = (outcome : Outcome) × says outcome × (of_civl outcome ≡ found)

-- ---- by the commands

checks_has : (budget : ℕ) (program : Program) (found : Civl) → Checks budget program found → Has (Explains (Checks budget) program) found
checks_has budget program (civl.Broken refusal) h = (Broken program refusal, (refl, h), refl)
checks_has budget program (civl.Heavy weighed first) h = (Heavy weighed first, (tt, h), refl)
checks_has budget program (civl.Judged judged told verdict) h = (Judged judged told verdict, (tt, h), refl)
checks_has budget program (civl.TooLong most) h = absurd h
checks_has budget program (civl.Unread fault) h = absurd h
checks_has budget program (civl.Surveyed surveyed told survey) h = absurd h
checks_has budget program (civl.Printed printed) h = absurd h
checks_has budget program (civl.Misfit number) h = absurd h
checks_has budget program (civl.Ran ran trace) h = absurd h
checks_has budget program (civl.Proven proven told found) h = absurd h
checks_has budget program (civl.Asked asked at told making) h = absurd h
checks_has budget program (civl.Replayed replaying) h = absurd h

surveys_has : (budget : ℕ) (program : Program) (found : Civl) → Surveys budget program found → Has (Explains (Surveys budget) program) found
surveys_has budget program (civl.Broken refusal) h = (Broken program refusal, (refl, h), refl)
surveys_has budget program (civl.Heavy weighed first) h = (Heavy weighed first, (tt, h), refl)
surveys_has budget program (civl.Surveyed surveyed told survey) h = (Surveyed surveyed told survey, (tt, h), refl)
surveys_has budget program (civl.TooLong most) h = absurd h
surveys_has budget program (civl.Unread fault) h = absurd h
surveys_has budget program (civl.Judged judged told verdict) h = absurd h
surveys_has budget program (civl.Printed printed) h = absurd h
surveys_has budget program (civl.Misfit number) h = absurd h
surveys_has budget program (civl.Ran ran trace) h = absurd h
surveys_has budget program (civl.Proven proven told found) h = absurd h
surveys_has budget program (civl.Asked asked at told making) h = absurd h
surveys_has budget program (civl.Replayed replaying) h = absurd h

proves_has : (budget : ℕ) (outline : Outline) (found : Civl) → Proves budget outline found → Has (Outlines budget outline) found
proves_has budget outline (civl.Broken refusal) h = (Broken outline.program refusal, (refl, h), refl)
proves_has budget outline (civl.Proven proven told found) h = (Proven proven told found, (tt, h), refl)
proves_has budget outline (civl.TooLong most) h = absurd h
proves_has budget outline (civl.Unread fault) h = absurd h
proves_has budget outline (civl.Heavy weighed first) h = absurd h
proves_has budget outline (civl.Judged judged told verdict) h = absurd h
proves_has budget outline (civl.Surveyed surveyed told survey) h = absurd h
proves_has budget outline (civl.Printed printed) h = absurd h
proves_has budget outline (civl.Misfit number) h = absurd h
proves_has budget outline (civl.Ran ran trace) h = absurd h
proves_has budget outline (civl.Asked asked at told making) h = absurd h
proves_has budget outline (civl.Replayed replaying) h = absurd h

module _ (plain_of : Program → Plain) (same : (program : Program) → (plain_of program).program ≡ program) where
  runs_has : (script : Script) (found : Civl) → Runs plain_of script found → Has (Traces plain_of script) found
  runs_has script (civl.Broken refusal) h = (Broken script.program refusal, (refl, h), refl)
  runs_has script (civl.Misfit number) h = (Misfit script number, (refl, h), refl)
  runs_has script (civl.Ran program trace) h =
      let plain : Plain = plain_of script.program in (
        Ran script plain h.2.store h.2.moves,
        (refl, refl, same script.program, h.1, h.2.fits),
        ap (λ (p : Program). civl.Ran p (trace_of plain h.2.store h.2.moves)) (same script.program ∙ sym h.0)
            ∙ ap (λ (t : Trace). civl.Ran program t) (sym h.2.trace_is),
      )
  runs_has script (civl.TooLong most) h = absurd h
  runs_has script (civl.Unread fault) h = absurd h
  runs_has script (civl.Heavy weighed first) h = absurd h
  runs_has script (civl.Judged judged told verdict) h = absurd h
  runs_has script (civl.Surveyed surveyed told survey) h = absurd h
  runs_has script (civl.Printed printed) h = absurd h
  runs_has script (civl.Proven proven told found) h = absurd h
  runs_has script (civl.Asked asked at told making) h = absurd h
  runs_has script (civl.Replayed replaying) h = absurd h

-- ---- of an input

finds_has : {A : Type 0} (IsRead : List ℕ → Result A Fault → Type 0) (Says : A → Outcome → Type 0) (SaysCivl : A → Civl → Type 0)
    → ((a : A) (found : Civl) → SaysCivl a found → Has (Says a) found) → (input : List ℕ) (found : Civl) → CivlFindsOf IsRead SaysCivl input found
    → Has (Finds IsRead Says input) found
finds_has {A = A} IsRead Says SaysCivl has input found f = by f.reading f.read f.says
  where
    by : (reading : Result A Fault) → IsRead input reading → civl.OfRead SaysCivl reading found → Has (Finds IsRead Says input) found
    by (Ok a) read says =
        let one = has a found says in
        (one.0, record { short = f.short; reading = Ok a; read = read; says = one.1 }, one.2)
    by (Err fault) read says = (Unread fault, record { short = f.short; reading = Err fault; read = read; says = refl }, sym says)

-- an outcome that is found
found_by : {Long Found : Outcome → Type 0} (found : Civl) → Has Found found → Has (λ outcome. Long outcome ⊎ Found outcome) found
found_by found has = (has.0, inr has.1, has.2)

pub finds_all_of_civl : FindsAllOfCivl
finds_all_of_civl command input found (inl long) = (TooLong limit, inl (refl, long.1), sym long.0)
finds_all_of_civl (Check budget) input found (inr f) = found_by found (finds_has _ _ _ (checks_has budget) input found f)
finds_all_of_civl (Conditions budget) input found (inr f) = found_by found (finds_has _ _ _ (surveys_has budget) input found f)
finds_all_of_civl RunLow input found (inr f) = found_by found (finds_has _ _ _ (runs_has lowest (λ p. refl)) input found f)
finds_all_of_civl RunTop input found (inr f) = found_by found (finds_has _ _ _ (runs_has topmost (λ p. refl)) input found f)
finds_all_of_civl (Prove budget) input found (inr f) = found_by found (finds_has _ _ _ (proves_has budget) input found f)
