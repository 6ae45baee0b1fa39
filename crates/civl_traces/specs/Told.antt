-- A trace as it is told: of each statement the values that it changes.
use Rattle.std.specs.Prelude.{ℕ, ◌+◌, nat_eq, if◌then◌else◌, List, [], ◌∷◌, ◌++◌, length, map}
use Rattle.civl_bits.specs.declared.value.Value.{Value}
use Rattle.civl_bits.specs.Value.{same_value}
use Rattle.civl_tree.specs.declared.program.Proc.{Proc}
use Rattle.civl_meaning.specs.declared.config.Plain.{Plain}
use Rattle.civl_conditions.specs.paths.Paths.{Course, Progress, Outcome, Past, Comes, Fails, Stops, progress_of}
use Rattle.civl_traces.specs.declared.walked.Chosen.{Chosen}
use Rattle.civl_traces.specs.declared.walked.Moment.{Moment}
use Rattle.civl_traces.specs.declared.walked.Changed.{Changed}
use Rattle.civl_traces.specs.declared.walked.Passage.{Passage}
use Rattle.civl_traces.specs.declared.walked.Ending.{Ending}
use Rattle.civl_traces.specs.declared.walked.Ending.TheVariants as ending
use Rattle.civl_traces.specs.declared.walked.Walked.{Walked}
use Rattle.civl_traces.specs.Traces.{Passed, Trace}

-- the choices of the call with this number: those of the first of these that has it, and none where none has it
abbrev pub chosen_at : List Chosen → ℕ → List Value
chosen_at [] number = []
chosen_at (call ∷ calls) number = if nat_eq call.statement number then call.choices else chosen_at calls number

abbrev pub course : Plain → Proc → List Chosen → Course
course plain proc chosen = record { plain = plain; proc = proc; chosen = chosen_at chosen }

abbrev pub progress : Moment → Progress
progress m = record { store = m.store; locals = m.locals; done = m.done; again = m.again }

abbrev pub moment : Progress → Moment
moment p = record { store = p.store; locals = p.locals; done = p.done; again = p.again }

-- where two lists of values differ, each place with the value in the one and in the other; the first place has this number
abbrev pub changes : ℕ → List Value → List Value → List Changed
changes at [] ws = []
changes at (v ∷ vs) [] = []
changes at (v ∷ vs) (w ∷ ws) =
    if same_value v w
    then changes (at + 1) vs ws
    else record { place = at; before = v; after = w } ∷ changes (at + 1) vs ws

-- what changes from one state to another: of the globals, and behind them of the parameters, outputs and locals
abbrev pub changed : Progress → Progress → List Changed
changed p q = changes 0 p.store.values q.store.values ++ changes (length p.store.values) p.locals q.locals

abbrev pub passage : Passed → Passage
passage q = record { statement = q.statement; took = q.took; changed = changed q.before q.behind; done = q.behind.done; again = q.behind.again }

abbrev pub ending_of : Outcome → Ending
ending_of (Past p) = ending.Past
ending_of (Comes number p) = ending.Comes
ending_of (Fails p) = ending.Fails
ending_of (Stops p) = ending.Stops

abbrev pub told : Trace → Walked
told t = record { passed = map passage t.passed; ending = ending_of t.outcome; at = t.at; end = moment (progress_of t.outcome) }
