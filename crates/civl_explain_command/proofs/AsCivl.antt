-- What is found of an input is what `civl` finds of it.
use Rattle.std.proofs.Common.{◌≡◌, ◌⊎◌, inl, inr, List, ℕ, Result, Ok, Err, ap, subst, refl}
use Rattle.civl_tree.specs.declared.program.Program.{Program}
use Rattle.civl_tree.specs.declared.script.Script.{Script}
use Rattle.civl_meaning.specs.declared.config.Plain.{Plain}
use Rattle.civl_meaning.specs.Layers.{lowest, topmost}
use Rattle.civl_frontend.specs.declared.reader.Fault.{Fault}
use Rattle.civl_command.specs.Outcome.{Outcome as Civl, Finds as CivlFindsOf, Runs}
use Rattle.civl_command.specs.Outcome as civl
use Rattle.civl_script.specs.replays.Trace.{trace_of}
use Rattle.civl_explain_words.specs.declared.words.Command.{Command}
use Rattle.civl_explain_words.specs.declared.words.Command.TheVariants.{Check, Conditions, RunLow, RunTop, Prove}
use Rattle.civl_explain_command.specs.Laws.{FindsAsCivl}
use Rattle.civl_explain_command.specs.Outcome.{Outcome, TooLong, Unread, Broken, Heavy, Judged, Surveyed, Misfit, Ran, Proven, Finds, OfRead, Traces, of_civl}

-- what is said of what was read, for civl
read_as : {A : Type 0} (Says : A → Outcome → Type 0) (SaysCivl : A → Civl → Type 0) → ((a : A) (o : Outcome) → Says a o → SaysCivl a (of_civl o))
    → (reading : Result A Fault) (o : Outcome) → OfRead Says reading o → civl.OfRead SaysCivl reading (of_civl o)
read_as Says SaysCivl leads (Ok a) o h = leads a o h
read_as Says SaysCivl leads (Err fault) o h = ap of_civl h

finds_as : {A : Type 0} (IsRead : List ℕ → Result A Fault → Type 0) (Says : A → Outcome → Type 0) (SaysCivl : A → Civl → Type 0)
    → ((a : A) (o : Outcome) → Says a o → SaysCivl a (of_civl o)) → (input : List ℕ) (o : Outcome) → Finds IsRead Says input o
    → CivlFindsOf IsRead SaysCivl input (of_civl o)
finds_as IsRead Says SaysCivl leads input o f = record {
  short = f.short;
  reading = f.reading;
  read = f.read;
  says = read_as Says SaysCivl leads f.reading o f.says;
}

traces_as : (plain_of : Program → Plain) (script : Script) (o : Outcome) → Traces plain_of script o → Runs plain_of script (of_civl o)
traces_as plain_of script (TooLong most) h = h.1
traces_as plain_of script (Unread fault) h = h.1
traces_as plain_of script (Broken program refusal) h = h.1
traces_as plain_of script (Heavy program first) h = h.1
traces_as plain_of script (Judged program budget verdict) h = h.1
traces_as plain_of script (Surveyed program budget survey) h = h.1
traces_as plain_of script (Misfit told number) h = h.1
traces_as plain_of script (Ran told plain store moves) h = (
  h.2,
  h.3,
  record {
    store = store;
    moves = moves;
    fits = h.4;
    trace_is = ap (λ (p : Plain). trace_of p store moves) h.1;
  },
)
traces_as plain_of script (Proven outline budget found) h = h.1

pub finds_as_civl : FindsAsCivl
finds_as_civl command input outcome (inl long) = inl (ap of_civl long.0, long.1)
finds_as_civl (Check budget) input outcome (inr f) = inr (finds_as _ _ _ (λ program o h. h.1) input outcome f)
finds_as_civl (Conditions budget) input outcome (inr f) = inr (finds_as _ _ _ (λ program o h. h.1) input outcome f)
finds_as_civl RunLow input outcome (inr f) = inr (finds_as _ _ _ (traces_as lowest) input outcome f)
finds_as_civl RunTop input outcome (inr f) = inr (finds_as _ _ _ (traces_as topmost) input outcome f)
finds_as_civl (Prove budget) input outcome (inr f) = inr (finds_as _ _ _ (λ outline o h. h.1) input outcome f)
