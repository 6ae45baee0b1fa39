-- Serves private functions: another thread's frame before a statement with a note, as terms.
use Rattle.std.specs.Prelude.{◌≡◌, ℕ, List, Bool, not, ◌&&◌, slice_get, Some}
use Rattle.civl_bits.specs.declared.value.Value.{Value}
use Rattle.civl_tree.specs.declared.program.Program.{Program}
use Rattle.civl_outlines.specs.declared.outline.Outline.{Outline}
use Rattle.civl_firing.specs.declared.store.Store.{Store}
use Rattle.civl_meaning.specs.declared.config.Activation.{Activation}
use Rattle.civl_meaning.specs.declared.config.Change.{Change}
use Rattle.civl_meaning.specs.Config.{frame_sorts}
use Rattle.civl_terms.specs.declared.node.Node.{Node}
use Rattle.civl_states.specs.formula_parts.Said.{Env, IsTest}
use Rattle.civl_states.specs.formula_parts.Lists.{AreSaid}
use Rattle.civl_conditions.specs.Movers.{on_some}
use Rattle.civl_goals.specs.Outlines.{note_holds}
use Rattle.civl_goals.specs.Failed.{assumed, fired_store, interferes}
use Rattle.civl_goal_terms.specs.declared.others.Beside.{Beside}
use Rattle.civl_goal_terms.specs.declared.places.At.{At}
use Rattle.civl_goal_terms.specs.declared.settings.Setting.{Setting}
use Rattle.civl_goal_terms.specs.inner.Told.{frame}
use Rattle.civl_goal_terms.specs.inner.Settings.{Here, SaysHere, frame_at, done_by}

-- it is the procedure with this number
abbrev pub IsBeside : Program → Beside → Type 0
IsBeside program other = slice_get program.procs other.root ≡ Some other.proc.now

-- with these locals
abbrev pub other_frame : Beside → List Value → Activation
other_frame other locals = frame other.root other.number locals

-- the new term says whether a test is true, whatever the terms of the variables and of the other frame say
abbrev pub TellsBeside : List Node → List Node → Program → At → Setting → Beside → List ℕ → (Here → List Value → Bool) → ℕ → Type 0
TellsBeside old new program at setting other locals test id =
    (h : Env → Here) (l : Env → List Value) → SaysHere old program at setting h → AreSaid old locals (frame_sorts other.proc.now) l → IsTest new id (λ env. test (h env) (l env))

-- the statement's action makes its note false
abbrev pub loses_note : Program → Outline → Activation → Store → Activation → Change → Bool
loses_note program outline other g frame change = on_some (fired_store change) (λ after. not (note_holds program outline after other))

-- what is assumed of both is so, and it does
abbrev pub violated_beside : Program → Outline → At → Beside → Here → List Value → Bool
violated_beside program outline at other here locals =
    assumed program outline here.store (frame_at at here) && done_by program at (interferes program outline (other_frame other locals)) here
