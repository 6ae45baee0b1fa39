-- Serves private functions: what the terms say of holds, of notes and of what is assumed, whatever the terms of the store and of the frame say.
use Rattle.std.specs.Prelude.{ℕ, List, Bool}
use Rattle.civl_bits.specs.declared.value.Value.{Value}
use Rattle.civl_tree.specs.declared.program.Proc.{Proc}
use Rattle.civl_tree.specs.declared.program.Program.{Program}
use Rattle.civl_outlines.specs.declared.outline.Outline.{Outline}
use Rattle.civl_firing.specs.declared.store.Store.{Store}
use Rattle.civl_meaning.specs.declared.config.Activation.{Activation}
use Rattle.civl_meaning.specs.Config.{frame_sorts}
use Rattle.civl_terms.specs.declared.node.Node.{Node}
use Rattle.civl_states.specs.formula_parts.Said.{Env, IsTest}
use Rattle.civl_states.specs.formula_parts.Lists.{AreSaid}
use Rattle.civl_states.specs.Stores.{AreStore}
use Rattle.civl_goals.specs.Outlines.{invariant_holds, note_holds}

-- a frame of the procedure with this number, at a place
abbrev pub frame : ℕ → ℕ → List Value → Activation
frame r s locals = record { procedure = r; place = s; locals = locals }

-- the new term says whether a test of the store is true
abbrev pub TellsStore : List Node → List Node → Program → List ℕ → (Store → Bool) → ℕ → Type 0
TellsStore old new program globals test id = (g : Env → Store) → AreStore old program globals g → IsTest new id (λ env. test (g env))

-- and of a frame of this procedure
abbrev pub TellsFrame : List Node → List Node → Program → Proc → List ℕ → List ℕ → (Store → List Value → Bool) → ℕ → Type 0
TellsFrame old new program proc globals locals test id =
    (g : Env → Store) (l : Env → List Value) → AreStore old program globals g → AreSaid old locals (frame_sorts proc) l → IsTest new id (λ env. test (g env) (l env))

-- whether all holds are true
abbrev pub TellsHolds : List Node → List Node → Program → Outline → List ℕ → ℕ → Type 0
TellsHolds old new program outline globals id = TellsStore old new program globals (invariant_holds program outline) id

-- whether the note before the statement s of the procedure r is true
abbrev pub TellsNote : List Node → List Node → Program → Outline → ℕ → Proc → ℕ → List ℕ → List ℕ → ℕ → Type 0
TellsNote old new program outline r proc s globals locals id = TellsFrame old new program proc globals locals (λ g l. note_holds program outline g (frame r s l)) id
