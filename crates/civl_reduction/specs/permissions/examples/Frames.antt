-- What a thread owns in the frames of the procedure P(take x, lend y) -> (give o) of a program with linear locals, whose
-- body is this, with a linear local z:
--
--     call Give() -> (z);
--     call P(x, y) -> (o);
use Rattle.std.specs.Prelude.{ℕ, ◌≡◌, List, [], ◌∷◌, codes}
use Rattle.civl_tree.specs.declared.program.Program.{Program}
use Rattle.civl_tree.specs.examples.RulesFlag.{named, name, call}
use Rattle.civl_firing.specs.examples.Written.{word}
use Rattle.civl_meaning.specs.declared.config.Activation.{Activation}
use Rattle.civl_meaning.specs.declared.config.State.{State}
use Rattle.civl_meaning.specs.declared.config.State.TheVariants.{Before, Inside, After}
use Rattle.civl_linear.specs.examples.Dock.{dock, gives}
use Rattle.civl_reduction.specs.permissions.Owned.{owned}

abbrev pub docked : Program
docked = dock (gives (codes "z") ∷ call (codes "P") (name (codes "x") ∷ name (codes "y") ∷ []) (named (codes "o") ∷ []) ∷ [])

-- a frame of P at this place, in which x, y, o, z and v are 0, 1, 2, 3 and 0
abbrev pub frame_at : ℕ → Activation
frame_at place = record { procedure = 0; place = place; locals = word 2 0 ∷ word 2 1 ∷ word 2 2 ∷ word 2 3 ∷ word 2 0 ∷ [] }

abbrev pub owned_in : State → List (List ℕ)
owned_in state = owned docked (record { callee = 0; args = word 2 3 ∷ word 2 1 ∷ []; state = state })

-- before its first step a thread owns its linear arguments, and behind its end nothing
abbrev pub BeforeAndAfter : Type 0
BeforeAndAfter = (owned_in Before ≡ (3 ∷ []) ∷ (1 ∷ []) ∷ []) × (owned_in After ≡ [])

-- at the entry x and y are held; before the second call z too; at the exit y, o and z
abbrev pub Topmost : Type 0
Topmost =
    (owned_in (Inside [] (frame_at 0)) ≡ (0 ∷ []) ∷ (1 ∷ []) ∷ [])
    × (owned_in (Inside [] (frame_at 1)) ≡ (0 ∷ []) ∷ (1 ∷ []) ∷ (3 ∷ []) ∷ [])
    × (owned_in (Inside [] (frame_at 2)) ≡ (1 ∷ []) ∷ (2 ∷ []) ∷ (3 ∷ []) ∷ [])

-- while the second call runs, its frame owns z alone, and x and y are those of the frame above it
abbrev pub Waiting : Type 0
Waiting = owned_in (Inside (frame_at 1 ∷ []) (frame_at 0)) ≡ (3 ∷ []) ∷ (0 ∷ []) ∷ (1 ∷ []) ∷ []
