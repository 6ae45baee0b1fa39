-- Configurations that are the flag program's, and others that aren't.
use Rattle.std.specs.Prelude.{true, false, [], ◌∷◌}
use Rattle.civl_meaning.specs.declared.config.State.TheVariants.{Before, Inside}
use Rattle.civl_meaning.specs.Layers.{lowest, topmost}
use Rattle.civl_meaning.specs.Config.{IsOf}
use Rattle.civl_firing.specs.examples.Written.{word, holding}
use Rattle.civl_meaning.specs.examples.Flag.{flag, flag_is, bare, running, set}

-- after the action
abbrev pub ReachedIsOf : Type 0
ReachedIsOf = IsOf (lowest flag) (set true (Inside [] (bare 0 1)))

-- there is one procedure
abbrev pub NoSuchProcedure : Type 0
NoSuchProcedure = IsOf (lowest flag) (set false (Inside [] (bare 1 0))) → ⊥

-- its body has two statements
abbrev pub NoSuchPlace : Type 0
NoSuchPlace = IsOf (lowest flag) (set false (Inside [] (bare 0 3))) → ⊥

-- DoSet calls an action, so no frame above its frame waits for one of DoSet
abbrev pub NoSuchCaller : Type 0
NoSuchCaller = IsOf (lowest flag) (set false (Inside (bare 0 0 ∷ []) (bare 0 0))) → ⊥

-- in the topmost program a call of DoSet is the action
abbrev pub NoBodyThere : Type 0
NoBodyThere = IsOf (topmost flag) (set false (Inside [] (bare 0 0))) → ⊥

-- the flag is a bool
abbrev pub NoSuchStore : Type 0
NoSuchStore = IsOf (lowest flag) (record { store = holding (word 8 0 ∷ []); threads = [] }) → ⊥

-- no thread begins with another procedure
abbrev pub NoSuchThread : Type 0
NoSuchThread = IsOf (lowest flag) (record { store = flag_is false; threads = running 1 Before ∷ [] }) → ⊥
