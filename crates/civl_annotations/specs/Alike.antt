-- Programs that differ in annotations alone run alike. A configuration has numbers of statements and values, and no text, so each
-- configuration of the one is one of the other. (Erasing ghost code keeps the runs: Filliâtre, Gondelman, Paskevich, CAV 2014.)
use Rattle.std.specs.Prelude.{ℕ, ◌≡◌, ◌↔◌}
use Rattle.civl_tree.specs.declared.program.Program.{Program}
use Rattle.civl_firing.specs.declared.store.Store.{Store}
use Rattle.civl_meaning.specs.declared.config.Config.{Config}
use Rattle.civl_meaning.specs.declared.config.Move.{Move}
use Rattle.civl_meaning.specs.declared.config.Running.{Running}
use Rattle.civl_meaning.specs.Step.{start, step_of}
use Rattle.civl_meaning.specs.Failing.{thread_fails, CanFail}
use Rattle.civl_meaning.specs.Initial.{IsInitial}
use Rattle.civl_meaning.specs.Layers.{program_at, lowest, topmost}
use Rattle.civl_meaning.specs.Preserves.{Preserves}
use Rattle.civl_annotations.specs.Bare.{DifferInAnnotations}

-- they start in the same stores, at each layer in the same configuration
abbrev pub StartAlike : Type 0
StartAlike =
    (one other : Program) → DifferInAnnotations one other → (store : Store) →
    (IsInitial one store ↔ IsInitial other store) × ((layer : ℕ) → start (program_at one layer) store ≡ start (program_at other layer) store)

-- at each layer each move leads to the same answer and the same configuration
abbrev pub StepAlike : Type 0
StepAlike =
    (one other : Program) → DifferInAnnotations one other → (layer : ℕ) (config : Config) (move : Move) →
    step_of (program_at one layer) config move ≡ step_of (program_at other layer) config move

-- and each thread stands before what fails where it does so in the other
abbrev pub FailAlike : Type 0
FailAlike =
    (one other : Program) → DifferInAnnotations one other → (layer : ℕ) (store : Store) (thread : Running) →
    thread_fails (program_at one layer) store thread ≡ thread_fails (program_at other layer) store thread

-- so at each layer the one can fail from the stores from which the other can
abbrev pub CanFailAlike : Type 0
CanFailAlike =
    (one other : Program) → DifferInAnnotations one other → (layer : ℕ) (store : Store) →
    CanFail (program_at one layer) store ↔ CanFail (program_at other layer) store

-- what `accepted` says of a program it says of the other too
abbrev pub PreserveAlike : Type 0
PreserveAlike = (one other : Program) → DifferInAnnotations one other → Preserves one ↔ Preserves other

-- no interleaving of the lowest program from an initial store fails: what `safe` says
abbrev pub NeverFails : Program → Type 0
NeverFails program = (store : Store) → IsInitial program store → CanFail (lowest program) store → ⊥

-- none of the topmost program does
abbrev pub TopNeverFails : Program → Type 0
TopNeverFails program = (store : Store) → IsInitial program store → CanFail (topmost program) store → ⊥

-- what `safe` says of a program it says of the other too
abbrev pub SafeAlike : Type 0
SafeAlike =
    (one other : Program) → DifferInAnnotations one other →
    (NeverFails one ↔ NeverFails other) × (TopNeverFails one ↔ TopNeverFails other)
