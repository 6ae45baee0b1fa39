-- The program of a layer fails where the program of the layer below does; so the topmost program does where the lowest does.
-- (Layered refinement: Hawblitzel, Petrank, Qadeer, Tasiran, CAV 2015; Kragl, Qadeer, CAV 2018. Forward simulation: Lynch,
-- Vaandrager, 1995.)
use Rattle.std.specs.Prelude.{ℕ, ◌+◌, ◌<◌, map, IsTrue}
use Rattle.civl_tree.specs.declared.program.Program.{Program}
use Rattle.civl_tree.specs.SpellingDomain.{allows_program}
use Rattle.civl_tree.specs.rules.Rules.{Keeps}
use Rattle.civl_firing.specs.declared.store.Store.{Store}
use Rattle.civl_meaning.specs.declared.config.Running.{Running}
use Rattle.civl_meaning.specs.Failing.{CanFail}
use Rattle.civl_meaning.specs.Initial.{IsInitial}
use Rattle.civl_meaning.specs.Layers.{program_at}
use Rattle.civl_meaning.specs.Preserves.{Preserves}
use Rattle.civl_layers.specs.Layered.{IsLayered}
use Rattle.civl_linear.specs.LinearRules.{linear_rules}
use Rattle.civl_yields.specs.YieldRules.{yield_rules}
use Rattle.civl_conditions.specs.Violated.{AllHold}
use Rattle.civl_reduction.specs.interleavings.Simulation.{Simulates}
use Rattle.civl_reduction.specs.interleavings.Threads.{Config, Move, stepping_of}
use Rattle.civl_reduction.specs.exchanges.Interleavings.{Chosen}
use Rattle.civl_reduction.specs.blocks.Reduces.{plain_move, plain_config, layer_threads, layer_system}
use Rattle.civl_reduction.specs.checked.Checked.{IsChecked}
use Rattle.civl_reduction.specs.blocks.Challenged.{challenged}
use Rattle.civl_reduction.specs.simulation.Meets.{Meets}
use Rattle.civl_reduction.specs.simulation.Sound.{BlocksAreSound}

-- block runs of a layer's program, from this store, are followed by runs of the program of the next layer
abbrev pub LayerIsFollowed : Program → ℕ → Store → Type 0
LayerIsFollowed program layer store =
    Simulates (Config Store Running) (Move Chosen) (Config Store Running) (Move Chosen)
    (layer_system program layer store (challenged program layer store)) (stepping_of (layer_threads program (layer + 1) store))
    (λ moves c x. Meets program layer store (map plain_move moves) (plain_config c) (plain_config x))

abbrev pub CheckedLayersAreFollowed : Type 0
CheckedLayersAreFollowed = (program : Program) (layer : ℕ) (store : Store) → IsChecked program layer store → BlocksAreSound program layer store → LayerIsFollowed program layer store

-- so the next program can fail where the layer's can
abbrev pub LayersAreSound : Type 0
LayersAreSound =
    (program : Program) (layer : ℕ) (store : Store) → IsChecked program layer store → BlocksAreSound program layer store
    → CanFail (program_at program layer) store → CanFail (program_at program (layer + 1)) store

-- a program that the grammar can write and that keeps the rules, all of whose conditions hold
pub record IsAccepted (program : Program) : Type 0 where
  pub written : IsTrue (allows_program program)
  pub layered : IsLayered program
  pub linear : Keeps linear_rules program
  pub yields : Keeps yield_rules program
  pub hold : AllHold program

-- it preserves failures, where it has an initial store and the blocks of each layer are sound
abbrev pub AcceptedPreserve : Type 0
AcceptedPreserve =
    (program : Program) → IsAccepted program → (initial : (store : Store) × IsInitial program store)
    → ((layer : ℕ) (store : Store) → layer < program.layers → IsInitial program store → BlocksAreSound program layer store) → Preserves program
