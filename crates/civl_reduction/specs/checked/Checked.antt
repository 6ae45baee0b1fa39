-- Programs whose conditions hold. (Movers: Lipton, Reduction: a method of proving properties of parallel programs, 1975;
-- of layers: Hawblitzel, Petrank, Qadeer, Tasiran, CAV 2015.)
use Rattle.std.specs.Prelude.{ℕ, ◌<◌, ◌≡◌, ◌≢◌, List, ◌∷◌, ◌++◌, length, Some, slice_get, IsTrue, All, ◌⊎◌}
use Rattle.civl_tree.specs.declared.action.Action.{Action}
use Rattle.civl_tree.specs.declared.program.Program.{Program}
use Rattle.civl_tree.specs.SpellingDomain.{allows_program}
use Rattle.civl_tree.specs.rules.Rules.{Keeps}
use Rattle.civl_firing.specs.declared.store.Store.{Store}
use Rattle.civl_meaning.specs.declared.config.Move.{Move}
use Rattle.civl_meaning.specs.declared.config.Running.{Running}
use Rattle.civl_meaning.specs.declared.config.Config.{Config}
use Rattle.civl_meaning.specs.declared.config.Stepped.TheVariants.{Moved}
use Rattle.civl_meaning.specs.Step.{start, step_of}
use Rattle.civl_meaning.specs.Run.{RunsTo}
use Rattle.civl_meaning.specs.Failing.{IsMove}
use Rattle.civl_meaning.specs.Layers.{program_at}
use Rattle.civl_meaning.specs.Initial.{IsInitial}
use Rattle.civl_layers.specs.Layered.{IsLayered}
use Rattle.civl_linear.specs.LinearRules.{linear_rules}
use Rattle.civl_layers.specs.Movers.{is_left, is_right}
use Rattle.civl_conditions.specs.Violated.{AllHold}
use Rattle.civl_meaning.specs.Change.{doing}
use Rattle.civl_reduction.specs.exchanges.Exchange.{Exchanged}
use Rattle.civl_reduction.specs.permissions.Owned.{IsParted}
use Rattle.civl_reduction.specs.permissions.Stay.{KeepsPermissions}
use Rattle.civl_reduction.specs.permissions.Apart.{SpawnsStandInRoots}
use Rattle.civl_yields.specs.YieldRules.{yield_rules}
use Rattle.civl_reduction.specs.mover_laws.Movers.{MoversHold}
use Rattle.civl_reduction.specs.mover_laws.Neighbours.{MovesAs}
use Rattle.civl_reduction.specs.declared.swapped.Swapped.{Swapped}
use Rattle.civl_reduction.specs.Swap.{IsSwapped}
use Rattle.civl_reduction.specs.Never.{IsNoDifference}

-- where E52 is kept
abbrev pub SpawnsAreInRoots : Type 0
SpawnsAreInRoots = (program : Program) → Keeps yield_rules program → SpawnsStandInRoots program

-- K2 of states: of each action whose first layer is below the top
abbrev pub ActionsKeepPermissions : Type 0
ActionsKeepPermissions =
    (program : Program) (number : ℕ) (action : Action) → IsLayered program → AllHold program
    → slice_get program.actions number ≡ Some action → action.first < program.layers → KeepsPermissions program action

-- K3 to K8 of states: up to the step from each layer below the top
abbrev pub ActionsAreMovers : Type 0
ActionsAreMovers = (program : Program) (layer : ℕ) → IsLayered program → AllHold program → layer < program.layers → MoversHold program layer

-- a program that the grammar can write and that keeps the rules, all of whose conditions hold; a layer below its top; and
-- an initial store of it
pub record IsChecked (program : Program) (layer : ℕ) (store : Store) : Type 0 where
  pub written : IsTrue (allows_program program)
  pub layered : IsLayered program
  pub linear : Keeps linear_rules program
  pub yields : Keeps yield_rules program
  pub hold : AllHold program
  pub below : layer < program.layers
  pub initial : IsInitial program store

-- every configuration that a run of this layer's program reaches is parted
abbrev pub CheckedStayParted : Type 0
CheckedStayParted =
    (program : Program) (layer : ℕ) (store : Store) (moves : List Move) (config : Config)
    → IsChecked program layer store → All IsMove moves → RunsTo (program_at program layer) moves (start (program_at program layer) store) config → IsParted program config

-- from it two steps of different threads, both there before, of which the first is a right mover or the second a left one,
-- lead to the same end the other way round, or something fails before
abbrev pub CheckedExchange : Type 0
CheckedExchange =
    (program : Program) (layer : ℕ) (store : Store) (moves : List Move) (c d e : Config) (m n : Move) (r q : Running)
    → IsChecked program layer store → All IsMove moves → RunsTo (program_at program layer) moves (start (program_at program layer) store) c
    → IsMove m → IsMove n → m.thread ≢ n.thread → slice_get c.threads m.thread ≡ Some r → slice_get c.threads n.thread ≡ Some q
    → MovesAs is_right (doing (program_at program layer) r) ⊎ MovesAs is_left (doing (program_at program layer) q)
    → step_of (program_at program layer) c m ≡ (Moved, d) → step_of (program_at program layer) d n ≡ (Moved, e) → Exchanged (program_at program layer) c m n e

-- and the exchange of two neighbouring moves of these of an interleaving is no difference
abbrev pub CheckedNeverDiffers : Type 0
CheckedNeverDiffers =
    (program : Program) (layer : ℕ) (store : Store) (reaching : List Move) (from c d e end : Config) (first : List Move) (m n : Move) (last : List Move) (r q : Running) (swapped : Swapped)
    → IsChecked program layer store → All IsMove reaching → RunsTo (program_at program layer) reaching (start (program_at program layer) store) from
    → All IsMove first → IsMove m → IsMove n → m.thread ≢ n.thread
    → RunsTo (program_at program layer) first from c → step_of (program_at program layer) c m ≡ (Moved, d) → step_of (program_at program layer) d n ≡ (Moved, e) → RunsTo (program_at program layer) last e end
    → slice_get c.threads m.thread ≡ Some r → slice_get c.threads n.thread ≡ Some q
    → MovesAs is_right (doing (program_at program layer) r) ⊎ MovesAs is_left (doing (program_at program layer) q)
    → IsSwapped (program_at program layer) from (first ++ m ∷ (n ∷ last)) (length first) swapped → IsNoDifference swapped
