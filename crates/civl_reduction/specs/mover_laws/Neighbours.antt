-- Two neighbouring steps of a layer's program are exchanged, where the first is a right mover or the second a left one.
-- (Lipton, Reduction: a method of proving properties of parallel programs, 1975.)
use Rattle.std.specs.Prelude.{ℕ, ◌≡◌, ◌≢◌, ◌≤◌, Bool, List, Some, slice_get, IsTrue, All, ◌⊎◌}
use Rattle.civl_tree.specs.declared.action.Action.{Action}
use Rattle.civl_tree.specs.declared.action.Mover.{Mover}
use Rattle.civl_tree.specs.declared.program.Program.{Program}
use Rattle.civl_tree.specs.SpellingDomain.{allows_program}
use Rattle.civl_tree.specs.rules.Rules.{Keeps}
use Rattle.civl_firing.specs.declared.store.Store.{Store}
use Rattle.civl_meaning.specs.declared.config.Move.{Move}
use Rattle.civl_meaning.specs.declared.config.Running.{Running}
use Rattle.civl_meaning.specs.declared.config.Config.{Config}
use Rattle.civl_meaning.specs.declared.config.Stepped.TheVariants.{Moved}
use Rattle.civl_meaning.specs.Step.{start, step_of}
use Rattle.civl_meaning.specs.Run.{RunsTo}
use Rattle.civl_meaning.specs.Failing.{IsMove}
use Rattle.civl_meaning.specs.Layers.{program_at}
use Rattle.civl_meaning.specs.Initial.{IsInitial}
use Rattle.civl_layers.specs.Layered.{IsLayered}
use Rattle.civl_linear.specs.LinearRules.{linear_rules}
use Rattle.civl_layers.specs.Movers.{is_left, is_right}
use Rattle.civl_meaning.specs.Change.{Doing, Fails, Waits, Ends, Goes, Enters, Leaves, Spawns, Calls, doing}
use Rattle.civl_reduction.specs.exchanges.Exchange.{Exchanged}
use Rattle.civl_reduction.specs.permissions.Stay.{KeepsPermissions}
use Rattle.civl_reduction.specs.permissions.Apart.{SpawnsStandInRoots}
use Rattle.civl_reduction.specs.mover_laws.Movers.{MoversHold}

-- a step that calls no action and spawns no thread, or calls such a mover
abbrev pub MovesAs : (Mover → Bool) → Doing → Type 0
MovesAs is_mover Fails = Unit {0}
MovesAs is_mover Waits = Unit {0}
MovesAs is_mover Ends = Unit {0}
MovesAs is_mover (Goes locals place) = Unit {0}
MovesAs is_mover (Enters frame place) = Unit {0}
MovesAs is_mover (Leaves frame) = Unit {0}
MovesAs is_mover (Spawns thread place) = ⊥
MovesAs is_mover (Calls names locals results next action args) = IsTrue (is_mover action.mover)

-- a program that the grammar can write and that keeps the rules up to E43, with spawns in roots, whose conditions on
-- permissions and movers hold, and an initial store of it
pub record IsSound (program : Program) (layer : ℕ) (store : Store) : Type 0 where
  pub written : IsTrue (allows_program program)
  pub layered : IsLayered program
  pub linear : Keeps linear_rules program
  pub roots : SpawnsStandInRoots program
  pub within : layer ≤ program.layers
  pub permissions : (number : ℕ) (action : Action) → slice_get program.actions number ≡ Some action → action.first ≤ layer → KeepsPermissions program action
  pub movers : MoversHold program layer
  pub initial : IsInitial program store

-- two steps of different threads, both there before, from a configuration that is reached, where the first is a right mover
-- or the second a left one: they lead to the same end the other way round, or something fails before
abbrev pub NeighboursExchange : Type 0
NeighboursExchange =
    (program : Program) (layer : ℕ) (store : Store) (moves : List Move) (c d e : Config) (m n : Move) (r q : Running)
    → IsSound program layer store → All IsMove moves → RunsTo (program_at program layer) moves (start (program_at program layer) store) c
    → IsMove m → IsMove n → m.thread ≢ n.thread → slice_get c.threads m.thread ≡ Some r → slice_get c.threads n.thread ≡ Some q
    → MovesAs is_right (doing (program_at program layer) r) ⊎ MovesAs is_left (doing (program_at program layer) q)
    → step_of (program_at program layer) c m ≡ (Moved, d) → step_of (program_at program layer) d n ≡ (Moved, e) → Exchanged (program_at program layer) c m n e
