-- Frames that stand between two blocks: each stands at a yield or a yield loop, which is a cut of its procedure, and holds there
-- what its thread owns. (Blocks between yields, and linear permissions: Kragl, Qadeer, Layered concurrent programs, CAV 2018.)
use Rattle.std.specs.Prelude.{ℕ, ◌+◌, ◌≡◌, ◌≢◌, List, ◌∷◌, ◌++◌, Some, slice_get, IsTrue, All}
use Rattle.civl_tree.specs.declared.program.Proc.{Proc}
use Rattle.civl_tree.specs.declared.program.Program.{Program}
use Rattle.civl_tree.specs.declared.stmt.Stmt.{Stmt}
use Rattle.civl_firing.specs.declared.store.Store.{Store}
use Rattle.civl_meaning.specs.declared.config.Activation.{Activation}
use Rattle.civl_meaning.specs.declared.config.Running.{Running}
use Rattle.civl_meaning.specs.declared.config.Config.{Config}
use Rattle.civl_meaning.specs.declared.config.Move.{Move}
use Rattle.civl_meaning.specs.Rest.{Rest}
use Rattle.civl_meaning.specs.Permissions.{pairwise_disjoint}
use Rattle.civl_meaning.specs.Layers.{program_at}
use Rattle.civl_meaning.specs.Step.{start}
use Rattle.civl_meaning.specs.Run.{RunsTo}
use Rattle.civl_meaning.specs.Failing.{IsMove}
use Rattle.civl_conditions.specs.Values.{Invoked}
use Rattle.civl_conditions.specs.Permissions.{in_store, of_inputs, held_at, of_held}
use Rattle.civl_reduction.specs.permissions.Apart.{StandsBefore}
use Rattle.civl_reduction.specs.checked.Checked.{IsChecked}
use Rattle.civl_layers.specs.declared.cut.Cut.{Cut}
use Rattle.civl_layers.specs.Cuts.{cut_kind}
use Rattle.civl_conditions.specs.paths.Ends.{is_yield_cut, cut_number}
use Rattle.civl_condition_laws.specs.States.{IsCutOf}
use Rattle.civl_reduction.specs.blocks.Blocks.{at_yield, frame_of_layer, rest_of}
use Rattle.civl_reduction.specs.blocks.Cuts.{settled}

-- a frame, with its procedure, of which this is still to run, stands at the cut with this number: past commits and intros comes
-- the cut's statement, a yield or a yield loop
pub record StandsAt (program : Program) (step : ℕ) (f : Proc × Activation) (y : ℕ) (cut : Cut) : Type 0 where
  pub at : IsCutOf program step f.1.procedure y f.0 cut
  pub number : y ≡ cut_number f.0 cut.statement
  pub yields : IsTrue (is_yield_cut cut.kind)
  pub stmt : Stmt
  pub kind : cut_kind stmt ≡ Some cut.kind
  pub behind : Rest
  pub here : settled (rest_of f) ≡ (cut.statement, stmt) ∷ behind

-- a thread's frame of a procedure of the step's layer that stands at a yield stands at one of the procedure's cuts
abbrev pub FramesStandAtCuts : Type 0
FramesStandAtCuts =
    (program : Program) (step : ℕ) (thread : Running) (f : Proc × Activation)
    → frame_of_layer program step thread ≡ Some f → IsTrue (at_yield (rest_of f)) → (y : ℕ) × (cut : Cut) × StandsAt program step f y cut

-- in a configuration that a run of the layer's program reaches, the permissions that are held at the cut are apart from those of
-- the linear globals and from what another thread hands over to the action before whose call it stands
abbrev pub PausesAreApart : Type 0
PausesAreApart =
    (program : Program) (layer : ℕ) (store : Store) (moves : List Move) (config : Config) → IsChecked program layer store → All IsMove moves → RunsTo (program_at program layer) moves (start (program_at program layer) store) config
    → (t u : ℕ) (x : Invoked) (thread : Running) (f : Proc × Activation) (y : ℕ) (cut : Cut) → t ≢ u → StandsBefore program layer config t x
    → slice_get config.threads u ≡ Some thread → frame_of_layer program (layer + 1) thread ≡ Some f → StandsAt program (layer + 1) f y cut
    → IsTrue (pairwise_disjoint ((in_store program config.store ++ of_inputs x) ++ of_held (held_at program f.0 y) f.1.locals))
