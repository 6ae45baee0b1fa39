-- What holds along block runs where the block of one thread is open: its frame follows a path from a cut at which all was so
-- that the conditions assume, and what the other threads rely on held at the block's beginning. (Blocks between yields: Kragl,
-- Qadeer, CAV 2018; interference freedom: Owicki, Gries, 1976.)
use Rattle.std.specs.Prelude.{ℕ, ◌+◌, ◌≡◌, ◌≢◌, false, List, ◌++◌, None, Some, slice_get, IsTrue, All, ◌⊎◌}
use Rattle.civl_tree.specs.declared.program.Proc.{Proc}
use Rattle.civl_tree.specs.declared.program.Program.{Program}
use Rattle.civl_firing.specs.declared.store.Store.{Store}
use Rattle.civl_firing.specs.Stores.{IsStore}
use Rattle.civl_meaning.specs.declared.config.Activation.{Activation}
use Rattle.civl_meaning.specs.declared.config.Move.{Move}
use Rattle.civl_meaning.specs.declared.config.Running.{Running}
use Rattle.civl_meaning.specs.declared.config.Config.{Config}
use Rattle.civl_meaning.specs.declared.config.Stepped.TheVariants.{Moved}
use Rattle.civl_meaning.specs.Permissions.{pairwise_disjoint}
use Rattle.civl_meaning.specs.Rest.{rest_at}
use Rattle.civl_meaning.specs.Step.{start, step_of}
use Rattle.civl_meaning.specs.Run.{RunsTo}
use Rattle.civl_meaning.specs.Failing.{IsMove}
use Rattle.civl_meaning.specs.Layers.{program_at}
use Rattle.civl_layers.specs.declared.cut.Cut.{Cut}
use Rattle.civl_conditions.specs.paths.Runs.{Standing}
use Rattle.civl_conditions.specs.Values.{Begun}
use Rattle.civl_conditions.specs.Permissions.{held_at, of_held}
use Rattle.civl_conditions.specs.Assumed.{owned}
use Rattle.civl_reduction.specs.checked.Checked.{IsChecked}
use Rattle.civl_reduction.specs.blocks.Blocks.{at_yield, frame_of_layer, rest_of}
use Rattle.civl_reduction.specs.open_blocks.Following.{led_here}
use Rattle.civl_reduction.specs.open_blocks.Open.{IsOpen}
use Rattle.civl_reduction.specs.blocks.Cuts.{frame_at}
use Rattle.civl_reduction.specs.blocks.Shadow.{Shadowed, seen, after_step, before_step}
use Rattle.civl_reduction.specs.blocks.Challenged.{is_challenged}
use Rattle.civl_reduction.specs.staged.Pausing.{StandsAt}
use Rattle.civl_reduction.specs.staged.Calm.{IsCalm, AllIsCalm}

-- The block of a thread is open: its topmost frame follows a path, whose state is the frame's in the store with the shadow's
-- values. All others were calm at the block's beginning, and hold nothing that was owned where the path begins.
pub record BlockIsOpen (program : Program) (layer : ℕ) (s : Shadowed) (t : ℕ) : Type 0 where
  pub thread : Running
  pub there : slice_get s.config.threads t ≡ Some thread
  pub f : Proc × Activation
  pub framed : frame_of_layer program (layer + 1) thread ≡ Some f
  pub c : ℕ
  pub cut : Cut
  pub b : Begun
  pub bound : ℕ
  pub here : Standing
  pub opened : IsOpen program (layer + 1) f.1.procedure c f.0 cut b bound here s.config.store f.1
  pub store : (led_here program (layer + 1) f.0 here).store ≡ seen program layer s
  pub done : (led_here program (layer + 1) f.0 here).done ≡ s.shadow.done t
  pub fits : IsStore program.globals s.shadow.store
  pub calm : IsCalm program (layer + 1) b.old s.shadow.done s.config.threads (Some t)
  pub apart : (u : ℕ) (g : Proc × Activation) (y : ℕ) (other : Cut) → u ≢ t → frame_at program (layer + 1) s.config.threads u ≡ Some g → StandsAt program (layer + 1) g y other
      → IsTrue (pairwise_disjoint (owned program f.0 c b ++ of_held (held_at program g.0 y) g.1.locals))

-- the path's place is the frame's
abbrev pub StandsThere : {program : Program} {layer : ℕ} {s : Shadowed} {t : ℕ} → BlockIsOpen program layer s t → Type 0
StandsThere o = o.here.place ≡ o.f.1.place

-- behind the path's place comes no yield before the next statement of a plain program, and no yield loop
abbrev pub GoesOn : {program : Program} {layer : ℕ} {s : Shadowed} {t : ℕ} → BlockIsOpen program layer s t → Type 0
GoesOn o = at_yield (rest_at o.f.0.body o.here.place) ≡ false

-- a step of the thread, with what takes effect behind it
abbrev pub stepped : Program → ℕ → Shadowed → Move → Config → Shadowed
stepped program layer s m d = record { config = d; shadow = after_step program layer m.thread s.config d s.shadow }

-- what a step of an open block leaves: the block is open still, or it has ended with its frame
abbrev pub StepLeaves : Program → ℕ → Shadowed → ℕ → Type 0
StepLeaves program layer s t = ((o : BlockIsOpen program layer s t) × StandsThere o) ⊎ (AllIsCalm program layer s × (frame_at program (layer + 1) s.config.threads t ≡ None))

-- ---- laws

-- in a configuration that a run of the layer's program reaches
pub record IsReached (program : Program) (layer : ℕ) (store : Store) (config : Config) : Type 0 where
  pub checked : IsChecked program layer store
  pub moves : List Move
  pub are : All IsMove moves
  pub runs : RunsTo (program_at program layer) moves (start (program_at program layer) store) config

-- a step of an open block's thread
abbrev pub OpenBlocksStep : Type 0
OpenBlocksStep =
    (program : Program) (layer : ℕ) (store : Store) (s : Shadowed) (m : Move) (d : Config) → IsReached program layer store s.config → IsMove m → step_of (program_at program layer) s.config m ≡ (Moved, d)
    → (o : BlockIsOpen program layer s m.thread) → GoesOn o → StepLeaves program layer (stepped program layer s m d) m.thread

-- an open block whose frame stands at a yield has ended
abbrev pub OpenBlocksEnd : Type 0
OpenBlocksEnd =
    (program : Program) (layer : ℕ) (store : Store) (s : Shadowed) (t : ℕ) → IsReached program layer store s.config
    → (o : BlockIsOpen program layer s t) → StandsThere o → IsTrue (at_yield (rest_of o.f)) → AllIsCalm program layer s

-- a call that makes a frame opens a block, where all is calm and nothing is challenged
abbrev pub CallsOpenBlocks : Type 0
CallsOpenBlocks =
    (program : Program) (layer : ℕ) (store : Store) (s : Shadowed) (m : Move) (d : Config) (f : Proc × Activation) → IsReached program layer store s.config → IsMove m → step_of (program_at program layer) s.config m ≡ (Moved, d)
    → AllIsCalm program layer s → is_challenged program layer s ≡ false → frame_at program (layer + 1) s.config.threads m.thread ≡ None → frame_at program (layer + 1) d.threads m.thread ≡ Some f
    → (o : BlockIsOpen program layer (stepped program layer s m d) m.thread) × StandsThere o

-- a step of a thread whose frame stands at a yield, where all is calm and nothing is challenged
abbrev pub YieldsStep : Type 0
YieldsStep =
    (program : Program) (layer : ℕ) (store : Store) (s : Shadowed) (m : Move) (d : Config) (f : Proc × Activation) → IsReached program layer store s.config → IsMove m → step_of (program_at program layer) s.config m ≡ (Moved, d)
    → AllIsCalm program layer s → is_challenged program layer s ≡ false → frame_at program (layer + 1) s.config.threads m.thread ≡ Some f → IsTrue (at_yield (rest_of f))
    → StepLeaves program layer (stepped program layer (record { config = s.config; shadow = before_step program layer m.thread s.config s.shadow }) m d) m.thread
