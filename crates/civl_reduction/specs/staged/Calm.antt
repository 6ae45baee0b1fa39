-- What holds along block runs where no block is open: the invariants of the step, and what each frame of a procedure of the
-- layer relies on at its yield. (Owicki and Gries, 1976; yield invariants and linear permissions: Kragl, Qadeer, Layered
-- concurrent programs, CAV 2018.)
use Rattle.std.specs.Prelude.{ℕ, ◌+◌, ◌≡◌, ◌≢◌, Bool, List, Option, None, Some, IsTrue, All}
use Rattle.civl_tree.specs.declared.program.Proc.{Proc}
use Rattle.civl_tree.specs.declared.program.Program.{Program}
use Rattle.civl_firing.specs.declared.store.Store.{Store}
use Rattle.civl_firing.specs.Stores.{IsStore}
use Rattle.civl_meaning.specs.declared.config.Activation.{Activation}
use Rattle.civl_meaning.specs.declared.config.Move.{Move}
use Rattle.civl_meaning.specs.declared.config.Running.{Running}
use Rattle.civl_meaning.specs.declared.config.Config.{Config}
use Rattle.civl_meaning.specs.declared.config.Stepped.TheVariants.{Moved}
use Rattle.civl_meaning.specs.Step.{start, step_of}
use Rattle.civl_meaning.specs.Run.{RunsTo}
use Rattle.civl_meaning.specs.Failing.{IsMove}
use Rattle.civl_meaning.specs.Layers.{program_at}
use Rattle.civl_layers.specs.declared.cut.Cut.{Cut}
use Rattle.civl_conditions.specs.Invariants.{invariants_hold}
use Rattle.civl_conditions.specs.Targets.{yield_holds}
use Rattle.civl_reduction.specs.checked.Checked.{IsChecked}
use Rattle.civl_reduction.specs.blocks.Cuts.{frame_at}
use Rattle.civl_reduction.specs.blocks.Shadow.{Shadowed, seen, shadowed_step, shadowed_start}
use Rattle.civl_reduction.specs.staged.Pausing.{StandsAt}

-- where a frame stands at a yield, the invariant of the yield holds in this store, with the frame's locals and this `done`
abbrev pub FrameIsCalm : Program → ℕ → Store → Bool → Option (Proc × Activation) → Type 0
FrameIsCalm program step store done None = Unit {0}
FrameIsCalm program step store done (Some f) =
    (y : ℕ) (cut : Cut) → StandsAt program step f y cut → IsTrue (yield_holds program f.0 cut (record { locals = f.1.locals; done = done }) store)

-- the invariants of the step hold in this store, and so do those of the yields at which frames of the threads stand, but for one
-- thread
pub record IsCalm (program : Program) (step : ℕ) (store : Store) (done : ℕ → Bool) (threads : List Running) (but : Option ℕ) : Type 0 where
  pub invariants : IsTrue (invariants_hold program step store)
  pub frames : (u : ℕ) → but ≢ Some u → FrameIsCalm program step store (done u) (frame_at program step threads u)

-- all is calm in the store with the shadow's values, which have their sorts
pub record AllIsCalm (program : Program) (layer : ℕ) (s : Shadowed) : Type 0 where
  pub fits : IsStore program.globals s.shadow.store
  pub calm : IsCalm program (layer + 1) (seen program layer s) s.shadow.done s.config.threads None

-- where a program starts
abbrev pub StartsAreCalm : Type 0
StartsAreCalm = (program : Program) (layer : ℕ) (store : Store) → IsChecked program layer store → AllIsCalm program layer (shadowed_start program layer store)

-- a step of a thread that is in no procedure of the layer above, neither before nor behind it, leaves it so
abbrev pub StepsOutsideKeepCalm : Type 0
StepsOutsideKeepCalm =
    (program : Program) (layer : ℕ) (store : Store) (moves : List Move) (s : Shadowed) (m : Move) (d : Config) → IsChecked program layer store
    → All IsMove moves → RunsTo (program_at program layer) moves (start (program_at program layer) store) s.config → IsMove m → step_of (program_at program layer) s.config m ≡ (Moved, d)
    → frame_at program (layer + 1) s.config.threads m.thread ≡ None → frame_at program (layer + 1) d.threads m.thread ≡ None
    → AllIsCalm program layer s → AllIsCalm program layer (shadowed_step program layer s m)
