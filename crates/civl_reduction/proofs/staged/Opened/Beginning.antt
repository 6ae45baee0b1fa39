-- What is said of where a block began: of its procedure, the inputs, and of the store, `done` and the outputs there. It stays along the
-- steps of the block.
use Rattle.std.proofs.Common.{◌≡◌, ℕ, ◌+◌, Bool, List, None, inl, inr, ◌⊎◌}
use Rattle.civl_bits.specs.declared.value.Value.{Value}
use Rattle.civl_tree.specs.declared.program.Proc.{Proc}
use Rattle.civl_tree.specs.declared.program.Program.{Program}
use Rattle.civl_firing.specs.declared.store.Store.{Store}
use Rattle.civl_meaning.specs.declared.config.Config.{Config}
use Rattle.civl_conditions.specs.paths.Ends.{exit_of}
use Rattle.civl_conditions.specs.Values.{Begun}
use Rattle.civl_conditions.specs.Assumed.{inputs_of}
use Rattle.civl_reduction.specs.open_blocks.Ends.{Concludes}
use Rattle.civl_reduction.specs.open_blocks.Following.{led_here}
use Rattle.civl_reduction.specs.blocks.Cuts.{frame_at}
use Rattle.civl_reduction.specs.blocks.Shadow.{Shadowed, seen}
use Rattle.civl_reduction.specs.staged.Calm.{AllIsCalm}
use Rattle.civl_reduction.specs.staged.Opened.{BlockIsOpen, StandsThere, StepLeaves}

-- it is said of what a path knows of its block's beginning
abbrev pub BegunSo : (Proc → List Value → Store → Bool → List Value → Type 0) → Proc → Begun → Type 0
BegunSo says proc b = says proc (inputs_of proc b.locals) b.old b.old_done b.old_outs

-- of an open block
abbrev pub BeganSo : {program : Program} {layer : ℕ} {s : Shadowed} {t : ℕ} → (Proc → List Value → Store → Bool → List Value → Type 0) → BlockIsOpen program layer s t → Type 0
BeganSo says o = says o.f.0 (inputs_of o.f.0 o.b.locals) o.b.old o.b.old_done o.b.old_outs

-- a block whose frame the last step, from this configuration, has removed
pub record HasEnded (says : Proc → List Value → Store → Bool → List Value → Type 0) (program : Program) (layer : ℕ) (last : Config) (s : Shadowed) (t : ℕ) : Type 0 where
  pub before : Shadowed
  pub config : before.config ≡ last
  pub block : BlockIsOpen program layer before t
  pub began : BeganSo says block
  pub concludes : Concludes program (layer + 1) block.c block.f.0 block.cut block.b (exit_of block.f.0) (led_here program (layer + 1) block.f.0 block.here)
  pub store : seen program layer s ≡ seen program layer before
  pub done : s.shadow.done t ≡ before.shadow.done t

-- behind a step the block is open still, and began where it did, or it has ended
abbrev pub LeavesSo : (Proc → List Value → Store → Bool → List Value → Type 0) → Program → ℕ → Config → Shadowed → ℕ → Type 0
LeavesSo says program layer last s t =
    ((o : BlockIsOpen program layer s t) × StandsThere o × BeganSo says o)
    ⊎ (AllIsCalm program layer s × (frame_at program (layer + 1) s.config.threads t ≡ None) × HasEnded says program layer last s t)

-- where nothing is said
abbrev pub nothing_said : Proc → List Value → Store → Bool → List Value → Type 0
nothing_said proc inputs store done outs = Unit {0}

pub leaves_it : (program : Program) (layer : ℕ) (last : Config) (s : Shadowed) (t : ℕ) → LeavesSo nothing_said program layer last s t → StepLeaves program layer s t
leaves_it program layer last s t (inl x) = inl (x.0, x.1)
leaves_it program layer last s t (inr x) = inr (x.0, x.1)
