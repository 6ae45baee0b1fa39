-- What a thread's open block has done since it began, and what it has done at its end: all is refined. (Refinement by blocks
-- between yields: Hawblitzel, Petrank, Qadeer, Tasiran, CAV 2015; Kragl, Qadeer, CAV 2018.)
use Rattle.std.specs.Prelude.{ℕ, ◌+◌, ◌≡◌, true, false, List, IsTrue, None, Some, ◌⊎◌}
use Rattle.civl_bits.specs.declared.value.Value.{Value}
use Rattle.civl_tree.specs.declared.program.Proc.{Proc}
use Rattle.civl_tree.specs.declared.program.Program.{Program}
use Rattle.civl_firing.specs.declared.store.Store.{Store}
use Rattle.civl_firing.specs.Stores.{IsStore}
use Rattle.civl_meaning.specs.declared.config.Activation.{Activation}
use Rattle.civl_meaning.specs.declared.Config.{Config}
use Rattle.civl_meaning.specs.declared.config.Move.{Move}
use Rattle.civl_meaning.specs.declared.config.Stepped.TheVariants.{Moved}
use Rattle.civl_meaning.specs.Step.{step_of}
use Rattle.civl_meaning.specs.Failing.{IsMove}
use Rattle.civl_meaning.specs.Layers.{program_at}
use Rattle.civl_conditions.specs.Assumed.{inputs_of}
use Rattle.civl_reduction.specs.checked.Checked.{IsChecked}
use Rattle.civl_reduction.specs.blocks.Cuts.{frame_at}
use Rattle.civl_reduction.specs.blocks.Shadow.{Shadowed, seen, before_step}
use Rattle.civl_reduction.specs.blocks.Blocks.{at_yield, rest_of}
use Rattle.civl_reduction.specs.blocks.Challenged.{is_challenged}
use Rattle.civl_reduction.specs.staged.Calm.{AllIsCalm}
use Rattle.civl_reduction.specs.staged.Opened.{BlockIsOpen, StandsThere, GoesOn, stepped, IsReached}
use Rattle.civl_reduction.specs.simulation.Refined.{Sight, IsRefined, with_values, IsPickedBefore, sight, sight_before}
use Rattle.civl_reduction.specs.simulation.Joined.{sight_old}
use Rattle.civl_reduction.specs.simulation.Sound.{BlocksAreRefined}

-- from where the block began, with this sight, to the beginning of the path it follows all is refined
abbrev pub IsCarried : {program : Program} {layer : ℕ} {s : Shadowed} {t : ℕ} → (List Value → Type 0) → Sight → BlockIsOpen program layer s t → Type 0
IsCarried {program} {layer} picked began o = IsRefined picked program (layer + 1) o.f.0 (inputs_of o.f.0 o.b.locals) began (sight_old o.b)

-- a step from this configuration leaves no frame there: where it removed it all is refined, and a commit was passed
abbrev pub Exits : (List Value → Type 0) → Program → ℕ → Sight → Config → Shadowed → ℕ → Type 0
Exits picked program layer began last s t =
    (frame_at program (layer + 1) s.config.threads t ≡ None) × IsStore program.globals s.shadow.store
    × ((f : Proc × Activation) → frame_at program (layer + 1) last.threads t ≡ Some f
    → IsRefined (λ chosen. (chosen ≡ with_values program f.0 (seen program layer s) f.1.locals) ⊎ picked chosen) program (layer + 1) f.0 (inputs_of f.0 f.1.locals) began (sight program layer s t f) × (s.shadow.done t ≡ true))

-- behind a step from this configuration the block is open, with what was carried along, or has ended with its frame
abbrev pub StepCarries : (List Value → Type 0) → Program → ℕ → Sight → Config → Shadowed → ℕ → Type 0
StepCarries picked program layer began last s t = ((o : BlockIsOpen program layer s t) × StandsThere o × IsCarried picked began o) ⊎ Exits picked program layer began last s t

-- ---- laws

-- a step of an open block's thread carries it along
abbrev pub OpenBlocksCarry : Type 1
OpenBlocksCarry =
    (program : Program) (layer : ℕ) (store : Store) (s : Shadowed) (m : Move) (d : Config) → IsReached program layer store s.config → IsMove m → step_of (program_at program layer) s.config m ≡ (Moved, d)
    → (o : BlockIsOpen program layer s m.thread) → GoesOn o → (picked : List Value → Type 0) (began : Sight) → IsCarried picked began o → StepCarries picked program layer began s.config (stepped program layer s m d) m.thread

-- a call that makes a frame opens a block that begins there
abbrev pub CallsCarry : Type 1
CallsCarry =
    (program : Program) (layer : ℕ) (store : Store) (s : Shadowed) (m : Move) (d : Config) (f : Proc × Activation) → IsReached program layer store s.config → IsMove m → step_of (program_at program layer) s.config m ≡ (Moved, d)
    → AllIsCalm program layer s → is_challenged program layer s ≡ false → frame_at program (layer + 1) s.config.threads m.thread ≡ None → frame_at program (layer + 1) d.threads m.thread ≡ Some f
    → (picked : List Value → Type 0) → (o : BlockIsOpen program layer (stepped program layer s m d) m.thread) × StandsThere o × IsCarried picked (sight_before program layer s m.thread None) o

-- a step from a yield goes on with a block that began there
abbrev pub YieldsCarry : Type 0
YieldsCarry =
    (program : Program) (layer : ℕ) (store : Store) (s : Shadowed) (m : Move) (d : Config) (f : Proc × Activation) → IsReached program layer store s.config → IsMove m → step_of (program_at program layer) s.config m ≡ (Moved, d)
    → AllIsCalm program layer s → is_challenged program layer s ≡ false → frame_at program (layer + 1) s.config.threads m.thread ≡ Some f → IsTrue (at_yield (rest_of f))
    → StepCarries (IsPickedBefore program layer s m.thread (Some f)) program layer (sight program layer s m.thread f) s.config (stepped program layer (record { config = s.config; shadow = before_step program layer m.thread s.config s.shadow }) m d) m.thread

-- the blocks of a checked program are refined
abbrev pub CheckedAreRefined : Type 0
CheckedAreRefined = (program : Program) (layer : ℕ) (store : Store) → IsChecked program layer store → BlocksAreRefined program layer store
