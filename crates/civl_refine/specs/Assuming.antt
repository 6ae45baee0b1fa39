-- What is asked of a procedure and a cut from which its blocks are judged, and of what its paths begin with.
use Rattle.std.specs.Prelude.{◌≡◌, ℕ, Bool, true, false, not, ◌||◌, ◌&&◌, nat_eq, if◌then◌else◌, slice_get, All, IsSome, Some, option_copied}
use Rattle.civl_tree.specs.declared.expr.Sort.TheVariants.{Word}
use Rattle.civl_tree.specs.declared.action.Action.{Action}
use Rattle.civl_tree.specs.declared.program.Invariant.{Invariant}
use Rattle.civl_tree.specs.declared.program.Proc.{Proc}
use Rattle.civl_tree.specs.declared.program.Program.{Program}
use Rattle.civl_tree.specs.rules.Uses.{param_sorts}
use Rattle.civl_firing.specs.declared.store.Store.{Store}
use Rattle.civl_meaning.specs.Config.{frame_sorts}
use Rattle.civl_layers.specs.declared.cut.CutKind.{CutKind}
use Rattle.civl_conditions.specs.paths.Ends.{is_entry, is_rank_loop}
use Rattle.civl_conditions.specs.Values.{Begun}
use Rattle.civl_conditions.specs.Permissions.{held_at}
use Rattle.civl_conditions.specs.Invariants.{holds_of_globals}
use Rattle.civl_conditions.specs.Assumed.{refined_action, cut_invariant}
use Rattle.civl_tree.specs.rules.Rules.{Keeps}
use Rattle.civl_tree.specs.rules.Typing.{typing_rules}
use Rattle.civl_states.specs.Notes.{IsProcIn}
use Rattle.civl_refine.specs.declared.start.Start.{Start}

-- the action with this number is the one that the procedure refines, and takes and gives what the procedure does
pub record IsRefined (program : Program) (proc : Proc) (number : ℕ) : Type 0 where
  pub action : Action
  pub is : slice_get program.actions number ≡ Some action
  pub refined : refined_action program proc ≡ Some action
  pub params : param_sorts action.params ≡ param_sorts proc.params
  pub outs : param_sorts action.outs ≡ param_sorts proc.outs

-- what is held at a cut are words of the permission width
abbrev pub HeldAreWords : Program → Proc → ℕ → Type 0
HeldAreWords program proc c = All (λ n. slice_get (frame_sorts proc) n ≡ Some (Word program.permissions)) (held_at program proc c)

-- but for a rank loop old means the present; and at the entry `done` is false
pub record BeginsAt (kind : CutKind) (b : Begun) : Type 0 where
  pub entry : is_entry kind ≡ true → b.old_done ≡ false
  pub present : is_rank_loop kind ≡ false → b.old_done ≡ b.done

-- an invariant, where it is one of the step, holds
abbrev pub holds_at : Program → ℕ → Store → Invariant → Bool
holds_at program step g i = if nat_eq i.step step then holds_of_globals program g i.expr else true

-- where old `done` is false the refined action's gate holds; where it is true, so is `done`
abbrev pub gate_or_done : Bool → Bool → Bool → Bool
gate_or_done old_done done gate = (old_done || gate) && (not old_done || done)

-- a procedure of a checked program and one of its cuts, with what belongs to it
pub record IsStart (start : Start) : Type 0 where
  pub rules : Keeps typing_rules start.program.now
  pub proc : IsProcIn start.program.now start.proc.now
  pub refined : IsRefined start.program.now start.proc.now start.refined
  pub note : option_copied start.note ≡ cut_invariant start.proc.now start.cut
  pub said : is_entry start.cut.kind ≡ false → IsSome (cut_invariant start.proc.now start.cut)
  pub held : start.held.now ≡ held_at start.program.now start.proc.now start.number
  pub words : HeldAreWords start.program.now start.proc.now start.number
