-- When values violate the condition that blocks or actions keep an invariant of the step, or the invariant of another
-- thread's yield (interference freedom: Owicki and Gries, 1976; with linear permissions: Kragl, Qadeer, CAV 2018).
use Rattle.std.specs.Prelude.{ℕ, ◌+◌, Bool, false, not, ◌&&◌, List, [], ◌++◌, length}
use Rattle.civl_bits.specs.declared.value.Value.{Value}
use Rattle.civl_tree.specs.declared.program.Proc.{Proc}
use Rattle.civl_tree.specs.declared.program.Program.{Program}
use Rattle.civl_firing.specs.declared.store.Store.{Store}
use Rattle.civl_meaning.specs.Permissions.{pairwise_disjoint}
use Rattle.civl_layers.specs.declared.cut.Cut.{Cut}
use Rattle.civl_conditions.specs.paths.NoteValues.{steady_note_values}
use Rattle.civl_conditions.specs.declared.condition.Target.{Target}
use Rattle.civl_conditions.specs.declared.condition.Target.TheVariants as target
use Rattle.civl_conditions.specs.Steps.{of_proc, of_cut}
use Rattle.civl_conditions.specs.Values.{Invoked, Begun, part, flag_at}
use Rattle.civl_conditions.specs.Permissions.{in_store, of_inputs, held_at, of_held}
use Rattle.civl_conditions.specs.Invariants.{invariant_lost, invariants_hold}
use Rattle.civl_conditions.specs.Movers.{on_some, gate_of, fires_of}
use Rattle.civl_conditions.specs.Assumed.{cut_invariant, note_holds, owned, assumed}
use Rattle.civl_conditions.specs.Parts.{outcome_of, at_block_end}

-- ---- another thread's frame

-- how many parameters, outputs and locals there are
abbrev pub frame_size : Proc → ℕ
frame_size proc = length proc.params + (length proc.outs + length proc.locals)

pub record Other : Type 0 where
  pub locals : List Value
  pub done : Bool

-- whose values stand from this place on
abbrev pub other_of : Proc → List Value → ℕ → Other
other_of proc values at = record { locals = part values at (frame_size proc); done = flag_at values (at + frame_size proc) }

-- the invariant of the yield that is this cut holds for this frame
abbrev pub yield_holds : Program → Proc → Cut → Other → Store → Bool
yield_holds program proc cut other g = note_holds (steady_note_values program.globals proc g other.locals other.done) (cut_invariant proc cut)

-- the permissions of the frame's held locals
abbrev pub target_owned : Program → Target → List Value → ℕ → List (List ℕ)
target_owned program (target.Invariant i) values at = []
target_owned program (target.Yield r y) values at = of_proc program r [] (λ proc. of_held (held_at program proc y) (other_of proc values at).locals)

-- the invariant doesn't hold after; or the yield's, which held before, doesn't
abbrev pub target_lost : Program → ℕ → Target → List Value → ℕ → Store → Store → Bool
target_lost program step (target.Invariant i) values at before after = invariant_lost program step i after
target_lost program step (target.Yield r y) values at before after =
    of_cut program r y false (λ proc cut. yield_holds program proc cut (other_of proc values at) before && not (yield_holds program proc cut (other_of proc values at) after))

-- ---- conditions

-- K10: what is assumed at a cut holds, and what is owned there and in the frame is disjoint; but a block from there loses
-- the target
abbrev pub block_fails : Program → ℕ → Proc → ℕ → Cut → Begun → Target → List Value → ℕ → Bool
block_fails program step proc c cut b target values at =
    assumed program step proc c cut b
    && (pairwise_disjoint (owned program proc c b ++ target_owned program target values at)
    && at_block_end proc (outcome_of program step proc cut b) (λ p. target_lost program step target values at b.old p.store))

-- K11: the invariants of the step and the action's gate hold, what is owned by it and by the frame is disjoint, and it fires;
-- but it loses the target
abbrev pub act_fails : Program → ℕ → Store → Invoked → Target → List Value → ℕ → Bool
act_fails program step g x target values at =
    invariants_hold program step g
    && (gate_of program g x
    && (pairwise_disjoint (in_store program g ++ (of_inputs x ++ target_owned program target values at))
    && on_some (fires_of program g x) (λ a. target_lost program step target values at g a.0)))
