-- What the conditions on paths and blocks say where a path ends, that went from a cut at which all that they assume holds.
-- (Refinement by blocks between yields, and interference freedom: Hawblitzel, Petrank, Qadeer, Tasiran, CAV 2015; Kragl,
-- Qadeer, CAV 2018; Owicki and Gries, 1976. Ranks: Floyd, 1967.)
use Rattle.std.specs.Prelude.{ℕ, ◌≡◌, true, false, List, ◌++◌, Some, slice_get}
use Rattle.std.specs.List.{Contains}
use Rattle.civl_bits.specs.declared.value.Value.{Value}
use Rattle.civl_firing.specs.values.Operators.{two_value}
use Rattle.civl_firing.specs.values.Values.{is_true}
use Rattle.civl_tree.specs.declared.expr.Expr.{Expr}
use Rattle.civl_tree.specs.declared.expr.Two.TheVariants.{Lt}
use Rattle.civl_tree.specs.declared.action.Action.{Action}
use Rattle.civl_tree.specs.declared.program.Proc.{Proc}
use Rattle.civl_tree.specs.declared.program.Program.{Program}
use Rattle.civl_firing.specs.declared.store.Store.{Store}
use Rattle.civl_firing.specs.Eval.{value_of, values_of}
use Rattle.civl_firing.specs.Fired.{fires}
use Rattle.civl_meaning.specs.Permissions.{pairwise_disjoint}
use Rattle.civl_meaning.specs.Change.{outs_in}
use Rattle.civl_layers.specs.declared.cut.Cut.{Cut}
use Rattle.civl_layers.specs.Cuts.{proc_cuts}
use Rattle.civl_layers.specs.Layered.{IsLayered}
use Rattle.civl_conditions.specs.footprints.Agreement.{exists_at}
use Rattle.civl_conditions.specs.paths.NoteValues.{plain_note_values}
use Rattle.civl_conditions.specs.paths.Paths.{Progress, progress_of, has_failed}
use Rattle.civl_conditions.specs.paths.Ends.{is_rank_loop, is_exit, ends_block, arrived}
use Rattle.civl_conditions.specs.declared.condition.Target.{Target}
use Rattle.civl_conditions.specs.Listed.{targets}
use Rattle.civl_conditions.specs.Values.{Begun, same_values, same_stores}
use Rattle.civl_conditions.specs.Assumed.{cut_invariant, cut_rank, note_holds, refined_action, with_of, inputs_of, owned, assumed}
use Rattle.civl_conditions.specs.Parts.{outcome_of, end_values}
use Rattle.civl_conditions.specs.Targets.{target_owned, target_lost}
use Rattle.civl_conditions.specs.Violated.{AllHold}
use Rattle.civl_condition_laws.specs.States.{IsBegun, IsCutOf, AreOthersOf}

-- a path's beginning at the cut with this number, with all that conditions assume there
pub record IsAssumed (program : Program) (step q c : ℕ) (proc : Proc) (cut : Cut) (b : Begun) : Type 0 where
  pub of_cut : IsCutOf program step q c proc cut
  pub begun : IsBegun program step proc cut b
  pub holds : assumed program step proc c cut b ≡ true

-- the path from there ends at the cut with this number, or at the exit, in this state
pub record Arrives (program : Program) (step : ℕ) (proc : Proc) (cut : Cut) (b : Begun) (end : ℕ) (p : Progress) : Type 0 where
  pub arrived_at : arrived proc (outcome_of program step proc cut b) ≡ Some end
  pub state : progress_of (outcome_of program step proc cut b) ≡ p

-- from the old globals the action fires, with the present values behind `with` for its choices, to the present globals of
-- the upper program and the present outputs
pub record Performs (program : Program) (step : ℕ) (proc : Proc) (b : Begun) (p : Progress) (action : Action) : Type 0 where
  pub after : Store × List Value
  pub fires : fires program.globals b.old action (inputs_of proc b.locals) (values_of (plain_note_values program.globals proc p.store p.locals) (with_of proc.refines)) ≡ Some after
  pub globals : same_stores (exists_at step) program p.store after.0 ≡ true
  pub outs : same_values (outs_in proc p.locals) after.1 ≡ true

-- what holds at a path's end
pub record Concludes (program : Program) (step c : ℕ) (proc : Proc) (cut : Cut) (b : Begun) (end : ℕ) (p : Progress) : Type 0 where
  -- the invariant of the cut
  pub invariant : (there : Cut) → slice_get (proc_cuts proc) end ≡ Some there → note_holds (end_values program proc b end p) (cut_invariant proc there) ≡ true
  -- no commit was passed where `done` was true, and at the exit one was passed
  pub once : p.again ≡ false
  pub done : is_exit proc end ≡ true → p.done ≡ true
  -- a block without a new commit leaves the globals of the upper program, and behind a commit the outputs too
  pub stutter : ends_block proc end ≡ true → p.done ≡ b.old_done → same_stores (exists_at step) program p.store b.old ≡ true
  pub outs : ends_block proc end ≡ true → p.done ≡ b.old_done → b.old_done ≡ true → same_values (outs_in proc p.locals) b.old_outs ≡ true
  -- a block with a new commit is a step of the refined action
  pub perform : (action : Action) → ends_block proc end ≡ true → p.done ≡ true → b.old_done ≡ false → refined_action program proc ≡ Some action → Performs program step proc b p action
  -- back at the same loop the rank is smaller
  pub rank : (r : Expr) → is_rank_loop cut.kind ≡ true → end ≡ c → cut_rank proc cut ≡ Some r →
      is_true (two_value Lt (value_of (plain_note_values program.globals proc p.store p.locals) r) (value_of (plain_note_values program.globals proc b.store b.locals) r)) ≡ true
  -- a block keeps the invariants of the step, and those of other threads' yields
  pub keeps : (target : Target) (others : List Value) → Contains (targets program step) target → AreOthersOf program target others → ends_block proc end ≡ true
      → pairwise_disjoint (owned program proc c b ++ target_owned program target others 0) ≡ true → target_lost program step target others 0 b.old p.store ≡ false

-- where all conditions hold, a path that begins so doesn't fail
abbrev pub PathsDoNotFail : Type 0
PathsDoNotFail =
    (program : Program) (step q c : ℕ) (proc : Proc) (cut : Cut) (b : Begun) → IsLayered program → AllHold program
    → IsAssumed program step q c proc cut b → has_failed (outcome_of program step proc cut b) ≡ false

-- and where it ends, it concludes
abbrev pub PathsConclude : Type 0
PathsConclude =
    (program : Program) (step q c : ℕ) (proc : Proc) (cut : Cut) (b : Begun) (end : ℕ) (p : Progress) → IsLayered program → AllHold program
    → IsAssumed program step q c proc cut b → Arrives program step proc cut b end p → Concludes program step c proc cut b end p
