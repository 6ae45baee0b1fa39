-- What is asked at the end of a path.
use Rattle.std.specs.Prelude.{slice_get, not, ◌||◌, if◌then◌else◌}
use Rattle.std.specs.Option.{option_map_or}
use Rattle.std.proofs.Common.{◌≡◌, ◌∙◌, ℕ, Bool, true, false, ◌&&◌, refl, sym, ap, Option, Some, None}
use Rattle.std.proofs.lemmas.Bool.{false≢true}
use Rattle.std.proofs.Math.Bool.{not-not}
use Rattle.civl_tree.specs.declared.expr.Expr.{Expr}
use Rattle.civl_tree.specs.declared.action.Action.{Action}
use Rattle.civl_tree.specs.declared.program.Proc.{Proc}
use Rattle.civl_tree.specs.declared.program.Program.{Program}
use Rattle.civl_firing.specs.declared.scope.Scope.{Scope}
use Rattle.civl_firing.specs.Fired.{fires, guard_holds, store_after, outs_after}
use Rattle.civl_meaning.specs.Change.{outs_in}
use Rattle.civl_layers.specs.declared.cut.Cut.{Cut}
use Rattle.civl_layers.specs.Cuts.{proc_cuts}
use Rattle.civl_conditions.specs.footprints.Agreement.{exists_at}
use Rattle.civl_conditions.specs.paths.NoteValues.{note_values, steady_note_values}
use Rattle.civl_conditions.specs.paths.Paths.{Progress}
use Rattle.civl_conditions.specs.paths.Ends.{ends_block, is_rank_loop}
use Rattle.civl_conditions.specs.declared.condition.Part.TheVariants.{Invariant, Perform}
use Rattle.civl_conditions.specs.Values.{Begun, same_values, same_stores}
use Rattle.civl_conditions.specs.Movers.{on_some}
use Rattle.civl_conditions.specs.Invariants.{holds_in}
use Rattle.civl_conditions.specs.Assumed.{inputs_of, cut_invariant, note_holds}
use Rattle.civl_conditions.specs.Parts.{end_values}
use Rattle.civl_states.proofs.Firing.{fires_where}
use Rattle.civl_refine.specs.Assuming.{IsRefined}
use Rattle.civl_refine.specs.Judging.{fails_at, comes_to, with_values}

-- at an end where the part asks nothing
pub unasked : (a b : Bool) → a ≡ false → not (a && b) ≡ true
unasked true b e = absurd (false≢true (sym e))
unasked false b e = refl

-- at one where it asks
pub asked : (a b : Bool) → a ≡ true → not b ≡ not (a && b)
asked true b e = refl
asked false b e = absurd (false≢true e)

-- ---- perform

perform_bools : (d o c : Bool) → (not d || (o || c)) ≡ not (d && (not o && not c))
perform_bools true true c = refl
perform_bools true false true = refl
perform_bools true false false = refl
perform_bools false o c = refl

module _ (program : Program) (step : ℕ) (proc : Proc) (number : ℕ) (r : IsRefined program proc number) (b : Begun) (p : Progress) where
  comes : on_some (fires program.globals b.old r.action (inputs_of proc b.locals) (with_values program proc p)) (λ d. same_stores (exists_at step) program p.store d.0 && same_values (outs_in proc p.locals) d.1) ≡ comes_to program step proc r.action b (with_values program proc p) p
  unfolding fires
  comes =
      fires_where (guard_holds program.globals b.old r.action (inputs_of proc b.locals) (with_values program proc p))
      (store_after program.globals b.old r.action (inputs_of proc b.locals) (with_values program proc p), outs_after program.globals b.old r.action (inputs_of proc b.locals) (with_values program proc p))
      (λ d. same_stores (exists_at step) program p.store d.0 && same_values (outs_in proc p.locals) d.1)

  pub perform_is : (c : ℕ) (cut : Cut) (end : ℕ) → ends_block proc end ≡ true
      → (not p.done || (b.old_done || comes_to program step proc r.action b (with_values program proc p) p)) ≡ not (fails_at program step proc c cut b Perform end p)
  perform_is c cut end e =
      perform_bools p.done b.old_done (comes_to program step proc r.action b (with_values program proc p) p)
      ∙ ap (λ (t : Bool). not (p.done && (not b.old_done && not t))) (sym comes)
      ∙ ap (λ (o : Option Action). not (p.done && (not b.old_done && on_some o (λ a. not (on_some (fires program.globals b.old a (inputs_of proc b.locals) (with_values program proc p)) (λ d. same_stores (exists_at step) program p.store d.0 && same_values (outs_in proc p.locals) d.1)))))) (sym r.refined)
      ∙ asked (ends_block proc end) _ e

-- ---- invariants

-- the values for the invariant of a cut where a path ends
pub values_there : (program : Program) (proc : Proc) (b : Begun) (end : ℕ) (p : Progress) (cut : Cut) → slice_get (proc_cuts proc) end ≡ Some cut
    → (if is_rank_loop cut.kind then note_values program.globals proc p.store p.locals p.done b.old b.old_outs b.old_done else steady_note_values program.globals proc p.store p.locals p.done) ≡ end_values program proc b end p
values_there program proc b end p cut e = by (is_rank_loop cut.kind) (ap (λ (o : Option Cut). option_map_or (λ k. not (is_rank_loop k.kind)) o true) e)
  where
    by : (t : Bool) → ends_block proc end ≡ not t → (if t then note_values program.globals proc p.store p.locals p.done b.old b.old_outs b.old_done else steady_note_values program.globals proc p.store p.locals p.done) ≡ end_values program proc b end p
    by true q = ap (λ (x : Bool). if x then steady_note_values program.globals proc p.store p.locals p.done else note_values program.globals proc p.store p.locals p.done b.old b.old_outs b.old_done) (sym q)
    by false q = ap (λ (x : Bool). if x then steady_note_values program.globals proc p.store p.locals p.done else note_values program.globals proc p.store p.locals p.done b.old b.old_outs b.old_done) (sym q)

pub invariant_is : (program : Program) (step : ℕ) (proc : Proc) (c : ℕ) (k : Cut) (b : Begun) (end : ℕ) (p : Progress) (cut : Cut) (e : Expr) → slice_get (proc_cuts proc) end ≡ Some cut → cut_invariant proc cut ≡ Some e
    → holds_in (if is_rank_loop cut.kind then note_values program.globals proc p.store p.locals p.done b.old b.old_outs b.old_done else steady_note_values program.globals proc p.store p.locals p.done) e ≡ not (fails_at program step proc c k b Invariant end p)
invariant_is program step proc c k b end p cut e at is =
    ap (λ (x : Scope). holds_in x e) (values_there program proc b end p cut at)
    ∙ ap (λ (o : Option Expr). note_holds (end_values program proc b end p) o) (sym is)
    ∙ sym (not-not (note_holds (end_values program proc b end p) (cut_invariant proc cut)))
    ∙ ap (λ (o : Option Cut). not (on_some o (λ x. not (note_holds (end_values program proc b end p) (cut_invariant proc x))))) (sym at)

pub invariant_none : (program : Program) (step : ℕ) (proc : Proc) (c : ℕ) (k : Cut) (b : Begun) (end : ℕ) (p : Progress) (cut : Cut) → slice_get (proc_cuts proc) end ≡ Some cut → cut_invariant proc cut ≡ None
    → not (fails_at program step proc c k b Invariant end p) ≡ true
invariant_none program step proc c k b end p cut at is =
    ap (λ (o : Option Cut). not (on_some o (λ x. not (note_holds (end_values program proc b end p) (cut_invariant proc x))))) at
    ∙ ap (λ (o : Option Expr). not (not (note_holds (end_values program proc b end p) o))) is

pub exit_none : (program : Program) (step : ℕ) (proc : Proc) (c : ℕ) (k : Cut) (b : Begun) (end : ℕ) (p : Progress) → slice_get (proc_cuts proc) end ≡ None → not (fails_at program step proc c k b Invariant end p) ≡ true
exit_none program step proc c k b end p at = ap (λ (o : Option Cut). not (on_some o (λ x. not (note_holds (end_values program proc b end p) (cut_invariant proc x))))) at
