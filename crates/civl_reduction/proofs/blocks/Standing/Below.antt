-- In the program of a layer a call in a procedure of the layer above runs no body: it means an action. So a frame of such a
-- procedure is a thread's topmost one.
use Rattle.std.proofs.Common.{◌≡◌, ℕ, ◌+◌, ◌≤◌, Bool, true, false, List, refl, sym, ap, ◌∙◌, subst, arith, Option, None, Some, slice_get}
use Rattle.std.specs.Prelude.{take, option_map}
use Rattle.std.proofs.lemmas.Bool.{false≢true, ltb-true, leb-false}
use Rattle.std.proofs.lemmas.Option.{same_Some, slice_get-map}
use Rattle.civl_tree.specs.declared.name.Name.{Name}
use Rattle.civl_tree.specs.declared.expr.Expr.{Expr}
use Rattle.civl_tree.specs.declared.action.Action.{Action}
use Rattle.civl_tree.specs.declared.stmt.Stmt.{Stmt, out-Stmt}
use Rattle.civl_tree.specs.declared.stmt.Stmt.TheOpen.{Stmt-F, Call}
use Rattle.civl_tree.specs.declared.program.Refines.{Refines}
use Rattle.civl_tree.specs.declared.program.Proc.{Proc}
use Rattle.civl_tree.specs.declared.program.Program.{Program}
use Rattle.civl_tree.specs.Numbering.{statement_at}
use Rattle.civl_tree.specs.rules.Names.{action_named, proc_named}
use Rattle.civl_tree.proofs.Kept.{statement_kept}
use Rattle.civl_meaning.specs.declared.config.Plain.{Plain}
use Rattle.civl_meaning.specs.Meaning.{Runs, proc_number, meaning_of_action, refined, meaning_by, meaning_of, meaning_else, called}
use Rattle.civl_meaning.specs.Layers.{means_body, program_at}
use Rattle.civl_meaning.proofs.Begun.{proc_is}
use Rattle.civl_layers.specs.NotBelow.{calls_option, call_not_below, form_not_below, stmt_not_below, layered_runs}
use Rattle.civl_layers.specs.LayerRules.{layer_rules, not_below_rule}
use Rattle.civl_layers.specs.Layered.{IsLayered}

module _ (program : Program) (layer : ℕ) (src : IsLayered program) where
  abbrev plain : Plain
  plain = program_at program layer

  body_of : (k n : ℕ) (p : Proc) (b : Option Bool) (o : Option Proc) → meaning_by program b k o ≡ Runs n p → (b ≡ Some true) × (o ≡ Some p)
  body_of k n p b None e = absurd cc
  body_of k n p (Some true) (Some q) e = (refl, cc)
  body_of k n p None (Some q) e = absurd cc
  body_of k n p (Some false) (Some q) e = absurd (by_refines q.refines e)
    where
      by_action : (o : Option Action) → meaning_of_action o ≡ Runs n p → ⊥
      by_action None h = cc
      by_action (Some a) h = cc

      by_refines : (o : Option Refines) → refined program o ≡ Runs n p → ⊥
      by_refines None h = cc
      by_refines (Some r) h = by_action (action_named program r.action) h

  -- a procedure whose body runs is a root, or of a layer above
  runs_above : (number n : ℕ) (p : Proc) → meaning_of plain number ≡ Runs n p → (slice_get program.procs number ≡ Some p) × (means_body layer p.refines ≡ true)
  runs_above number n p e =
      let b = body_of number n p (slice_get plain.bodies number) (slice_get program.procs number) e in
      let is : slice_get plain.bodies number ≡ Some (means_body layer p.refines) = slice_get-map (λ (q : Proc). means_body layer q.refines) program.procs number ∙ ap (option_map (λ (q : Proc). means_body layer q.refines)) b.1 in
      (b.1, same_Some (means_body layer p.refines) true (sym is ∙ b.0))

  name_above : (g : Name) (n : ℕ) (p : Proc) → called plain g ≡ Runs n p → (action_named program g ≡ None) × (proc_named program g ≡ Some p) × (means_body layer p.refines ≡ true)
  name_above g n p e = go (action_named program g) refl e
    where
      go : (o : Option Action) → action_named program g ≡ o → meaning_else plain g o ≡ Runs n p → (action_named program g ≡ None) × (proc_named program g ≡ Some p) × (means_body layer p.refines ≡ true)
      go (Some a) q h = absurd cc
      go None q h = let r = runs_above (proc_number program g) n p h in (q, sym (proc_is program g) ∙ r.0, r.1)

  -- no procedure that is run is below one of the layer above
  none_between : (o : Option Refines) → means_body layer o ≡ true → (top : ℕ) → top ≤ layer + 1 → layered_runs top o ≡ false → ⊥
  none_between None m top l e = false≢true (sym e)
  none_between (Some r) m top l e = let low = ltb-true layer r.layer m in let high = leb-false top r.layer e in omega (arith, l, low, high)

  module _ (number : ℕ) (proc : Proc) (refines : Refines) (at : slice_get program.procs number ≡ Some proc) (is : proc.refines ≡ Some refines) (low : refines.layer ≤ layer + 1) where
    pub calls_no_body : (place : ℕ) (stmt : Stmt) → statement_at proc.body place ≡ Some stmt → (g : Name) (es : List Expr) (rs : List Name) → out-Stmt stmt ≡ Call g es rs → (n : ℕ) (p : Proc) → called plain g ≡ Runs n p → ⊥
    calls_no_body place stmt here g es rs form n p e = none_between p.refines a.2 refines.layer low one
      where
        a : (action_named program g ≡ None) × (proc_named program g ≡ Some p) × (means_body layer p.refines ≡ true)
        a = name_above g n p e

        kept : form_not_below program (take number program.procs) proc.refines (out-Stmt stmt) ≡ false
        kept = statement_kept layer_rules program src.layers not_below_rule (2, omega arith, refl) (stmt_not_below program number proc) number proc at refl place stmt here

        call : call_not_below (take number program.procs) (Some refines) (action_named program g) (proc_named program g) ≡ false
        call = subst (λ (o : Option Refines). form_not_below program (take number program.procs) o (Call g es rs) ≡ false) is (subst (λ (d : Stmt-F Stmt). form_not_below program (take number program.procs) proc.refines d ≡ false) form kept)

        one : layered_runs refines.layer p.refines ≡ false
        one = subst (λ (o : Option Proc). calls_option (take number program.procs) (Some refines) o ≡ false) a.1 (subst (λ (o : Option Action). call_not_below (take number program.procs) (Some refines) o (proc_named program g) ≡ false) a.0 call)
