-- The values of a call's arguments have the sorts of its callee's parameters.
use Rattle.std.proofs.Common.{◌≡◌, ℕ, Bool, false, List, length, refl, sym, ◌∙◌, subst, Option, Some, slice_get}
use Rattle.std.specs.Prelude.{is_none}
use Rattle.std.specs.List.{list_any}
use Rattle.std.proofs.lemmas.Bool.{or_parts}
use Rattle.std.proofs.lemmas.List.{length-map}
use Rattle.civl_bits.specs.declared.value.Value.{Value}
use Rattle.civl_firing.specs.values.Values.{HaveSorts}
use Rattle.civl_tree.specs.declared.name.Name.{Name}
use Rattle.civl_tree.specs.declared.expr.Expr.{Expr}
use Rattle.civl_tree.specs.declared.stmt.Stmt.{Stmt, out-Stmt}
use Rattle.civl_tree.specs.declared.stmt.Stmt.TheOpen.{Stmt-F, Call, Spawn}
use Rattle.civl_tree.specs.declared.program.Proc.{Proc}
use Rattle.civl_tree.specs.declared.program.Program.{Program}
use Rattle.civl_tree.specs.Numbering.{statement_at}
use Rattle.civl_tree.specs.rules.Names.{Signature, callee_signature, proc_named}
use Rattle.civl_tree.specs.rules.Scopes.{body_scope}
use Rattle.civl_tree.specs.rules.Uses.{Use, param_sorts, taken_sorts, argument_uses, form_uses, stmt_uses}
use Rattle.civl_tree.specs.rules.Sorted.{any_missorted, form_missorted, stmt_missorted}
use Rattle.civl_tree.specs.rules.Width.{any_width}
use Rattle.civl_tree.specs.rules.Index.{any_index}
use Rattle.civl_tree.specs.rules.Unknown.{any_unknown, place_unknown, form_unknown, stmt_unknown}
use Rattle.civl_tree.specs.rules.Rules.{Keeps}
use Rattle.civl_tree.specs.rules.Typing.{typing_rules, unknown_rule, width_rule, sort_rule, index_rule}
use Rattle.civl_tree.proofs.Kept.{statement_kept, unknown_among, width_among, sort_among, index_among}
use Rattle.civl_tree.proofs.Options.{some_of}
use Rattle.civl_firing.specs.Eval.{values_of}
use Rattle.civl_firing.specs.Scope.{frame_values}
use Rattle.civl_firing.proofs.Having.{args_have_sorts}
use Rattle.civl_meaning.specs.Config.{frame_sorts}
use Rattle.civl_soundness.proofs.Firing.{body_is_sorted}

module _ (program : Program) (typed : Keeps typing_rules program) (i : ℕ) (proc : Proc) (at : slice_get program.procs i ≡ Some proc) (n : ℕ) (s : Stmt) (here : statement_at proc.body n ≡ Some s) where
  known : form_unknown program proc (out-Stmt s) ≡ false
  known = (or_parts (form_unknown program proc (out-Stmt s)) (any_unknown (form_uses program proc (out-Stmt s))) (statement_kept typing_rules program typed unknown_rule unknown_among (stmt_unknown program proc) i proc at refl n s here)).0

  -- a called name has a signature
  pub callee_known : (g : Name) (es : List Expr) (rs : List Name) → out-Stmt s ≡ Call g es rs → (signature : Signature) × (callee_signature program g ≡ Some signature)
  callee_known g es rs q =
      some_of (callee_signature program g) (or_parts (is_none (callee_signature program g)) (list_any (place_unknown proc) rs) (subst (λ (d : Stmt-F Stmt). form_unknown program proc d ≡ false) q known)).0

  -- and a spawned name a procedure
  pub spawned_known : (g : Name) (es : List Expr) → out-Stmt s ≡ Spawn g es → (other : Proc) × (proc_named program g ≡ Some other)
  spawned_known g es q = some_of (proc_named program g) (subst (λ (d : Stmt-F Stmt). form_unknown program proc d ≡ false) q known)

  pub args_sorted : (locals : List Value) → HaveSorts locals (frame_sorts proc) → (g : Name) (es : List Expr) (rs : List Name) → out-Stmt s ≡ Call g es rs → (signature : Signature) → callee_signature program g ≡ Some signature → length es ≡ length signature.params
      → HaveSorts (values_of (frame_values program.globals proc locals) es) (param_sorts signature.params)
  args_sorted locals fit g es rs q signature e count =
      let m = (or_parts (any_missorted (form_uses program proc (out-Stmt s))) (form_missorted program proc (out-Stmt s)) (statement_kept typing_rules program typed sort_rule sort_among (stmt_missorted program proc) i proc at refl n s here)).0 in
      let w = statement_kept typing_rules program typed width_rule width_among (λ stmt. any_width (stmt_uses program proc stmt)) i proc at refl n s here in
      let x = statement_kept typing_rules program typed index_rule index_among (λ stmt. any_index (stmt_uses program proc stmt)) i proc at refl n s here in
      let uses = argument_uses (body_scope program proc) es in
      let by_form = λ (p : List Use → Bool) (h : p (form_uses program proc (out-Stmt s)) ≡ false). subst (λ (o : Option Signature). p (uses (taken_sorts o)) ≡ false) e (subst (λ (d : Stmt-F Stmt). p (form_uses program proc d) ≡ false) q h) in
      args_have_sorts (frame_values program.globals proc locals) (body_scope program proc) (body_is_sorted program i proc locals typed at fit) es (param_sorts signature.params)
      (by_form any_missorted m) (by_form any_width w) (by_form any_index x) (count ∙ sym (length-map signature.params (λ p. p.sort)))
