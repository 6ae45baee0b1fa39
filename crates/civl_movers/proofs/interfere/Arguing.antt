-- The arguments of threads, one after another.
use Rattle.std.specs.Prelude.{slice_get, unwrap_or, All, IsSome, is_none}
use Rattle.std.specs.List.{list_any}
use Rattle.std.proofs.Common.{◌≡◌, ◌∙◌, ℕ, Bool, false, List, [], ◌∷◌, ◌++◌, length, refl, sym, ap, ap₂, subst, arith, Option, Some, None}
use Rattle.std.proofs.lemmas.Bool.{false≢true, not-false, or_parts, or_from, eqb-true}
use Rattle.std.proofs.lemmas.List.{length-map}
use Rattle.std.proofs.lemmas.List.Elements.{All-nil, All-cons}
use Rattle.std.proofs.lemmas.List.Folds.{find_at}
use Rattle.civl_tree.specs.declared.name.Name.{Name}
use Rattle.civl_tree.specs.declared.expr.Expr.{Expr}
use Rattle.civl_tree.specs.declared.expr.Sort.{Sort}
use Rattle.civl_tree.specs.declared.expr.Sort.TheVariants.{Bool as Truth}
use Rattle.civl_tree.specs.declared.program.Proc.{Proc}
use Rattle.civl_tree.specs.declared.program.Thread.{Thread}
use Rattle.civl_tree.specs.declared.program.Program.{Program}
use Rattle.civl_tree.specs.rules.Names.{proc_named, proc_signature_of}
use Rattle.civl_tree.specs.rules.Scopes.{Scope, global_scope}
use Rattle.civl_tree.specs.rules.Sorts.{sort_of}
use Rattle.civl_tree.specs.rules.Uses.{argument_uses, param_sorts, taken_sorts, thread_uses}
use Rattle.civl_tree.specs.rules.Sorted.{any_missorted}
use Rattle.civl_tree.specs.rules.Width.{any_width, param_width}
use Rattle.civl_tree.specs.rules.Index.{any_index}
use Rattle.civl_tree.specs.rules.Unknown.{any_unknown}
use Rattle.civl_tree.specs.rules.Arity.{thread_arity}
use Rattle.civl_tree.specs.rules.Rules.{Keeps}
use Rattle.civl_tree.specs.rules.Typing.{typing_rules, unknown_rule, sort_rule, width_rule, index_rule, arity_rule}
use Rattle.civl_tree.proofs.Kept.{proc_kept, thread_kept, unknown_among, sort_among, width_among, index_among, arity_among}
use Rattle.civl_tree.proofs.Options.{some_of}
use Rattle.civl_firing.specs.declared.store.Store.{Store}
use Rattle.civl_firing.specs.Eval.{values_of}
use Rattle.civl_firing.specs.Scope.{global_values}
use Rattle.civl_meaning.specs.Initial.{of_args, of_thread}
use Rattle.civl_meaning.specs.Meaning.{proc_number}
use Rattle.civl_meaning.specs.Permissions.{of_params}
use Rattle.civl_meaning.proofs.Begun.{proc_is}
use Rattle.civl_actions.specs.Scopes.{IsTyped}
use Rattle.civl_conditions.specs.Weights.{linear_inputs, thread_items}
use Rattle.civl_states.specs.Items.{HaveWidths}
use Rattle.civl_states.proofs.Variables.{there_is}
use Rattle.civl_states.proofs.Typed.{type_from}
use Rattle.civl_movers.specs.interfere.Arguments.{arg_sorts}

-- ---- arguments that have the sorts in their places

module _ (program : Program) where
  abbrev scope : Scope
  scope = global_scope program

  args_are : (args : List Expr) (wanted : List Sort) → any_missorted (argument_uses scope args wanted) ≡ false → any_width (argument_uses scope args wanted) ≡ false → any_index (argument_uses scope args wanted) ≡ false
      → length args ≡ length wanted → (arg_sorts program args ≡ wanted) × All (IsTyped scope) args
  args_are [] [] m w x e = (refl, All-nil (IsTyped scope))
  args_are [] (t ∷ wanted) m w x e = absurd (omega (arith, e))
  args_are (a ∷ args) [] m w x e = absurd (omega (arith, e))
  args_are (a ∷ args) (t ∷ wanted) m w x e =
      let h = type_from scope a t (not-false _ (or_parts _ _ m).0) (not-false _ (or_parts _ _ w).0) (not-false _ (or_parts _ _ x).0) in
      let r = args_are args wanted (or_parts _ _ m).1 (or_parts _ _ w).1 (or_parts _ _ x).1 (omega (arith, e)) in
      (ap₂ (λ (s : Sort) (ss : List Sort). s ∷ ss) (ap (λ (o : Option Sort). unwrap_or o Truth) h.sorted) r.0, All-cons (IsTyped scope) a args h.typed r.1)

  -- a typed expression has this sort
  pub own_sort : (e : Expr) → IsTyped scope e → sort_of scope e ≡ Some (unwrap_or (sort_of scope e) Truth)
  own_sort e h = by (sort_of scope e) h.sorted
    where
      by : (o : Option Sort) → IsSome o → o ≡ Some (unwrap_or o Truth)
      by None k = absurd (false≢true k)
      by (Some s) k = refl

-- ---- a thread of a checked program

pub record Callable (program : Program) (thread : Thread) : Type 0 where
  pub proc : Proc
  pub named : proc_named program thread.callee ≡ Some proc
  pub sorts : arg_sorts program thread.args ≡ param_sorts proc.params
  pub typed : All (IsTyped (global_scope program)) thread.args

pub callable : (program : Program) → Keeps typing_rules program → (place : ℕ) (thread : Thread) → slice_get program.threads place ≡ Some thread → Callable program thread
callable program keeps place thread at =
    let known = or_parts (is_none (proc_named program thread.callee)) (any_unknown (thread_uses program thread)) (thread_kept typing_rules program keeps unknown_rule unknown_among place thread at) in
    let found = some_of (proc_named program thread.callee) known.0 in
    let uses : thread_uses program thread ≡ argument_uses (global_scope program) thread.args (param_sorts found.0.params) = ap (λ (o : Option Proc). argument_uses (global_scope program) thread.args (taken_sorts (proc_signature_of o))) found.1 in
    let arity : thread_arity thread.args (Some found.0) ≡ false = subst (λ (o : Option Proc). thread_arity thread.args o ≡ false) found.1 (thread_kept typing_rules program keeps arity_rule arity_among place thread at) in
    let long : length thread.args ≡ length (param_sorts found.0.params) = eqb-true (length thread.args) (length found.0.params) (not-false _ (or_parts _ _ arity).0) ∙ sym (length-map found.0.params (λ p. p.sort)) in
    let are = args_are program thread.args (param_sorts found.0.params)
    (subst (λ us. any_missorted us ≡ false) uses (thread_kept typing_rules program keeps sort_rule sort_among place thread at))
    (subst (λ us. any_width us ≡ false) uses (thread_kept typing_rules program keeps width_rule width_among place thread at))
    (subst (λ us. any_index us ≡ false) uses (thread_kept typing_rules program keeps index_rule index_among place thread at)) long in
    record { proc = found.0; named = found.1; sorts = are.0; typed = are.1 }

-- ---- the procedure that a thread calls

any_split : {A : Type 0} (p : A → Bool) (xs ys : List A) → list_any p (xs ++ ys) ≡ false → list_any p xs ≡ false
any_split p [] ys e = refl
any_split p (x ∷ xs) ys e =
    let o = or_parts (p x) (list_any p (xs ++ ys)) e in
    or_from (p x) (list_any p xs) o.0 (any_split p xs ys o.1)

pub named_wide : (program : Program) → Keeps typing_rules program → (name : Name) (q : Proc) → proc_named program name ≡ Some q → HaveWidths program q.params
named_wide program keeps name q e =
    any_split (param_width program) q.params q.outs (or_parts _ _ (proc_kept typing_rules program keeps width_rule width_among _ q (sym (find_at _ program.procs) ∙ e))).0

pub same_proc : (o : Option Proc) (p q : Proc) → Some p ≡ o → o ≡ Some q → p ≡ q
same_proc o p q e f = cc

pub none_there : (o : Option Proc) (q : Proc) → ◌≡◌ {A = Option Proc} None o → o ≡ Some q → ⊥
none_there o q e f = absurd (cc)

pub thread_carries : (program : Program) (store : Store) (thread : Thread) (q : Proc) → proc_named program thread.callee ≡ Some q
    → of_params q.params (values_of (global_values program.globals store) thread.args) ≡ of_thread program store thread
thread_carries program store thread q e = ap (λ (o : Option Proc). of_args o (values_of (global_values program.globals store) thread.args)) (sym (proc_is program thread.callee ∙ e))

pub thread_counted : (program : Program) (thread : Thread) (q : Proc) → proc_named program thread.callee ≡ Some q → linear_inputs q.params ≡ thread_items program thread
thread_counted program thread q e = sym (there_is (slice_get program.procs (proc_number program thread.callee)) q 0 (λ p. linear_inputs p.params) (proc_is program thread.callee ∙ e))
