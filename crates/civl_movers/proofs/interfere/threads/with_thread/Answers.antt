use Rattle.std.specs.Prelude.{◌+◌, ◌^◌, ◌≤◌, ℕ, List, All}
use Rattle.std.proofs.Common.{◌∙◌, ◌++◌, sym, ap, subst, arith}
use Rattle.civl_tree.specs.declared.expr.Expr.{Expr}
use Rattle.civl_tree.specs.declared.expr.Sort.{Sort}
use Rattle.civl_tree.specs.declared.program.Proc.{Proc}
use Rattle.civl_tree.specs.rules.Scopes.{global_scope}
use Rattle.civl_tree.specs.rules.Uses.{param_sorts}
use Rattle.civl_firing.specs.Eval.{values_of}
use Rattle.civl_firing.specs.Scope.{global_values}
use Rattle.civl_terms.specs.Weights.{graph_weight}
use Rattle.civl_terms.proofs.Growing.{grows_trans}
use Rattle.civl_actions.specs.Scopes.{IsTyped, AreOf}
use Rattle.civl_conditions.specs.Weights.{weights_of, global_weight}
use Rattle.civl_states.specs.formula_parts.Lists.{AreSaid}
use Rattle.civl_states.proofs.formula_parts.Carrying.{carried_stays, can_carry_stays, carried_as}
use Rattle.civl_meaning.specs.Initial.{of_thread}
use Rattle.civl_meaning.specs.Permissions.{of_params}
use Rattle.civl_states.specs.Stores.{AreStore}
use Rattle.civl_states.specs.Items.{HasItems, items_weight}
use Rattle.civl_movers.specs.interfere.Arguments.{arg_sorts}
use Rattle.civl_movers.proofs.interfere.Arguing.{callable, named_wide, same_proc, none_there, thread_carries, thread_counted}
use Rattle.civl_movers.proofs.interfere.threads.with_thread.Goals as goal

pub argument_terms-requires-clause-typed : goal.argument_terms-requires-clause-typed
argument_terms-requires-clause-typed c =
    let p = c.args.program.now in
    subst (λ (es : List Expr). All (IsTyped (global_scope p)) es) (sym c.as_slice.ensures) (callable p c.requires.rules c.requires.thread.0 c.args.thread.now c.requires.thread.1).typed

pub param_items-requires-clause-widths : goal.param_items-requires-clause-widths
param_items-requires-clause-widths c = named_wide c.args.program.now c.requires.rules c.args.thread.now.callee c.in-Some.proc.now (sym c.in-Some.ensures)

pub param_items-requires-clause-ids : goal.param_items-requires-clause-ids
param_items-requires-clause-ids c =
    let p = c.args.program.now in
    let n = c.argument_terms.new.terms in
    let h = callable p c.requires.rules c.requires.thread.0 c.args.thread.now c.requires.thread.1 in
    let same = same_proc _ c.in-Some.proc.now h.proc c.in-Some.ensures h.named in
    subst (λ (ids : List ℕ). AreOf n ids (param_sorts c.in-Some.proc.now.params)) (sym c.from_vec-args.ensures)
    (subst (λ (ss : List Sort). AreOf n c.in_ok-ids.ids.items ss) (ap (arg_sorts p) c.as_slice.ensures ∙ h.sorts ∙ ap (λ (q : Proc). param_sorts q.params) (sym same)) c.in_ok-ids.ensures.sorted)

pub param_items-requires-clause-carried : goal.param_items-requires-clause-carried
param_items-requires-clause-carried c = can_carry_stays c.in_ok-ids.ensures.grows c.requires.carried

pub unreachable-requires : goal.unreachable-requires
unreachable-requires c =
    let h = callable c.args.program.now c.requires.rules c.requires.thread.0 c.args.thread.now c.requires.thread.1 in
    none_there _ h.proc c.in-None.ensures h.named

pub returns-in_err-more-in-Some-clause-grows : goal.returns-in_err-more-in-Some-clause-grows
returns-in_err-more-in-Some-clause-grows c = grows_trans _ _ _ c.in_ok-ids.ensures.grows c.in_err-more-in-Some.ensures.grows

pub returns-clause-grows : goal.returns-clause-grows
returns-clause-grows c = grows_trans _ _ _ c.in_ok-ids.ensures.grows c.in_ok-more-in-Some.ensures.grows

pub returns-clause-carried : goal.returns-clause-carried
returns-clause-carried c = λ f g h s.
    let p = c.args.program.now in
    let t = c.args.thread.now in
    let n = c.argument_terms.new.terms in
    let q = c.in-Some.proc.now in
    let k = callable p c.requires.rules c.requires.thread.0 t c.requires.thread.1 in
    let same = same_proc _ q k.proc c.in-Some.ensures k.named in
    let said0 = subst (λ (es : List Expr). AreSaid n c.in_ok-ids.ids.items (arg_sorts p es) (λ env. values_of (global_values p.globals (g env)) es)) c.as_slice.ensures
    (c.in_ok-ids.ensures.said g (subst (λ (ids : List ℕ). AreStore c.args.terms.now p ids g) (sym c.as_slice-2.ensures) s)) in
    let said = subst (λ (ss : List Sort). AreSaid n c.in_ok-ids.ids.items ss (λ env. values_of (global_values p.globals (g env)) t.args)) (k.sorts ∙ ap (λ (r : Proc). param_sorts r.params) (sym same)) said0 in
    carried_as (λ env. f env ++ of_params q.params (values_of (global_values p.globals (g env)) t.args)) (λ env. f env ++ of_thread p (g env) t)
    (λ env fits. ap (λ xs. f env ++ xs) (thread_carries p (g env) t q (sym c.in-Some.ensures)))
    (c.in_ok-more-in-Some.ensures.carried f (λ env. values_of (global_values p.globals (g env)) t.args) (carried_stays f c.in_ok-ids.ensures.grows h)
    (subst (λ (ids : List ℕ). AreSaid n ids (param_sorts q.params) (λ env. values_of (global_values p.globals (g env)) t.args)) (sym c.from_vec-args.ensures) said))

pub returns-clause-number : goal.returns-clause-number
returns-clause-number c = λ n h.
    let counted = thread_counted c.args.program.now c.args.thread.now c.in-Some.proc.now (sym c.in-Some.ensures) in
    subst (λ (k : ℕ). HasItems c.in_ok-more-in-Some.more.mask (n + k)) counted (c.in_ok-more-in-Some.ensures.number n h)

pub returns-clause-weighs : goal.returns-clause-weighs
returns-clause-weighs c = λ n h.
    let p = c.args.program.now in
    let counted = thread_counted p c.args.thread.now c.in-Some.proc.now (sym c.in-Some.ensures) in
    let whole = subst (λ (k : ℕ). graph_weight c.param_items.new.terms + items_weight (2 ^ p.permissions) n ≤ graph_weight c.argument_terms.new.terms + items_weight (2 ^ p.permissions) (n + k)) counted (c.in_ok-more-in-Some.ensures.weighs n h) in
    omega (arith, c.in_ok-ids.ensures.weighs, whole, ap (weights_of (global_weight p)) c.as_slice.ensures)
