use Rattle.std.specs.Prelude.{All}
use Rattle.std.proofs.Common.{◌∙◌, ℕ, List, sym, ap, subst, arith}
use Rattle.civl_tree.specs.declared.expr.Expr.{Expr}
use Rattle.civl_tree.specs.declared.expr.Sort.{Sort}
use Rattle.civl_tree.specs.rules.Scopes.{global_scope}
use Rattle.civl_firing.specs.Eval.{values_of}
use Rattle.civl_firing.specs.Scope.{global_values}
use Rattle.civl_terms.proofs.Growing.{grows_trans}
use Rattle.civl_actions.specs.Scopes.{IsTyped, AreOf}
use Rattle.civl_conditions.specs.Weights.{weights_of, global_weight}
use Rattle.civl_states.specs.formula_parts.Lists.{AreSaid}
use Rattle.civl_states.proofs.formula_parts.Listing.{sorts_stay, said_stay}
use Rattle.civl_states.specs.Stores.{AreGlobals, AreStore}
use Rattle.civl_movers.specs.interfere.Arguments.{arg_sorts}
use Rattle.civl_movers.proofs.interfere.Arguing.{callable}
use Rattle.civl_goal_terms.specs.inner.Frames.{named_sorts}
use Rattle.civl_goal_terms.proofs.Beginning.{args_named}
use Rattle.civl_goal_terms.proofs.begins.thread_astray.Goals as goal

pub argument_terms-requires-clause-typed : goal.argument_terms-requires-clause-typed
argument_terms-requires-clause-typed c =
    let p = c.args.program.now in
    subst (λ (es : List Expr). All (IsTyped (global_scope p)) es) (sym c.as_slice.ensures) (callable p c.requires.layered.rules c.requires.thread.0 c.args.thread.now c.requires.thread.1).typed

pub argument_terms-requires-clause-globals : goal.argument_terms-requires-clause-globals
argument_terms-requires-clause-globals c =
    subst (λ (ids : List ℕ). AreGlobals c.args.terms.now c.args.program.now ids) (sym c.as_slice-2.ensures) c.requires.globals

pub begins_astray-requires-clause-globals : goal.begins_astray-requires-clause-globals
begins_astray-requires-clause-globals c = sorts_stay _ _ _ _ c.in_ok-args.ensures.grows c.requires.globals

pub begins_astray-requires-clause-args : goal.begins_astray-requires-clause-args
begins_astray-requires-clause-args c =
    let p = c.args.program.now in
    let t = c.args.thread.now in
    let n = c.argument_terms.new.terms in
    let h = callable p c.requires.layered.rules c.requires.thread.0 t c.requires.thread.1 in
    subst (λ (ids : List ℕ). AreOf n ids (named_sorts p t.callee)) (sym c.from_vec.ensures)
    (subst (λ (ss : List Sort). AreOf n c.in_ok-args.args.items ss) (ap (arg_sorts p) c.as_slice.ensures ∙ args_named p t h) c.in_ok-args.ensures.sorted)

pub returns-clause-tells : goal.returns-clause-tells
returns-clause-tells c = λ g s.
    let p = c.args.program.now in
    let t = c.args.thread.now in
    let n = c.argument_terms.new.terms in
    let h = callable p c.requires.layered.rules c.requires.thread.0 t c.requires.thread.1 in
    let said0 = subst (λ (es : List Expr). AreSaid n c.in_ok-args.args.items (arg_sorts p es) (λ env. values_of (global_values p.globals (g env)) es)) c.as_slice.ensures
    (c.in_ok-args.ensures.said g (subst (λ (ids : List ℕ). AreStore c.args.terms.now p ids g) (sym c.as_slice-2.ensures) s)) in
    let said = subst (λ (ss : List Sort). AreSaid n c.in_ok-args.args.items ss (λ env. values_of (global_values p.globals (g env)) t.args)) (args_named p t h) said0 in
    c.in_ok-id.ensures.tells g (λ env. values_of (global_values p.globals (g env)) t.args) (said_stay _ _ _ _ _ c.in_ok-args.ensures.grows s)
    (subst (λ (ids : List ℕ). AreSaid n ids (named_sorts p t.callee) (λ env. values_of (global_values p.globals (g env)) t.args)) (sym c.from_vec.ensures) said)

pub returns-clause-weighs : goal.returns-clause-weighs
returns-clause-weighs c =
    let p = c.args.program.now in
    omega (arith, c.in_ok-args.ensures.weighs, c.in_ok-id.ensures.weighs, ap (weights_of (global_weight p)) c.as_slice.ensures)

pub returns-clause-grows : goal.returns-clause-grows
returns-clause-grows c = grows_trans _ _ _ c.in_ok-args.ensures.grows c.in_ok-id.ensures.grows

pub returns-in_err-id-clause-grows : goal.returns-in_err-id-clause-grows
returns-in_err-id-clause-grows c = grows_trans _ _ _ c.in_ok-args.ensures.grows c.in_err-id.ensures.grows
