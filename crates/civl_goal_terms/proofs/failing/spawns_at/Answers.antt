use Rattle.std.specs.Prelude.{All}
use Rattle.std.proofs.Common.{List, ℕ, ap, sym, subst, arith}
use Rattle.civl_tree.specs.declared.expr.Expr.{Expr}
use Rattle.civl_tree.specs.rules.Scopes.{body_scope}
use Rattle.civl_firing.specs.Eval.{values_of}
use Rattle.civl_firing.specs.Scope.{frame_values}
use Rattle.civl_meaning.specs.Config.{frame_sorts}
use Rattle.civl_terms.proofs.Growing.{grows_trans}
use Rattle.civl_actions.specs.Scopes.{AreOf, IsTyped}
use Rattle.civl_conditions.specs.Weights.{body_weight, weights_of}
use Rattle.civl_states.proofs.formula_parts.Listing.{sorts_stay, said_stay}
use Rattle.civl_states.proofs.formula_parts.Saying.{test_as}
use Rattle.civl_body.proofs.Calling.{terms_of}
use Rattle.civl_goals.specs.Weights.{form_weight, form_begins}
use Rattle.civl_goal_terms.proofs.Leading.{spawns_is}
use Rattle.civl_goal_terms.proofs.Framing.{spawn_typed, spawn_args, args_said}
use Rattle.civl_goal_terms.proofs.failing.spawns_at.Goals as goal

pub body_terms-requires-clause-rules : goal.body_terms-requires-clause-rules
body_terms-requires-clause-rules c = c.requires.layered.rules

pub body_terms-requires-clause-proc : goal.body_terms-requires-clause-proc
body_terms-requires-clause-proc c = (c.args.at.now.root, c.requires.at.proc)

pub body_terms-requires-clause-typed : goal.body_terms-requires-clause-typed
body_terms-requires-clause-typed c =
    subst (λ (es : List Expr). All (IsTyped (body_scope c.args.program.now c.args.at.now.proc.now)) es) (sym c.as_slice-2.ensures) (spawn_typed c.args.program.now c.requires.layered c.args.at.now c.requires.at c.args.callee.now c.args.args.now c.requires.form)

pub body_terms-requires-clause-locals : goal.body_terms-requires-clause-locals
body_terms-requires-clause-locals c = subst (λ (ids : List ℕ). AreOf c.args.terms.now ids (frame_sorts c.args.at.now.proc.now)) (sym c.as_slice.ensures) c.requires.can.locals

pub begins_astray-requires-clause-globals : goal.begins_astray-requires-clause-globals
begins_astray-requires-clause-globals c = sorts_stay _ _ _ _ c.in_ok-ids.ensures.grows c.requires.can.globals

pub begins_astray-requires-clause-args : goal.begins_astray-requires-clause-args
begins_astray-requires-clause-args c =
    let p = c.args.program.now in
    let a = c.args.at.now in
    let o = c.args.terms.now in
    let m = c.body_terms.new.terms in
    let ids = c.in_ok-ids.ids in
    let locals = c.args.setting.now.locals in
    spawn_args p c.requires.layered a c.requires.at c.args.callee.now c.args.args.now c.requires.form o m locals ids (terms_of o m p a.proc.now locals _ c.args.args.now _ ids c.as_slice.ensures c.as_slice-2.ensures c.in_ok-ids.ensures.terms)

pub returns-in_err-id-clause-grows : goal.returns-in_err-id-clause-grows
returns-in_err-id-clause-grows c = grows_trans _ _ _ c.in_ok-ids.ensures.grows c.in_err-id.ensures.grows

pub returns-clause-grows : goal.returns-clause-grows
returns-clause-grows c = grows_trans _ _ _ c.in_ok-ids.ensures.grows c.in_ok-id.ensures.grows

pub returns-clause-weighs : goal.returns-clause-weighs
returns-clause-weighs c =
    let p = c.args.program.now in
    let q = c.args.at.now.proc.now in
    omega (
      arith,
      c.in_ok-ids.ensures.weighs,
      c.in_ok-id.ensures.weighs,
      ap (weights_of (body_weight p q)) c.as_slice-2.ensures,
      ap (form_weight p q) c.requires.form,
      ap (form_begins p c.args.outline.now) c.requires.form,
    )

pub returns-clause-tells : goal.returns-clause-tells
returns-clause-tells c = λ h s.
    let p = c.args.program.now in
    let a = c.args.at.now in
    let o = c.args.terms.now in
    let m = c.body_terms.new.terms in
    let ids = c.in_ok-ids.ids in
    let es = c.args.args.now in
    let locals = c.args.setting.now.locals in
    let w = c.in_ok-ids.ensures.grows in
    let terms = terms_of o m p a.proc.now locals _ es _ ids c.as_slice.ensures c.as_slice-2.ensures c.in_ok-ids.ensures.terms in
    test_as _ _ _ _ (λ env. spawns_is p a c.requires.at (h env) c.args.outline.now c.args.callee.now es c.requires.form)
    (c.in_ok-id.ensures.tells (λ env. (h env).store) (λ env. values_of (frame_values p.globals a.proc.now (h env).locals) es) (said_stay _ _ _ _ _ w s.globals)
    (args_said p c.requires.layered a c.requires.at c.args.callee.now es c.requires.form o m locals ids (λ env. (h env).locals) terms (λ env fits. s.locals.are env (w.fits env fits))))
