use Rattle.std.specs.Option.{option_map_or}
use Rattle.std.specs.Prelude.{All, map}
use Rattle.std.proofs.Common.{◌∙◌, List, Option, ap, sym, subst, arith}
use Rattle.civl_tree.specs.declared.action.Action.{Action}
use Rattle.civl_tree.specs.declared.expr.Expr.{Expr}
use Rattle.civl_tree.specs.declared.name.Name.{Name}
use Rattle.civl_tree.specs.rules.Scopes.{body_scope}
use Rattle.civl_tree.proofs.Lists.{get_there}
use Rattle.civl_firing.specs.values.ActionWeights.{action_weight}
use Rattle.civl_terms.proofs.Growing.{grows_trans}
use Rattle.civl_actions.specs.Actions.{values_at}
use Rattle.civl_actions.specs.Scopes.{AreOf, IsTyped}
use Rattle.civl_actions.proofs.Staying.{are_stay}
use Rattle.civl_conditions.specs.Weights.{body_weight, weights_of}
use Rattle.civl_states.proofs.Runs.{of_some}
use Rattle.civl_moves.specs.sweeps.Sweeps.{with_action}
use Rattle.civl_moves.specs.Calls.{ResultsSuit}
use Rattle.civl_moves.specs.States.{Moves, body_of}
use Rattle.civl_moves.proofs.Calling.{if_each}
use Rattle.civl_moves.proofs.States.{can_stays}
use Rattle.civl_body.proofs.Calling.{few_actions, halt_calls, typed_args, inputs_are, results_are, terms_of}
use Rattle.civl_goal_terms.proofs.Stepping.{choices_given, call_moves}
use Rattle.civl_goal_terms.proofs.steps.pass_call.Goals as goal

pub number_meant-requires : goal.number_meant-requires
number_meant-requires c = few_actions c.args.program.now c.requires.layered

pub body_terms-requires-clause-rules : goal.body_terms-requires-clause-rules
body_terms-requires-clause-rules c = c.requires.layered.rules

pub body_terms-requires-clause-proc : goal.body_terms-requires-clause-proc
body_terms-requires-clause-proc c = (c.args.at.now.root, c.requires.at.proc)

pub body_terms-requires-clause-typed : goal.body_terms-requires-clause-typed
body_terms-requires-clause-typed c =
    let a = c.args.at.now in
    subst (λ (es : List Expr). All (IsTyped (body_scope c.args.program.now a.proc.now)) es) (sym c.as_slice-in-Some.ensures)
    (typed_args c.args.program.now c.requires.layered c.args.program.now.layers a.proc.now (a.root, c.requires.at.proc) a.number c.args.callee.now c.args.args.now c.args.results.now c.requires.stands)

pub pass_action-requires-clause-rules : goal.pass_action-requires-clause-rules
pass_action-requires-clause-rules c = c.requires.layered.rules

pub pass_action-requires-clause-can : goal.pass_action-requires-clause-can
pass_action-requires-clause-can c = can_stays c.args.terms.now c.body_terms.new.terms c.args.program.now c.args.at.now.proc.now c.in_ok-inputs-in-Some.ensures.grows c.args.sweep.now c.requires.can

pub pass_action-requires-clause-inputs : goal.pass_action-requires-clause-inputs
pass_action-requires-clause-inputs c =
    let p = c.args.program.now in
    let a = c.args.at.now in
    let q = a.proc.now in
    let o = c.args.terms.now in
    let m = c.body_terms.new.terms in
    let inputs = c.in_ok-inputs-in-Some.inputs in
    let terms = terms_of o m p q c.args.sweep.now.locals _ c.args.args.now _ inputs c.as_slice.ensures c.as_slice-in-Some.ensures c.in_ok-inputs-in-Some.ensures.terms in
    if_each _ _ (λ action e.
    inputs_are p c.requires.layered p.layers q (a.root, c.requires.at.proc) a.number c.args.callee.now c.args.args.now c.args.results.now c.requires.stands action (sym c.in-Some.ensures.is ∙ e) o m c.args.sweep.now.locals inputs terms)

pub pass_action-requires-clause-choices : goal.pass_action-requires-clause-choices
pass_action-requires-clause-choices c =
    let o = c.args.terms.now in
    let m = c.body_terms.new.terms in
    if_each _ _ (λ action e.
    subst (AreOf m c.args.choices.now) (choices_given c.args.program.now c.args.callee.now action (sym c.in-Some.ensures.is ∙ e)) (are_stay o m _ _ c.requires.choices c.in_ok-inputs-in-Some.ensures.grows))

pub pass_action-requires-clause-results : goal.pass_action-requires-clause-results
pass_action-requires-clause-results c =
    let a = c.args.at.now in
    if_each _ _ (λ action e.
    subst (λ (rs : List Name). ResultsSuit a.proc.now rs (map (λ k. k.sort) action.outs)) (sym c.as_slice-in-Some-2.ensures)
    (results_are c.args.program.now c.requires.layered c.args.program.now.layers a.proc.now (a.root, c.requires.at.proc) a.number c.args.callee.now c.args.args.now c.args.results.now c.requires.stands action (sym c.in-Some.ensures.is ∙ e)))

pub returns-in_err-pass_action-in-Some-clause-grows : goal.returns-in_err-pass_action-in-Some-clause-grows
returns-in_err-pass_action-in-Some-clause-grows c = grows_trans _ _ _ c.in_ok-inputs-in-Some.ensures.grows c.in_err-pass_action-in-Some.ensures.grows

pub returns-in_ok-pass_action-in-Some-clause-grows : goal.returns-in_ok-pass_action-in-Some-clause-grows
returns-in_ok-pass_action-in-Some-clause-grows c = grows_trans _ _ _ c.in_ok-inputs-in-Some.ensures.grows c.in_ok-pass_action-in-Some.ensures.grows

pub returns-in_ok-pass_action-in-Some-clause-moves : goal.returns-in_ok-pass_action-in-Some-clause-moves
returns-in_ok-pass_action-in-Some-clause-moves c = λ v said.
    let p = c.args.program.now in
    let q = c.args.at.now.proc.now in
    let o = c.args.terms.now in
    let m = c.body_terms.new.terms in
    let n = c.pass_action.new.terms in
    let s = c.args.sweep.now in
    let t = c.pass_action.new.sweep in
    let inputs = c.in_ok-inputs-in-Some.inputs in
    let choices = c.args.choices.now in
    let terms = terms_of o m p q s.locals _ c.args.args.now _ inputs c.as_slice.ensures c.as_slice-in-Some.ensures c.in_ok-inputs-in-Some.ensures.terms in
    let found = get_there p.actions c.in-Some.action c.in-Some.ensures.within in
    let action = found.0 in
    let moves = of_some _ _ action found.1 c.in_ok-pass_action-in-Some.ensures.moves in
    call_moves p c.args.callee.now action (sym c.in-Some.ensures.is ∙ found.1) q c.args.args.now c.args.results.now c.args.at.now.number o m n s t v inputs choices
    c.in_ok-inputs-in-Some.ensures.grows c.in_ok-pass_action-in-Some.ensures.grows c.requires.can terms said
    (subst (λ (rs : List Name). Moves m n p q s t (λ env. with_action (body_of p q) rs action (values_at env m inputs) (values_at env m choices))) c.as_slice-in-Some-2.ensures moves)

pub returns-in_ok-halt-in-None-clause-moves : goal.returns-in_ok-halt-in-None-clause-moves
returns-in_ok-halt-in-None-clause-moves c = λ v said.
    halt_calls c.args.terms.now c.halt.new.terms c.args.program.now c.args.program.now.layers c.args.at.now.proc.now c.args.sweep.now c.halt.new.sweep (λ env number. v env) c.args.callee.now c.args.args.now c.args.results.now c.args.at.now.number (sym c.in-None.ensures.is)
    (c.in_ok-halt-in-None.ensures.moves _ _ c.requires.can)

pub returns-in_ok-pass_action-in-Some-clause-weighs : goal.returns-in_ok-pass_action-in-Some-clause-weighs
returns-in_ok-pass_action-in-Some-clause-weighs c =
    let p = c.args.program.now in
    let q = c.args.at.now.proc.now in
    let found = get_there p.actions c.in-Some.action c.in-Some.ensures.within in
    let meant = sym c.in-Some.ensures.is ∙ found.1 in
    let own = ap (λ (o : Option Action). option_map_or (action_weight p) o 0) meant in
    let args = ap (weights_of (body_weight p q)) c.as_slice-in-Some.ensures in
    let inputs = c.in_ok-inputs-in-Some.ensures.weighs in
    let action = of_some _ _ found.0 found.1 c.in_ok-pass_action-in-Some.ensures.weighs in
    omega (arith, own, args, inputs, action)

pub returns-in_ok-halt-in-None-clause-weighs : goal.returns-in_ok-halt-in-None-clause-weighs
returns-in_ok-halt-in-None-clause-weighs c = omega (arith, c.in_ok-halt-in-None.ensures.weighs)
