use Rattle.std.specs.Option.{option_map_or}
use Rattle.std.proofs.Common.{◌∙◌, List, ℕ, Option, ap, sym, subst, arith}
use Rattle.civl_tree.specs.declared.action.Action.{Action}
use Rattle.civl_tree.specs.rules.Names.{names_in_proc}
use Rattle.civl_firing.specs.values.ActionWeights.{action_weight}
use Rattle.civl_conditions.specs.Weights.{body_weight, weights_of}
use Rattle.civl_moves.specs.declared.sweep.Sweep.{Sweep}
use Rattle.std.specs.Prelude.{All, map}
use Rattle.civl_tree.specs.declared.expr.Expr.{Expr}
use Rattle.civl_tree.specs.declared.name.Name.{Name}
use Rattle.civl_tree.specs.rules.Scopes.{body_scope}
use Rattle.civl_tree.proofs.Lists.{get_there}
use Rattle.civl_terms.proofs.Growing.{grows_trans}
use Rattle.civl_actions.specs.Actions.{LeavesOthers, values_at}
use Rattle.civl_actions.specs.Scopes.{AreOf, IsTyped}
use Rattle.civl_actions.proofs.Staying.{are_stay}
use Rattle.civl_states.proofs.Runs.{of_some}
use Rattle.civl_moves.specs.sweeps.Sweeps.{with_action}
use Rattle.civl_moves.specs.Calls.{ResultsSuit}
use Rattle.civl_moves.specs.States.{Moves, body_of}
use Rattle.civl_moves.proofs.Calling.{if_each}
use Rattle.civl_moves.proofs.States.{can_stays}
use Rattle.civl_body.proofs.Calling.{few_actions, halt_calls, typed_args, inputs_are, results_are, action_calls, terms_of}
use Rattle.civl_body.proofs.Keeping.{leaves_same}
use Rattle.civl_body.proofs.Writing.{action_leaves}
use Rattle.civl_body.proofs.calls.pass_call.Goals as goal

pub number_meant-requires : goal.number_meant-requires
number_meant-requires c = few_actions c.args.program.now c.requires.layered

pub body_terms-requires-clause-typed : goal.body_terms-requires-clause-typed
body_terms-requires-clause-typed c =
    subst (λ (es : List Expr). All (IsTyped (body_scope c.args.program.now c.args.proc.now)) es) (sym c.as_slice-in-Some.ensures)
    (typed_args c.args.program.now c.requires.layered c.args.layer c.args.proc.now c.requires.proc c.args.number c.args.callee.now c.args.args.now c.args.results.now c.requires.stands)

pub pass_action-requires-clause-can : goal.pass_action-requires-clause-can
pass_action-requires-clause-can c = can_stays c.args.terms.now c.body_terms.new.terms c.args.program.now c.args.proc.now c.in_ok-inputs-in-Some.ensures.grows c.args.sweep.now c.requires.can

pub pass_action-requires-clause-inputs : goal.pass_action-requires-clause-inputs
pass_action-requires-clause-inputs c =
    let p = c.args.program.now in
    let q = c.args.proc.now in
    let o = c.args.terms.now in
    let m = c.body_terms.new.terms in
    let inputs = c.in_ok-inputs-in-Some.inputs in
    let terms = terms_of o m p q c.args.sweep.now.locals _ c.args.args.now _ inputs c.as_slice.ensures c.as_slice-in-Some.ensures c.in_ok-inputs-in-Some.ensures.terms in
    if_each _ _ (λ a e.
    inputs_are p c.requires.layered c.args.layer q c.requires.proc c.args.number c.args.callee.now c.args.args.now c.args.results.now c.requires.stands a (sym c.in-Some.ensures.is ∙ e) o m c.args.sweep.now.locals inputs terms)

pub pass_action-requires-clause-choices : goal.pass_action-requires-clause-choices
pass_action-requires-clause-choices c =
    let o = c.args.terms.now in
    let m = c.body_terms.new.terms in
    if_each _ _ (λ a e.
    subst (λ (ids : List ℕ). AreOf m ids (map (λ k. k.sort) a.choices)) (sym c.in_ok-choices-in-Some.ensures) (are_stay o m _ _ (c.requires.choices a (sym c.in-Some.ensures.is ∙ e)) c.in_ok-inputs-in-Some.ensures.grows))

pub pass_action-requires-clause-results : goal.pass_action-requires-clause-results
pass_action-requires-clause-results c =
    if_each _ _ (λ a e.
    subst (λ (rs : List Name). ResultsSuit c.args.proc.now rs (map (λ k. k.sort) a.outs)) (sym c.as_slice-in-Some-2.ensures)
    (results_are c.args.program.now c.requires.layered c.args.layer c.args.proc.now c.requires.proc c.args.number c.args.callee.now c.args.args.now c.args.results.now c.requires.stands a (sym c.in-Some.ensures.is ∙ e)))

pub returns-in_err-pass_action-in-Some-clause-grows : goal.returns-in_err-pass_action-in-Some-clause-grows
returns-in_err-pass_action-in-Some-clause-grows c = grows_trans _ _ _ c.in_ok-inputs-in-Some.ensures.grows c.in_err-pass_action-in-Some.ensures.grows

pub returns-in_ok-pass_action-in-Some-clause-grows : goal.returns-in_ok-pass_action-in-Some-clause-grows
returns-in_ok-pass_action-in-Some-clause-grows c = grows_trans _ _ _ c.in_ok-inputs-in-Some.ensures.grows c.in_ok-pass_action-in-Some.ensures.grows

pub returns-in_ok-pass_action-in-Some-clause-moves : goal.returns-in_ok-pass_action-in-Some-clause-moves
returns-in_ok-pass_action-in-Some-clause-moves c = λ v says.
    let p = c.args.program.now in
    let q = c.args.proc.now in
    let o = c.args.terms.now in
    let m = c.body_terms.new.terms in
    let n = c.pass_action.new.terms in
    let s = c.args.sweep.now in
    let t = c.pass_action.new.sweep in
    let inputs = c.in_ok-inputs-in-Some.inputs in
    let choices = c.in_ok-choices-in-Some.choices in
    let terms = terms_of o m p q s.locals _ c.args.args.now _ inputs c.as_slice.ensures c.as_slice-in-Some.ensures c.in_ok-inputs-in-Some.ensures.terms in
    let found = get_there p.actions c.in-Some.action c.in-Some.ensures.within in
    let a = found.0 in
    let meant = sym c.in-Some.ensures.is ∙ found.1 in
    let moves = of_some _ _ a found.1 c.in_ok-pass_action-in-Some.ensures.moves in
    action_calls p c.requires.layered c.args.layer q c.requires.proc c.args.number c.args.callee.now c.args.args.now c.args.results.now c.requires.stands a meant o m n s t v c.args.chosen.now inputs choices
    c.in_ok-inputs-in-Some.ensures.grows c.in_ok-pass_action-in-Some.ensures.grows c.requires.can terms c.in_ok-choices-in-Some.ensures (c.requires.choices a meant) (says a meant)
    (subst (λ (rs : List Name). Moves m n p q s t (λ env. with_action (body_of p q) rs a (values_at env m inputs) (values_at env m choices))) c.as_slice-in-Some-2.ensures moves)

pub returns-in_ok-halt-in-None-clause-moves : goal.returns-in_ok-halt-in-None-clause-moves
returns-in_ok-halt-in-None-clause-moves c = λ v says.
    halt_calls c.args.terms.now c.halt.new.terms c.args.program.now c.args.layer c.args.proc.now c.args.sweep.now c.halt.new.sweep v c.args.callee.now c.args.args.now c.args.results.now c.args.number (sym c.in-None.ensures.is)
    (c.in_ok-halt-in-None.ensures.moves _ _ c.requires.can)

pub returns-in_ok-pass_action-in-Some-clause-leaves : goal.returns-in_ok-pass_action-in-Some-clause-leaves
returns-in_ok-pass_action-in-Some-clause-leaves c = λ linear.
    let p = c.args.program.now in
    let q = c.args.proc.now in
    let found = get_there p.actions c.in-Some.action c.in-Some.ensures.within in
    let e = c.in_ok-pass_action-in-Some.ensures in
    action_leaves p c.args.layer q linear c.requires.layered c.requires.proc c.args.number c.args.callee.now c.args.args.now c.args.results.now c.requires.stands found.0 (sym c.in-Some.ensures.is ∙ found.1) c.args.sweep.now c.pass_action.new.sweep (of_some _ _ found.0 found.1 e.globals)
    (subst (λ (rs : List Name). LeavesOthers (names_in_proc q) rs c.args.sweep.now.locals c.pass_action.new.sweep.locals) c.as_slice-in-Some-2.ensures e.locals)

pub returns-in_ok-pass_action-in-Some-clause-weighs : goal.returns-in_ok-pass_action-in-Some-clause-weighs
returns-in_ok-pass_action-in-Some-clause-weighs c =
    let p = c.args.program.now in
    let q = c.args.proc.now in
    let found = get_there p.actions c.in-Some.action c.in-Some.ensures.within in
    let meant = sym c.in-Some.ensures.is ∙ found.1 in
    let own = ap (λ (o : Option Action). option_map_or (action_weight p) o 0) meant in
    let args = ap (weights_of (body_weight p q)) c.as_slice-in-Some.ensures in
    let inputs = c.in_ok-inputs-in-Some.ensures.weighs in
    let action = of_some _ _ found.0 found.1 c.in_ok-pass_action-in-Some.ensures.weighs in
    omega (arith, own, args, inputs, action)

pub returns-in_ok-halt-in-None-clause-leaves : goal.returns-in_ok-halt-in-None-clause-leaves
returns-in_ok-halt-in-None-clause-leaves c = λ linear.
    let rest = c.in_ok-halt-in-None.ensures.rest in
    leaves_same c.args.program.now c.args.proc.now _ c.args.sweep.now c.halt.new.sweep (ap (λ (y : Sweep). y.globals) rest) (ap (λ (y : Sweep). y.locals) rest)

pub returns-in_ok-halt-in-None-clause-weighs : goal.returns-in_ok-halt-in-None-clause-weighs
returns-in_ok-halt-in-None-clause-weighs c = omega (arith, c.in_ok-halt-in-None.ensures.weighs)
