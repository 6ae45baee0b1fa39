use Rattle.std.specs.Prelude.{List, ℕ, take, length}
use Rattle.std.proofs.Common.{sym, subst}
use Rattle.civl_bits.specs.declared.value.Value.{Value}
use Rattle.civl_tree.specs.declared.expr.Sort.{Sort}
use Rattle.civl_tree.specs.declared.action.Action.{Action}
use Rattle.civl_tree.specs.rules.Uses.{param_sorts}
use Rattle.civl_actions.specs.Scopes.{AreOf}
use Rattle.civl_conditions.specs.Assumed.{inputs_of}
use Rattle.civl_states.specs.formula_parts.Said.{Env}
use Rattle.civl_states.specs.formula_parts.Lists.{AreSaid}
use Rattle.civl_states.proofs.Picking.{same_some}
use Rattle.civl_refine.proofs.Assuming.{inputs_sorted, inputs_said, frame_long}
use Rattle.civl_refine.proofs.gates.refined_gate.Goals as goal

pub input_ids-requires : goal.input_ids-requires
input_ids-requires c = frame_long c.args.terms.now c.args.proc.now c.args.locals.now c.requires.locals

pub gate_at-requires-clause-inputs : goal.gate_at-requires-clause-inputs
gate_at-requires-clause-inputs c =
    let r = c.requires.refined in
    let q = c.args.proc.now in
    let o = c.args.terms.now in
    let sorted = subst (AreOf o (take (length q.params) c.args.locals.now)) (sym r.params) (inputs_sorted o q c.args.locals.now c.requires.locals) in
    record { action = r.action; is = r.is; sorted = subst (λ (xs : List ℕ). AreOf o xs (param_sorts r.action.params)) (sym c.in_ok-inputs.ensures) sorted }

pub returns-clause-test : goal.returns-clause-test
returns-clause-test c = λ a g v at s t.
    let r = c.requires.refined in
    let q = c.args.proc.now in
    let o = c.args.terms.now in
    let f : Env → List Value = λ env. inputs_of q (v env) in
    let said = inputs_said o q c.args.locals.now v t in
    let mine = subst (λ (ss : List Sort). AreSaid o (take (length q.params) c.args.locals.now) ss f) (sym r.params) said in
    let his = subst (λ (b : Action). AreSaid o (take (length q.params) c.args.locals.now) (param_sorts b.params) f) (same_some _ r.action a r.is at) mine in
    c.in_ok-id.ensures.gate a g f s at (subst (λ (xs : List ℕ). AreSaid o xs (param_sorts a.params) f) (sym c.in_ok-inputs.ensures) his)
