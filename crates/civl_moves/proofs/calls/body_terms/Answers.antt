use Rattle.std.proofs.Common.{arith}
use Rattle.std.proofs.lemmas.List.Elements.{All-take}
use Rattle.civl_tree.specs.rules.Scopes.{body_scope}
use Rattle.civl_terms.proofs.Growing.{grows_trans}
use Rattle.civl_actions.specs.Scopes.{IsTyped}
use Rattle.civl_actions.proofs.Staying.{are_stay}
use Rattle.civl_conditions.specs.Weights.{body_weight}
use Rattle.civl_moves.proofs.Calling.{terms_step, weights_more}
use Rattle.civl_moves.proofs.calls.body_terms.Goals as goal

pub body_term-requires-clause-locals : goal.body_term-requires-clause-locals
body_term-requires-clause-locals c = are_stay c.args.terms.now c.loop-expr.terms c.args.locals.now _ c.requires.locals c.loop-expr.invariant.1

pub loop-expr-preserved : goal.loop-expr-preserved
loop-expr-preserved c =
    let i = c.loop-expr.expr-index in
    let e = c.expr-item.result in (
      terms_step c.args.terms.now c.loop-expr.terms c.body_term.new.terms c.args.program.now c.args.proc.now c.args.locals.now c.args.exprs.now i e c.loop-expr.ids.items _ c.in_ok-id.id
          (All-take (IsTyped (body_scope c.args.program.now c.args.proc.now)) i c.args.exprs.now c.requires.typed) c.requires.locals (omega arith) c.expr-item.is c.loop-expr.invariant.0 c.loop-expr.invariant.1 c.in_ok-id.ensures.grows c.in_ok-id.ensures.term c.in_ok-push.ensures.items,
      grows_trans _ _ _ c.loop-expr.invariant.1 c.in_ok-id.ensures.grows,
      omega (arith, c.loop-expr.invariant.2, c.in_ok-id.ensures.weighs, weights_more (body_weight c.args.program.now c.args.proc.now) c.args.exprs.now i e (omega arith) c.expr-item.is),
    )

pub returns-in_err-id-clause-grows : goal.returns-in_err-id-clause-grows
returns-in_err-id-clause-grows c = grows_trans _ _ _ c.loop-expr.invariant.1 c.in_err-id.ensures.grows

pub returns-in_err-push-clause-grows : goal.returns-in_err-push-clause-grows
returns-in_err-push-clause-grows c = grows_trans _ _ _ c.loop-expr.invariant.1 c.in_ok-id.ensures.grows
