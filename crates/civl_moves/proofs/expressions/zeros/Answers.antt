use Rattle.std.proofs.Common.{arith}
use Rattle.civl_terms.proofs.Growing.{grows_trans}
use Rattle.civl_moves.proofs.Scoping.{zeros_step}
use Rattle.civl_moves.proofs.expressions.zeros.Goals as goal

pub returns-in_err-push-clause-grows : goal.returns-in_err-push-clause-grows
returns-in_err-push-clause-grows c = grows_trans _ _ _ c.loop-global.invariant.1 c.in_ok-id.ensures.grows

pub loop-global-preserved : goal.loop-global-preserved
loop-global-preserved c = (
  zeros_step c.args.terms.now c.loop-global.terms c.constant.new.self c.args.globals.now c.loop-global.global-index c.global-item.result c.loop-global.ids.items _ c.zero.result c.in_ok-id.id c.requires (omega arith) c.global-item.is c.loop-global.invariant.0 c.in_ok-id.ensures.grows c.zero.ensures c.in_ok-id.ensures.built c.in_ok-push.ensures.items,
  grows_trans _ _ _ c.loop-global.invariant.1 c.in_ok-id.ensures.grows,
)
