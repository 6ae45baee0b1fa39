use Rattle.std.proofs.Common.{arith}
use Rattle.civl_terms.proofs.Growing.{grows_trans}
use Rattle.civl_actions.proofs.Listing.{zeros_step}
use Rattle.civl_actions.proofs.named.zeros.Goals as goal

pub returns-in_err-push-clause-grows : goal.returns-in_err-push-clause-grows
returns-in_err-push-clause-grows c = grows_trans _ _ _ c.loop-out.invariant.1 c.in_ok-id.ensures.grows

pub loop-out-preserved : goal.loop-out-preserved
loop-out-preserved c = (
  zeros_step c.args.terms.now c.loop-out.terms c.constant.new.self c.args.outs.now c.loop-out.out-index c.out-item.result c.loop-out.ids.items _ c.zero.result c.in_ok-id.id c.requires (omega arith) c.out-item.is c.loop-out.invariant.0 c.in_ok-id.ensures.grows c.zero.ensures c.in_ok-id.ensures.built c.in_ok-push.ensures.items,
  grows_trans _ _ _ c.loop-out.invariant.1 c.in_ok-id.ensures.grows,
)
