use Rattle.std.proofs.Common.{arith}
use Rattle.civl_bodies.specs.Bodies.{IsBody}
use Rattle.civl_meaning.proofs.Zipping.{zip_more}
use Rattle.civl_bodies.proofs.body.bodies_of.Goals as goal

pub loop-number-preserved : goal.loop-number-preserved
loop-number-preserved c =
    zip_more IsBody c.as_slice-items.result.now c.loop-number.number c.index-items-number.result _ _ _ (omega arith) c.index-items-number.is c.loop-number.invariant c.in_ok-body.ensures c.in_ok-push.ensures.items
