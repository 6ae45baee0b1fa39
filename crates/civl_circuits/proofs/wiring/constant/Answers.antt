use Rattle.civl_circuits.proofs.Wires.{digits_none, digits_more}
use Rattle.civl_circuits.proofs.wiring.constant.Goals as goal

pub loop-init : goal.loop-init
loop-init c = rw c.new-word.ensures.items (digits_none _ _)

pub loop-preserved : goal.loop-preserved
loop-preserved c = rw c.in_ok-push.ensures.items (digits_more _ _ _ _ _ _ _ c.loop.invariant c.negate-zero.ensures c.digit.ensures)
