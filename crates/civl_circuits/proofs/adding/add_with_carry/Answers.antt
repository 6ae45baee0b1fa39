use Rattle.std.proofs.Common.{arith}
use Rattle.civl_circuits.proofs.Sums.{sum_none, sum_more, sum_all}
use Rattle.civl_circuits.proofs.Words.{below_at}
use Rattle.civl_cnf.proofs.Extending.{extends_trans}
use Rattle.civl_circuits.proofs.adding.add_with_carry.Goals as goal

pub loop-i-init : goal.loop-i-init
loop-i-init c = rw c.new-sum.ensures.items (sum_none _ _ _ _ c.requires.carry)

pub loop-i-preserved : goal.loop-i-preserved
loop-i-preserved c = rw c.in_ok-push.ensures.items (sum_more _ _ _ _ _ _ _ _ _ _ _ _ _ c.loop-i.invariant (omega arith) (omega (arith, c.requires.size)) c.index-a-i.is c.index-b-i.is c.in_ok-bit.ensures.ok)

pub returns-clause-ok : goal.returns-clause-ok
returns-clause-ok c = rw c.in_ok-push-2.ensures.items (sum_all _ _ _ _ _ _ _ _ c.loop-i.invariant (omega arith) c.requires.size)

pub adder-requires-clause-room : goal.adder-requires-clause-room
adder-requires-clause-room c = omega (arith, c.loop-i.invariant.variables, c.loop-i-test.true, c.requires.room)

pub adder-requires-clause-a : goal.adder-requires-clause-a
adder-requires-clause-a c = below_at _ _ c.requires.a c.loop-i.invariant.extends c.loop-i-test.true c.index-a-i.is

pub adder-requires-clause-b : goal.adder-requires-clause-b
adder-requires-clause-b c = below_at _ _ c.requires.b c.loop-i.invariant.extends (omega (arith, c.loop-i-test.true, c.requires.size)) c.index-b-i.is

pub adder-requires-clause-c : goal.adder-requires-clause-c
adder-requires-clause-c c = c.loop-i.invariant.below_rest

pub returns-in_err-bit-clause-extends : goal.returns-in_err-bit-clause-extends
returns-in_err-bit-clause-extends c = extends_trans c.loop-i.invariant.extends c.in_err-bit.ensures.extends

pub returns-in_err-push-clause-extends : goal.returns-in_err-push-clause-extends
returns-in_err-push-clause-extends c = extends_trans c.loop-i.invariant.extends c.in_ok-bit.ensures.extends

pub returns-in_err-push-2-clause-extends : goal.returns-in_err-push-2-clause-extends
returns-in_err-push-2-clause-extends c = c.loop-i.invariant.extends

pub returns-clause-extends : goal.returns-clause-extends
returns-clause-extends c = c.loop-i.invariant.extends
