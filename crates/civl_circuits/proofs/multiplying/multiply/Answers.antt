use Rattle.std.proofs.Common.{arith}
use Rattle.civl_circuits.proofs.Words.{one_later}
use Rattle.civl_circuits.proofs.Products.{product_none, product_more, product_all, room_left}
use Rattle.civl_circuits.proofs.multiplying.multiply.Goals as goal

pub loop-i-init : goal.loop-i-init
loop-i-init c = rw c.in_ok-product.ensures (product_none _ c.args.a.now c.args.b.now _ _ c.requires.one c.negate.ensures)

pub add_moved-requires-clause-room : goal.add_moved-requires-clause-room
add_moved-requires-clause-room c = room_left _ _ _ _ _ c.loop-i.invariant.variables (omega (arith, c.requires.size)) c.requires.room

pub add_moved-requires-clause-one : goal.add_moved-requires-clause-one
add_moved-requires-clause-one c = one_later c.loop-i.invariant.extends c.requires.one

pub loop-i-preserved : goal.loop-i-preserved
loop-i-preserved c = product_more _ _ _ _ _ _ c.loop-i.invariant (omega arith) c.index-b-i.is (rw c.as_slice.ensures.value at c.in_ok-product-2.ensures.ok)

pub returns-clause-ok : goal.returns-clause-ok
returns-clause-ok c = product_all _ _ _ _ c.loop-i.invariant (omega arith) c.requires.size
