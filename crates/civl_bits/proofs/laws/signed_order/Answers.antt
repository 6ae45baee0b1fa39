use Rattle.civl_bits.proofs.SignedOrder.{signed_order-by_top_bits}
use Rattle.civl_bits.proofs.laws.signed_order.Goals as goal

pub returns-clause-top_bits : goal.returns-clause-top_bits
returns-clause-top_bits c = signed_order-by_top_bits
