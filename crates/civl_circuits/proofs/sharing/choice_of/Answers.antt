use Rattle.civl_circuits.proofs.Hashing.{signed_below, signed_choice, turned_choice}
use Rattle.civl_circuits.proofs.sharing.choice_of.Goals as goal

pub share_ite-requires-clause-a : goal.share_ite-requires-clause-a
share_ite-requires-clause-a c = signed_below _ _ _ _ c.signed.ensures c.requires.a

pub share_ite-requires-clause-b : goal.share_ite-requires-clause-b
share_ite-requires-clause-b c = signed_below _ _ _ _ c.signed-then-positive.ensures c.requires.b

pub returns-in_ok-output-clause-ok : goal.returns-in_ok-output-clause-ok
returns-in_ok-output-clause-ok c = signed_choice _ _ _ _ c.signed.ensures c.signed-then-positive.ensures c.in_ok-output.ensures.ok c.signed-then-positive-2.ensures

pub share_ite-requires-else-positive-clause-a : goal.share_ite-requires-else-positive-clause-a
share_ite-requires-else-positive-clause-a c = signed_below _ _ _ _ c.signed-else-positive.ensures c.requires.b

pub share_ite-requires-else-positive-clause-b : goal.share_ite-requires-else-positive-clause-b
share_ite-requires-else-positive-clause-b c = signed_below _ _ _ _ c.signed-else-positive-2.ensures c.requires.a

pub returns-in_ok-output-2-clause-ok : goal.returns-in_ok-output-2-clause-ok
returns-in_ok-output-2-clause-ok c =
    turned_choice _ _ _ c.negate.ensures (signed_choice _ _ _ _ c.signed-else-positive.ensures c.signed-else-positive-2.ensures c.in_ok-output-2.ensures.ok c.signed-else-positive-3.ensures)
