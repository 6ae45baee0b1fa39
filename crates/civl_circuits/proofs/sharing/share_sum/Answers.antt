use Rattle.civl_circuits.proofs.Hashing.{outputs_later, made_sum, made_carry, found_adder}
use Rattle.civl_circuits.proofs.sharing.share_sum.Goals as goal

pub returns-in-Some-find-clause-ok : goal.returns-in-Some-find-clause-ok
returns-in-Some-find-clause-ok c =
    found_adder _ _ _ _ _ _ _ _ _ c.new.ensures c.new-2.ensures c.new-3.ensures c.new-4.ensures c.new-5.ensures c.new-6.ensures (c.in-Some.ensures c.args.gates.now c.requires.outputs) (c.in-Some-find.ensures c.args.gates.now c.requires.outputs)

pub returns-clause-outputs : goal.returns-clause-outputs
returns-clause-outputs c =
    c.keep-2.ensures.kept c.adder.new.self
    (c.keep.ensures.kept c.adder.new.self (rw c.reserve.ensures.entries (outputs_later _ c.in_ok-sum.ensures.extends c.requires.outputs)) (made_sum _ _ _ _ _ _ c.new.ensures c.new-2.ensures c.new-3.ensures c.in_ok-sum.ensures.ok))
    (made_carry _ _ _ _ _ _ c.new-4.ensures c.new-5.ensures c.new-6.ensures c.in_ok-sum.ensures.ok)
