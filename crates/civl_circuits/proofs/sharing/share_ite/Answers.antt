use Rattle.civl_circuits.proofs.Hashing.{outputs_later, made_output, ite_is, found_bit}
use Rattle.civl_circuits.proofs.sharing.share_ite.Goals as goal

pub returns-in-Some-clause-ok : goal.returns-in-Some-clause-ok
returns-in-Some-clause-ok c = found_bit _ (c.in-Some.ensures c.args.gates.now c.requires.outputs) (ite_is _ _ _ _ _ _ c.new.ensures c.new-2.ensures c.new-3.ensures)

pub returns-clause-outputs : goal.returns-clause-outputs
returns-clause-outputs c =
    c.keep.ensures.kept _ (rw c.reserve.ensures.entries (outputs_later _ c.in_ok-output.ensures.extends c.requires.outputs)) (made_output _ c.in_ok-output.ensures.ok (ite_is _ _ _ _ _ _ c.new.ensures c.new-2.ensures c.new-3.ensures))
