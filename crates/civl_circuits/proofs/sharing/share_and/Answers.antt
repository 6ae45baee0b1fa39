use Rattle.civl_circuits.proofs.Hashing.{outputs_later, made_output, and_is}
use Rattle.civl_circuits.proofs.sharing.share_and.Goals as goal

pub returns-clause-outputs : goal.returns-clause-outputs
returns-clause-outputs c =
    c.keep.ensures.kept _ (rw c.reserve.ensures.entries (outputs_later _ c.in_ok-output.ensures.extends c.requires.outputs)) (made_output _ c.in_ok-output.ensures.ok (and_is _ _ _ _ c.new.ensures c.new-2.ensures))
