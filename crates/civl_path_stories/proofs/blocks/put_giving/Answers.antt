use Rattle.civl_path_stories.proofs.Chains.{three}
use Rattle.civl_path_stories.proofs.blocks.put_giving.Goals as goal

pub returns : goal.returns
returns c = three _ _ _ _ _ _ _ _ c.as_slice.ensures c.in_ok-put.ensures c.in_ok-put-2.ensures c.in_ok-put_gifts.ensures
