use Rattle.std.proofs.Common.{arith}
use Rattle.civl_firing.specs.Names.{names_of}
use Rattle.civl_path_stories.specs.Paths.{gift_text}
use Rattle.civl_path_stories.proofs.Chains.{flat_step}
use Rattle.civl_path_stories.proofs.changes.put_given.Goals as goal

pub loop-change-preserved : goal.loop-change-preserved
loop-change-preserved c =
    flat_step c.args.changes.now c.loop-change.change-index c.change-item.result (omega arith) c.change-item.is
    (gift_text (names_of c.args.names.now)) _ _ _ c.in_ok-put_gift.ensures c.loop-change.invariant
