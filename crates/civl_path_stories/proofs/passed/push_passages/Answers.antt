use Rattle.std.proofs.Common.{arith}
use Rattle.civl_path_stories.specs.Paths.{passage_line}
use Rattle.civl_path_stories.specs.inner.Routes.{told}
use Rattle.civl_path_stories.proofs.Chains.{map_step}
use Rattle.civl_path_stories.proofs.passed.push_passages.Goals as goal

pub loop-passage-preserved : goal.loop-passage-preserved
loop-passage-preserved c =
    map_step c.args.passed.now c.loop-passage.passage-index c.passage-item.result (omega arith) c.passage-item.is
    (passage_line (told c.args.route.now)) _ _ _ c.in_ok-push_passage.ensures c.loop-passage.invariant
