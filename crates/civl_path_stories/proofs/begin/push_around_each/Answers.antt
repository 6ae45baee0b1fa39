use Rattle.std.proofs.Common.{arith}
use Rattle.civl_path_stories.specs.Paths.{around_line}
use Rattle.civl_path_stories.specs.inner.Routes.{told}
use Rattle.civl_path_stories.proofs.Chains.{map_step, read_within}
use Rattle.civl_path_stories.proofs.begin.push_around_each.Goals as goal

pub loop-around-preserved : goal.loop-around-preserved
loop-around-preserved c =
    map_step c.args.found.now c.loop-around.around-index _ (omega arith)
    (read_within c.args.found.now c.loop-around.around-index _ _ (omega arith))
    (around_line (told c.args.route.now)) _ _ _ c.in_ok-push_around_one.ensures c.loop-around.invariant
