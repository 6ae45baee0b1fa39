use Rattle.std.proofs.Common.{arith}
use Rattle.civl_tree.proofs.Numbers.{sizes_are_counts}
use Rattle.civl_path_stories.proofs.around.around_statement.Goals as goal

pub push_among-requires : goal.push_among-requires
push_among-requires c = omega (arith, sizes_are_counts c.args.body.now, c.requires)
