use Rattle.civl_conditions.proofs.paths.Reached.{found_ends}
use Rattle.civl_conditions.proofs.paths.ends.ends_from.Goals as goal

pub returns : goal.returns
returns c = found_ends c.args.cuts.now c.args.met.now c.in_ok-numbers.numbers c.in_ok-ends.ends c.in_ok-numbers.ensures c.in_ok-ends.ensures
