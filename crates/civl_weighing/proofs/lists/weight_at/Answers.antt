use Rattle.std.proofs.Common.{Some, None, sym}
use Rattle.civl_weighing.proofs.Listing.{got, found_at, none_at}
use Rattle.civl_weighing.proofs.lists.weight_at.Goals as goal

pub returns-in-Some : goal.returns-in-Some
returns-in-Some c = found_at (sym (got c.args.weights.now c.args.at (Some c.in-Some.weight) c.in-Some.ensures.lookup))

pub returns-in-None : goal.returns-in-None
returns-in-None c = none_at (sym (got c.args.weights.now c.args.at None c.in-None.ensures.lookup)) c.of.ensures
