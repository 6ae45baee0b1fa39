use Rattle.std.proofs.Common.{rules}
use Rattle.civl_linear.proofs.Examples.{examples}
use Rattle.civl_tree.specs.rules.Rules.{each_place, places_of}
use Rattle.civl_linear.proofs.laws.loops_and_branches.Goals as goal

pub returns : goal.returns
unfolding each_place places_of
returns c = (search (rules, examples), search (rules, examples), search (rules, examples), search (rules, examples))
