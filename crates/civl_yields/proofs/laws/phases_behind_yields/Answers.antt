use Rattle.std.proofs.Common.{rules}
use Rattle.civl_yields.proofs.Examples.{examples}
use Rattle.civl_tree.specs.rules.Rules.{each_place, places_of}
use Rattle.civl_yields.proofs.laws.phases_behind_yields.Goals as goal

pub returns : goal.returns
unfolding each_place places_of
returns c = (search (rules, examples), search (rules, examples), search (rules, examples))
