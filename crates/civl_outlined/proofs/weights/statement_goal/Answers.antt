use Rattle.civl_weighing.proofs.Capping.{sum_weighs, weighs_same}
use Rattle.civl_outlined.proofs.Totals.{goal_is}
use Rattle.civl_outlined.proofs.weights.statement_goal.Goals as goal

pub returns : goal.returns
returns c = record {
  is = λ r s f of named.
      weighs_same (goal_is c.args.sums.now.said.program.now c.args.sums.now.said.outline.now r s of.proc of.stmt of.next of.there _ f of.spot)
      (c.together.ensures.is _ _ _ (c.variables-variables.ensures.is r s c.requires of) (sum_weighs c.plus-says.ensures of.own.base named) (sum_weighs c.plus-items.ensures c.requires.globals of.own.items));
}
