use Rattle.std.specs.Prelude.{codes}
use Rattle.civl_weighing.proofs.Capping.{sum_weighs, weighs_same}
use Rattle.civl_outlined.proofs.Totals.{other_is}
use Rattle.civl_outlined.proofs.weights.other_goal.Goals as goal

pub returns : goal.returns
returns c = record {
  is = λ r s q t of beside.
      weighs_same (other_is c.args.sums.now.said.program.now c.args.sums.now.said.outline.now r s of.proc of.stmt of.next of.there q t beside.proc of.spot beside.there)
      (c.together.ensures.is _ _ _ (sum_weighs c.plus-variables.ensures (c.variables.ensures.is r s c.requires of) (beside.frame (codes "other."))) (sum_weighs c.plus-says.ensures of.own.base beside.own.note)
      (sum_weighs c.plus-items.ensures (sum_weighs c.plus.ensures c.requires.globals of.own.items) beside.own.items));
}
