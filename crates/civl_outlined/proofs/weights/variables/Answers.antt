use Rattle.std.proofs.Common.{[]}
use Rattle.civl_weighing.proofs.Capping.{sum_weighs, weighs_same}
use Rattle.civl_outlined.proofs.Totals.{variables_are}
use Rattle.civl_outlined.proofs.weights.variables.Goals as goal

pub returns : goal.returns
returns c = record {
  is = λ r s all of.
      weighs_same (variables_are c.args.sums.now.said.program.now c.args.sums.now.said.outline.now r s of.proc of.stmt of.next of.there of.statement) (sum_weighs c.plus-2.ensures all.top (sum_weighs c.plus.ensures (of.frame []) of.own.choices));
}
