use Rattle.std.proofs.Common.{List, subst, sym}
use Rattle.std.specs.List.{AllZip}
use Rattle.civl_weights.specs.declared.sums.actions.ActionSums.{ActionSums}
use Rattle.civl_weights.specs.sums.Sums.{OfAction}
use Rattle.civl_weighing.proofs.Capping.{sum_weighs, weighs_same}
use Rattle.civl_outlined.proofs.Totals.{linear_is}
use Rattle.civl_outlined.proofs.weights.keeps_permissions.Goals as goal

pub instance_bits-instance-requires : goal.instance_bits-instance-requires
instance_bits-instance-requires c = subst (λ (l : List ActionSums). AllZip (OfAction c.args.sums.now.said.program.now) c.args.sums.now.said.program.now.actions l) (sym c.as_slice-actions.ensures) c.requires.actions

pub keep_own-requires-clause-actions : goal.keep_own-requires-clause-actions
keep_own-requires-clause-actions c = subst (λ (l : List ActionSums). AllZip (OfAction c.args.sums.now.said.program.now) c.args.sums.now.said.program.now.actions l) (sym c.as_slice-actions.ensures) c.requires.actions

pub returns : goal.returns
returns c = weighs_same (linear_is c.args.sums.now.said.program.now c.args.sums.now.said.outline.now c.args.number) (sum_weighs c.plus-2.ensures (sum_weighs c.plus.ensures c.requires.top c.instance_bits-instance.ensures) c.keep_own.ensures)
