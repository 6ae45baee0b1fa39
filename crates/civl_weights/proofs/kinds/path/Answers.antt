use Rattle.std.proofs.Common.{◌+◌, subst, Option}
use Rattle.civl_conditions.specs.Variables.{path_variables}
use Rattle.civl_conditions.specs.Weights.{bits_of_variables, path_weight}
use Rattle.civl_weights.specs.declared.sums.cuts.CutSums.{CutSums}
use Rattle.civl_weights.specs.Kinds.{OfCutFound}
use Rattle.civl_weighing.proofs.Capping.{weighs_same}
use Rattle.civl_weights.proofs.Finding.{found_cut, lost_cut, path_is}
use Rattle.civl_weights.proofs.kinds.path.Goals as goal

pub returns-in-Some : goal.returns-in-Some
returns-in-Some c = weighs_same (path_is c.args.src.now c.args.number c.args.cut c.args.step.now.step c.args.part) (found_cut c.args.src.now c.args.step.now.step c.args.cut 0 (λ proc k. bits_of_variables (path_variables c.args.src.now c.args.step.now.step proc k) + path_weight c.args.src.now c.args.step.now.step c.args.part proc c.args.cut k) c.args.number c.in-Some.sums (subst (λ (o : Option CutSums). OfCutFound c.args.src.now c.args.step.now.step c.args.number c.args.cut o) c.in-Some.is c.in_ok-found.ensures) (λ proc k h. c.path_of.ensures.is c.args.src.now c.args.step.now.step proc c.args.cut k h))

pub returns-in-None : goal.returns-in-None
returns-in-None c = weighs_same (path_is c.args.src.now c.args.number c.args.cut c.args.step.now.step c.args.part) (lost_cut c.args.src.now c.args.step.now.step c.args.cut 0 (λ proc k. bits_of_variables (path_variables c.args.src.now c.args.step.now.step proc k) + path_weight c.args.src.now c.args.step.now.step c.args.part proc c.args.cut k) c.args.number (subst (λ (o : Option CutSums). OfCutFound c.args.src.now c.args.step.now.step c.args.number c.args.cut o) c.in-None.is c.in_ok-found.ensures) c.of.ensures)
