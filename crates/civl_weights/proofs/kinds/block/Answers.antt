use Rattle.std.proofs.Common.{◌+◌, ◌++◌, subst, Option}
use Rattle.civl_tree.specs.declared.program.Program.{Program}
use Rattle.civl_conditions.specs.Variables.{path_variables, other_variables}
use Rattle.civl_conditions.specs.Weights.{bits_of_variables, block_weight}
use Rattle.civl_weights.specs.declared.sums.cuts.CutSums.{CutSums}
use Rattle.civl_weights.specs.Kinds.{OfCutFound, IsBlock}
use Rattle.civl_weights.specs.sums.Tables.{OfTarget}
use Rattle.civl_weighing.proofs.Capping.{weighs_same}
use Rattle.civl_weights.proofs.Finding.{found_cut, lost_cut, block_is}
use Rattle.civl_weights.proofs.kinds.block.Goals as goal

pub returns-in-Some : goal.returns-in-Some
returns-in-Some c =
    let made = subst (λ (p : Program). IsBlock p c.in-Some.sums c.args.target c.target_sums-wanted.result c.block_of.result) c.program-program.ensures.same c.block_of.ensures in
    let wanted = (subst (λ (p : Program). OfTarget p c.args.step.now.step c.args.target c.target_sums-wanted.result) c.program-program.ensures.same c.target_sums-wanted.ensures) in
    weighs_same (block_is c.args.src.now c.args.number c.args.cut c.args.step.now.step c.args.target) (found_cut c.args.src.now c.args.step.now.step c.args.cut (bits_of_variables (other_variables c.args.src.now c.args.target)) (λ proc k. bits_of_variables (path_variables c.args.src.now c.args.step.now.step proc k ++ other_variables c.args.src.now c.args.target) + block_weight c.args.src.now c.args.step.now.step proc c.args.cut k c.args.target) c.args.number c.in-Some.sums (subst (λ (o : Option CutSums). OfCutFound c.args.src.now c.args.step.now.step c.args.number c.args.cut o) c.in-Some.is c.in_ok-found.ensures) (λ proc k h. made.is c.args.step.now.step proc c.args.cut k h wanted))

pub returns-in-None : goal.returns-in-None
returns-in-None c =
    let wanted = (subst (λ (p : Program). OfTarget p c.args.step.now.step c.args.target c.target_sums-wanted.result) c.program-program.ensures.same c.target_sums-wanted.ensures) in
    weighs_same (block_is c.args.src.now c.args.number c.args.cut c.args.step.now.step c.args.target) (lost_cut c.args.src.now c.args.step.now.step c.args.cut (bits_of_variables (other_variables c.args.src.now c.args.target)) (λ proc k. bits_of_variables (path_variables c.args.src.now c.args.step.now.step proc k ++ other_variables c.args.src.now c.args.target) + block_weight c.args.src.now c.args.step.now.step proc c.args.cut k c.args.target) c.args.number (subst (λ (o : Option CutSums). OfCutFound c.args.src.now c.args.step.now.step c.args.number c.args.cut o) c.in-None.is c.in_ok-found.ensures) wanted.frame)
