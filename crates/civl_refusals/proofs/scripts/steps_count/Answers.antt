use Rattle.std.proofs.Common.{arith, rules}
use Rattle.civl_tree.specs.SpellingScript.{spell_step}
use Rattle.civl_places.proofs.Counts.{joined_rest}
use Rattle.civl_refusals.proofs.scripts.steps_count.Goals as goal

pub step_count-sum-requires : goal.step_count-sum-requires
step_count-sum-requires c =
    let e = joined_rest spell_step c.args.steps.now c.loop-step.step-index c.step-item.result (search rules) (search rules) in
    omega arith

pub overflow_add-sum : goal.overflow_add-sum
overflow_add-sum c =
    let e = joined_rest spell_step c.args.steps.now c.loop-step.step-index c.step-item.result (search rules) (search rules) in
    omega arith

pub loop-step-preserved : goal.loop-step-preserved
loop-step-preserved c =
    let e = joined_rest spell_step c.args.steps.now c.loop-step.step-index c.step-item.result (search rules) (search rules) in
    omega arith
