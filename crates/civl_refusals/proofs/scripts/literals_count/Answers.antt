use Rattle.std.proofs.Common.{arith}
use Rattle.civl_tree.specs.SpellingScript.{spell_literal}
use Rattle.civl_refusals.proofs.ScriptsFit.{counted}
use Rattle.civl_refusals.proofs.scripts.literals_count.Goals as goal

pub overflow_add-sum : goal.overflow_add-sum
overflow_add-sum c =
    let e = counted spell_literal c.args.literals.now c.loop-literal.literal-index _ _ c.loop-literal-test.true c.literal_count-sum.ensures in
    omega arith

pub loop-literal-preserved : goal.loop-literal-preserved
loop-literal-preserved c =
    let e = counted spell_literal c.args.literals.now c.loop-literal.literal-index _ _ c.loop-literal-test.true c.literal_count-sum.ensures in
    omega arith
