use Rattle.std.proofs.Common.{arith, rules}
use Rattle.civl_tree.specs.SpellingScript.{spell_value}
use Rattle.civl_places.proofs.Counts.{joined_rest}
use Rattle.civl_refusals.proofs.scripts.values_count.Goals as goal

pub value_count-sum-requires : goal.value_count-sum-requires
value_count-sum-requires c =
    let e = joined_rest spell_value c.args.values.now c.loop-value.value-index c.value-item.result (search rules) (search rules) in
    omega arith

pub overflow_add-sum : goal.overflow_add-sum
overflow_add-sum c =
    let e = joined_rest spell_value c.args.values.now c.loop-value.value-index c.value-item.result (search rules) (search rules) in
    omega arith

pub loop-value-preserved : goal.loop-value-preserved
loop-value-preserved c =
    let e = joined_rest spell_value c.args.values.now c.loop-value.value-index c.value-item.result (search rules) (search rules) in
    omega arith
