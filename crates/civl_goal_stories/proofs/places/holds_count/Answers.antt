use Rattle.std.proofs.Common.{arith, rules}
use Rattle.civl_outlines.specs.SpellingOutline.{spell_hold}
use Rattle.civl_places.proofs.Counts.{joined_rest}
use Rattle.civl_goal_stories.proofs.places.holds_count.Goals as goal

pub hold_count-sum-requires : goal.hold_count-sum-requires
hold_count-sum-requires c =
    let e = joined_rest spell_hold c.args.holds.now c.loop-hold.hold-index c.hold-item.result (search rules) (search rules) in
    omega arith

pub overflow_add-sum : goal.overflow_add-sum
overflow_add-sum c =
    let e = joined_rest spell_hold c.args.holds.now c.loop-hold.hold-index c.hold-item.result (search rules) (search rules) in
    omega arith

pub loop-hold-preserved : goal.loop-hold-preserved
loop-hold-preserved c =
    let e = joined_rest spell_hold c.args.holds.now c.loop-hold.hold-index c.hold-item.result (search rules) (search rules) in
    omega arith
