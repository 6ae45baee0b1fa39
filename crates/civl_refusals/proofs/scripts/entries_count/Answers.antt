use Rattle.std.proofs.Common.{arith, rules}
use Rattle.civl_tree.specs.SpellingScript.{spell_entry}
use Rattle.civl_places.proofs.Counts.{joined_rest}
use Rattle.civl_refusals.proofs.scripts.entries_count.Goals as goal

pub entry_count-sum-requires : goal.entry_count-sum-requires
entry_count-sum-requires c =
    let e = joined_rest spell_entry c.args.entries.now c.loop-entry.entry-index c.entry-item.result (search rules) (search rules) in
    omega arith

pub overflow_add-sum : goal.overflow_add-sum
overflow_add-sum c =
    let e = joined_rest spell_entry c.args.entries.now c.loop-entry.entry-index c.entry-item.result (search rules) (search rules) in
    omega arith

pub loop-entry-preserved : goal.loop-entry-preserved
loop-entry-preserved c =
    let e = joined_rest spell_entry c.args.entries.now c.loop-entry.entry-index c.entry-item.result (search rules) (search rules) in
    omega arith
