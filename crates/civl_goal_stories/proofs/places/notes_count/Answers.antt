use Rattle.std.proofs.Common.{arith, rules}
use Rattle.civl_outlines.specs.SpellingOutline.{spell_note}
use Rattle.civl_places.proofs.Counts.{joined_rest}
use Rattle.civl_goal_stories.proofs.places.notes_count.Goals as goal

pub note_count-sum-requires : goal.note_count-sum-requires
note_count-sum-requires c =
    let e = joined_rest spell_note c.args.notes.now c.loop-note.note-index c.note-item.result (search rules) (search rules) in
    omega arith

pub overflow_add-sum : goal.overflow_add-sum
overflow_add-sum c =
    let e = joined_rest spell_note c.args.notes.now c.loop-note.note-index c.note-item.result (search rules) (search rules) in
    omega arith

pub loop-note-preserved : goal.loop-note-preserved
loop-note-preserved c =
    let e = joined_rest spell_note c.args.notes.now c.loop-note.note-index c.note-item.result (search rules) (search rules) in
    omega arith
