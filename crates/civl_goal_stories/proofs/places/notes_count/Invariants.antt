use Rattle.std.proofs.Common.{◌≡◌, ◌+◌, drop, map, length}
use Rattle.civl_tree.specs.Spelling.{joined}
use Rattle.civl_outlines.specs.SpellingOutline.{spell_note}
use Rattle.civl_goal_stories.proofs.places.notes_count.Given as goal

abbrev pub invariant-loop-note : goal.invariant-loop-note
invariant-loop-note l = l.sum + length (joined (map spell_note (drop l.note-index l.notes))) ≡ length (joined (map spell_note l.notes))
