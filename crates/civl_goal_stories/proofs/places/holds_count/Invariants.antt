use Rattle.std.proofs.Common.{◌≡◌, ◌+◌, drop, map, length}
use Rattle.civl_tree.specs.Spelling.{joined}
use Rattle.civl_outlines.specs.SpellingOutline.{spell_hold}
use Rattle.civl_goal_stories.proofs.places.holds_count.Given as goal

abbrev pub invariant-loop-hold : goal.invariant-loop-hold
invariant-loop-hold l = l.sum + length (joined (map spell_hold (drop l.hold-index l.holds))) ≡ length (joined (map spell_hold l.holds))
