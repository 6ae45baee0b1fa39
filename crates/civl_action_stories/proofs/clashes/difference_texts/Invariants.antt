use Rattle.std.proofs.Common.{◌≡◌, ◌++◌, drop, map}
use Rattle.civl_action_stories.specs.Clashes.{difference_text}
use Rattle.civl_action_stories.specs.inner.Acting.{meant}
use Rattle.civl_action_stories.proofs.clashes.difference_texts.Given as goal

abbrev pub invariant-loop-difference : goal.invariant-loop-difference
invariant-loop-difference l =
    l.texts.items ++ map (difference_text l.program l.y_first (meant l.x) (meant l.y)) (drop l.difference-index l.differences)
    ≡ map (difference_text l.program l.y_first (meant l.x) (meant l.y)) l.differences
