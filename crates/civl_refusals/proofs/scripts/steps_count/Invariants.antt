use Rattle.std.proofs.Common.{◌≡◌, ◌+◌, drop, map, length}
use Rattle.civl_tree.specs.Spelling.{joined}
use Rattle.civl_tree.specs.SpellingScript.{spell_step}
use Rattle.civl_refusals.proofs.scripts.steps_count.Given as goal

abbrev pub invariant-loop-step : goal.invariant-loop-step
invariant-loop-step l = l.sum + length (joined (map spell_step (drop l.step-index l.steps))) ≡ length (joined (map spell_step l.steps))
