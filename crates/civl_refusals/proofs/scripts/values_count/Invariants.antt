use Rattle.std.proofs.Common.{◌≡◌, ◌+◌, drop, map, length}
use Rattle.civl_tree.specs.Spelling.{joined}
use Rattle.civl_tree.specs.SpellingScript.{spell_value}
use Rattle.civl_refusals.proofs.scripts.values_count.Given as goal

abbrev pub invariant-loop-value : goal.invariant-loop-value
invariant-loop-value l = l.sum + length (joined (map spell_value (drop l.value-index l.values))) ≡ length (joined (map spell_value l.values))
