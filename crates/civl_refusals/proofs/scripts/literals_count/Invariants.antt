use Rattle.std.proofs.Common.{◌≡◌, ◌+◌, drop, map, length}
use Rattle.civl_tree.specs.Spelling.{joined}
use Rattle.civl_tree.specs.SpellingScript.{spell_literal}
use Rattle.civl_refusals.proofs.scripts.literals_count.Given as goal

abbrev pub invariant-loop-literal : goal.invariant-loop-literal
invariant-loop-literal l = l.sum + length (joined (map spell_literal (drop l.literal-index l.literals))) ≡ length (joined (map spell_literal l.literals))
