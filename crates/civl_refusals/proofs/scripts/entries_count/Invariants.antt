use Rattle.std.proofs.Common.{◌≡◌, ◌+◌, drop, map, length}
use Rattle.civl_tree.specs.Spelling.{joined}
use Rattle.civl_tree.specs.SpellingScript.{spell_entry}
use Rattle.civl_refusals.proofs.scripts.entries_count.Given as goal

abbrev pub invariant-loop-entry : goal.invariant-loop-entry
invariant-loop-entry l = l.sum + length (joined (map spell_entry (drop l.entry-index l.entries))) ≡ length (joined (map spell_entry l.entries))
