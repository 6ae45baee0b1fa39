use Rattle.std.proofs.Common.{◌≡◌, ◌+◌, drop, map, length}
use Rattle.civl_tree.specs.Spelling.{joined}
use Rattle.civl_places.proofs.phrase.count_each.Given as goal

abbrev pub invariant-loop-phrase : goal.invariant-loop-phrase
invariant-loop-phrase g l =
    l.sum + length (joined (map g.P.Phrase.spell (drop l.phrase-index l.phrases))) ≡ length (joined (map g.P.Phrase.spell l.phrases))
