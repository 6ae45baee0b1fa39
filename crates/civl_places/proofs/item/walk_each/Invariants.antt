use Rattle.std.proofs.Common.{◌≡◌, ◌+◌, drop, map, length}
use Rattle.civl_tree.specs.Spelling.{joined}
use Rattle.civl_places.specs.inner.Walked.{walked, starts_each}
use Rattle.civl_places.proofs.item.walk_each.Given as goal

abbrev pub invariant-loop-phrase : goal.invariant-loop-phrase
invariant-loop-phrase g l = record {
  tokens : l.at + length (joined (map g.P.Phrase.spell (drop l.phrase-index l.phrases))) ≡ l.fn.start + length (joined (map g.P.Phrase.spell l.phrases));
  starts : walked (starts_each l.at (map g.P.Phrase.spell (drop l.phrase-index l.phrases))) l.left ≡ walked (starts_each l.fn.start (map g.P.Phrase.spell l.phrases)) l.fn.number;
}
