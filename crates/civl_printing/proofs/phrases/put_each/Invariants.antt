use Rattle.std.proofs.Common.{◌≡◌, ◌++◌, drop, map}
use Rattle.civl_tree.specs.Spelling.{joined}
use Rattle.civl_printing.specs.Written.{written}
use Rattle.civl_printing.proofs.phrases.put_each.Given as goal

abbrev pub invariant-loop-phrase : goal.invariant-loop-phrase
invariant-loop-phrase g l =
    l.out.items ++ written (joined (map g.P.Phrase.spell (drop l.phrase-index l.phrase-items))) ≡ l.initial.out.items ++ written (joined (map g.P.Phrase.spell l.phrase-items))
