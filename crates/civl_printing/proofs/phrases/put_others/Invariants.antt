use Rattle.std.proofs.Common.{◌≡◌, ◌∷◌, ◌++◌, drop, map}
use Rattle.civl_tree.specs.Spelling.{comma, joined}
use Rattle.civl_printing.specs.Written.{written}
use Rattle.civl_printing.proofs.phrases.put_others.Given as goal

abbrev pub invariant-loop-phrase : goal.invariant-loop-phrase
invariant-loop-phrase g l =
    l.out.items ++ written (joined (map (λ x. comma ∷ g.P.Phrase.spell x) (drop l.phrase-index l.phrases))) ≡ l.initial.out.items ++ written (joined (map (λ x. comma ∷ g.P.Phrase.spell x) l.phrases))
