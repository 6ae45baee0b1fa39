-- Each list of tokens has no more brackets open than tokens.
use Rattle.std.proofs.Common.{ℕ, zero, suc, ◌≤◌, List, [], ◌∷◌, length, take, arith}
use Rattle.std.proofs.lemmas.List.Sums.{count_by-le-length}
use Rattle.civl_tree.specs.Token.{Token}
use Rattle.civl_phrases.specs.Bracket.{IsShallow, opens}

taken_short : (i : ℕ) (ts : List Token) → length (take i ts) ≤ length ts
taken_short zero ts = omega arith
taken_short (suc i) [] = omega arith
taken_short (suc i) (t ∷ ts) = let h = taken_short i ts in omega arith

pub all_shallow : (ts : List Token) → IsShallow (length ts) ts
all_shallow ts = λ i. omega (arith, count_by-le-length opens (take i ts), taken_short i ts)
