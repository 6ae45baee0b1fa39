-- Runs of numbers.
use Rattle.std.proofs.Common.{◌≡◌, ◌∙◌, ℕ, zero, suc, ◌+◌, List, [], ◌∷◌, ◌++◌, ap, arith, add-one}
use Rattle.civl_bodies.specs.Numbers.{counted}

one_more : (first n : ℕ) → counted first (suc n) ≡ counted first n ++ (first + n) ∷ []
one_more first zero = let e : first ≡ first + 0 = omega arith in ap (λ (k : ℕ). k ∷ []) e
one_more first (suc n) =
    let e : first + 1 + n ≡ first + suc n = omega arith in
    ap (λ (xs : List ℕ). first ∷ xs) (one_more (first + 1) n ∙ ap (λ (k : ℕ). counted (first + 1) n ++ k ∷ []) e)

pub counted_more : (first n : ℕ) → counted first (n + 1) ≡ counted first n ++ (first + n) ∷ []
counted_more first n = ap (counted first) (add-one n) ∙ one_more first n
