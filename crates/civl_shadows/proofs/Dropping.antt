-- What is left of a list from a place on.
use Rattle.std.proofs.Common.{◌≡◌, ℕ, zero, suc, ◌+◌, List, [], ◌∷◌, drop, refl, sym, ap, ◌∙◌, add-one}
use Rattle.std.proofs.Math.Seq.{drop-nil}

abbrev pub tail : {A : Type 0} → List A → List A
tail [] = []
tail (x ∷ xs) = xs

drop_suc : {A : Type 0} (i : ℕ) (xs : List A) → drop (suc i) xs ≡ tail (drop i xs)
drop_suc zero [] = refl
drop_suc zero (x ∷ xs) = refl
drop_suc {A} (suc i) [] = drop-nil (suc (suc i)) ∙ sym (ap tail (drop-nil {A = A} (suc i)))
drop_suc (suc i) (x ∷ xs) = drop_suc i xs

pub drop_tail : {A : Type 0} (i : ℕ) (xs : List A) → drop (i + 1) xs ≡ tail (drop i xs)
drop_tail {A} i xs = ap (λ (n : ℕ). drop n xs) (add-one i) ∙ drop_suc i xs
