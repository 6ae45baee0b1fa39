-- A write over a write, and what stands where it was read.
use Rattle.std.proofs.Common.{◌≡◌, ℕ, zero, suc, ◌<◌, List, [], ◌∷◌, ◌++◌, length, refl, ap, ◌∙◌, arith}
use Rattle.std.specs.Prelude.{slice_get, slice_set, Some}
use Rattle.std.proofs.lemmas.List.{set-set, set-append_left, length-set}

pub put_back : {X : Type 0} (xs : List X) (i : ℕ) (a : X) → slice_get xs i ≡ Some a → slice_set xs i a ≡ xs
put_back [] i a p = refl
put_back (x ∷ xs) zero a p = cc
put_back (x ∷ xs) (suc i) a p = ap (λ r. x ∷ r) (put_back xs i a p)

pub put_twice : {X : Type 0} (xs : List X) (i : ℕ) (a b : X) → slice_set (slice_set xs i a) i b ≡ slice_set xs i b
put_twice xs i a b = set-set xs i a b

pub put_pushed : {X : Type 0} (xs ys : List X) (i : ℕ) (a b : X) → i < length xs → slice_set (slice_set xs i a ++ ys) i b ≡ slice_set xs i b ++ ys
put_pushed xs ys i a b h =
    let l : i < length (slice_set xs i a) = omega (arith, length-set xs i a) in
    set-append_left (slice_set xs i a) ys i b l ∙ ap (λ r. r ++ ys) (set-set xs i a b)

pub ruleset putting = (put_twice, put_back, put_pushed)
