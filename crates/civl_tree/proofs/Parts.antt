-- The front of a list and what comes behind it.
use Rattle.std.specs.Prelude.{take, drop}
use Rattle.std.proofs.Common.{◌≡◌, ℕ, ◌-◌, List, ◌++◌, length, ap, arith, Bool, false, ◌∷◌, refl, []}
use Rattle.std.proofs.lemmas.List.{take_all, length-drop}
use Rattle.std.specs.List.{list_any}
use Rattle.std.proofs.lemmas.Bool.{or_parts, or_from}

-- a part of a list, from a place to its end and then so many
pub part_to : (o p : ℕ) (xs : List ℕ) → take o (take (length xs - p) (drop p xs)) ≡ take o (drop p xs)
part_to o p xs = ap (take o) (take_all (length xs - p) (drop p xs) (omega (arith, length-drop p xs)))

pub any_split : {A : Type 0} (p : A → Bool) (xs ys : List A) → list_any p (xs ++ ys) ≡ false → (list_any p xs ≡ false) × (list_any p ys ≡ false)
any_split p [] ys e = (refl, e)
any_split p (x ∷ xs) ys e =
    let o = or_parts (p x) (list_any p (xs ++ ys)) e in
    let r = any_split p xs ys o.1 in
    (or_from (p x) (list_any p xs) o.0 r.0, r.1)
