-- Phrases in a list in parentheses.
use Rattle.std.proofs.Common.{◌≡◌, ℕ, zero, suc, ◌+◌, ◌<◌, ◌≤◌, List, [], ◌∷◌, ◌++◌, map, length, take, Some, append_assoc, length-append, refl, sym, ap, ◌∙◌, arith}
use Rattle.std.specs.Prelude.{slice_get}
use Rattle.civl_tree.specs.Token.{Token}
use Rattle.civl_tree.specs.Spelling.{open_paren, close_paren, comma, joined, separated, enclosed}
use Rattle.civl_reasons.specs.Stands.{StandAt}
use Rattle.civl_places.specs.Formulas.{before_in_list}
use Rattle.civl_places.proofs.Counts.{enclosed_length}

-- ---- how many tokens stand before a phrase

commas_behind : {X : Type 0} (spell : X → List Token) (xs : List X)
    → length (joined (map (λ x. spell x ++ comma ∷ []) xs)) ≡ length (joined (map spell xs)) + length xs
commas_behind spell [] = refl
commas_behind spell (x ∷ xs) =
    omega (
      arith,
      commas_behind spell xs,
      length-append (spell x) (comma ∷ []),
      length-append (spell x) (joined (map spell xs)),
      length-append (spell x ++ comma ∷ []) (joined (map (λ x. spell x ++ comma ∷ []) xs)),
    )

length_first : {X : Type 0} (xs : List X) (n : ℕ) → n ≤ length xs → length (take n xs) ≡ n
length_first xs zero h = refl
length_first [] (suc n) h = absurd (omega arith)
length_first (x ∷ xs) (suc n) h = omega (arith, length_first xs n (omega arith))

pub first_fit : {X : Type 0} (spell : X → List Token) (xs : List X) (n : ℕ) → length (joined (map spell (take n xs))) ≤ length (joined (map spell xs))
first_fit spell xs zero = omega arith
first_fit spell [] (suc n) = omega arith
first_fit spell (x ∷ xs) (suc n) =
    omega (
      arith,
      first_fit spell xs n,
      length-append (spell x) (joined (map spell xs)),
      length-append (spell x) (joined (map spell (take n xs))),
    )

pub before_counts : {X : Type 0} (spell : X → List Token) (xs : List X) (n : ℕ) → n ≤ length xs
    → length (joined (map spell (take n xs))) + n + 1 ≡ before_in_list spell xs n
before_counts spell xs n h = omega (arith, commas_behind spell (take n xs), length_first xs n h)

pub before_fits : {X : Type 0} (spell : X → List Token) (xs : List X) (n : ℕ) → n < length xs → before_in_list spell xs n ≤ length (enclosed spell xs)
before_fits spell xs n h =
    omega (arith, before_counts spell xs n (omega arith), first_fit spell xs n, enclosed_length spell xs)

-- ---- where it stands

-- a phrase, and what stands behind it
record InSeparated {X : Type 0} (spell : X → List Token) (xs : List X) (n : ℕ) (x : X) : Type 0 where
  behind : List Token
  parts : separated spell xs ≡ joined (map (λ y. spell y ++ comma ∷ []) (take n xs)) ++ (spell x ++ behind)

next_phrase : {X : Type 0} (spell : X → List Token) (x y : X) (ys : List X) → separated spell (x ∷ y ∷ ys) ≡ spell x ++ (comma ∷ separated spell (y ∷ ys))
next_phrase spell x y ys = refl

in_separated : {X : Type 0} (spell : X → List Token) (xs : List X) (n : ℕ) (x : X) → slice_get xs n ≡ Some x → InSeparated spell xs n x
in_separated spell [] n x h = absurd (let none = h in cc)
in_separated spell (y ∷ ys) zero x h =
    let same : y ≡ x = cc in record {
      behind = joined (map (λ z. comma ∷ spell z) ys);
      parts = ap (λ z. spell z ++ joined (map (λ w. comma ∷ spell w) ys)) same;
    }
in_separated spell (y ∷ []) (suc n) x h = absurd (let none = h in cc)
in_separated spell (y ∷ z ∷ zs) (suc n) x h =
    let rest = in_separated spell (z ∷ zs) n x h in
    let first = joined (map (λ w. spell w ++ comma ∷ []) (take n (z ∷ zs))) in record {
      behind = rest.behind;
      parts = ap (λ (l : List Token). spell y ++ (comma ∷ l)) rest.parts
          ∙ sym (append_assoc (spell y ++ comma ∷ []) first (spell x ++ rest.behind) ∙ append_assoc (spell y) (comma ∷ []) (first ++ (spell x ++ rest.behind)));
    }

pub list_stands : {X : Type 0} (spell : X → List Token) (xs : List X) (n : ℕ) (x : X) → slice_get xs n ≡ Some x → StandAt (spell x) (enclosed spell xs) (before_in_list spell xs n)
list_stands spell xs n x h =
    let found = in_separated spell xs n x h in
    let first = joined (map (λ y. spell y ++ comma ∷ []) (take n xs)) in record {
      before = open_paren ∷ first;
      after = found.behind ++ close_paren ∷ [];
      parts = ap (λ (l : List Token). open_paren ∷ (l ++ close_paren ∷ [])) found.parts
          ∙ ap (λ (l : List Token). open_paren ∷ l) (append_assoc first (spell x ++ found.behind) (close_paren ∷ []) ∙ ap (λ (l : List Token). first ++ l) (append_assoc (spell x) found.behind (close_paren ∷ [])));
      place_is = refl;
    }
