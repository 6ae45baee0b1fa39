-- Next tokens and brackets of tokens that stand one behind the other.
use Rattle.std.proofs.Common.{◌≡◌, ℕ, zero, suc, ◌+◌, ◌≤◌, Bool, true, false, cond, List, [], ◌∷◌, ◌++◌, take, Option, Some, None, refl, ap, subst, arith, inl, inr, ◌⊎◌}
use Rattle.std.specs.List.{count_by}
use Rattle.std.specs.Prelude.{◌||◌, codes}
use Rattle.std.specs.Str.{bytes_eq}
use Rattle.std.proofs.lemmas.List.Sums.{sum_by-cons}
use Rattle.std.proofs.lemmas.Slice.Eq.{bytes_eq-Decides}
use Rattle.std.proofs.lemmas.Option.{same_Some}
use Rattle.civl_tree.specs.Token.{Token, Named, Reserved, Sign, Number}
use Rattle.civl_phrases.specs.Bracket.{opens, closes, IsShallow, Opens, Closes, Plain, side, turn, and_then, room}
use Rattle.civl_phrases.specs.Reader.{lookahead}

pub lookahead_join : (b r o : List Token) → lookahead o ≡ lookahead r → lookahead (b ++ o) ≡ lookahead (b ++ r)
lookahead_join [] r o e = e
lookahead_join (t ∷ b) r o e = refl

room_go : (o : Option ℕ) (m : ℕ) (out : Option ℕ) (f g : ℕ → Option ℕ) → ((k : ℕ) → f k ≡ Some m → g k ≡ out) → and_then o f ≡ Some m → and_then o g ≡ out
room_go (Some k) m out f g step h = step k h
room_go None m out f g step h = absurd cc

pub room_then : (d m : ℕ) (x y : List Token) → room d x ≡ Some m → room d (x ++ y) ≡ room m y
unfolding room
room_then d m [] y e = ap (λ k. room k y) (same_Some d m e)
room_then d m (t ∷ x) y e = room_go (turn (side t) d) m (room m y) (λ k. room k x) (λ k. room k (x ++ y)) (λ k h. room_then k m x y h) e

-- ---- the brackets that are open, counted over all tokens and token by token

pub is_bytes : (a b : List ℕ) → bytes_eq a b ≡ true → b ≡ a
is_bytes a b e = grind (arith, bytes_eq-Decides a b)

one_of : (b x y z : List ℕ) (p q r : Bool) → bytes_eq b x ≡ p → bytes_eq b y ≡ q → bytes_eq b z ≡ r → (p || (q || (r || false))) ≡ true → (x ≡ b) ⊎ ((y ≡ b) ⊎ (z ≡ b))
one_of b x y z true q r e1 e2 e3 h = inl (is_bytes b x e1)
one_of b x y z false true r e1 e2 e3 h = inr (inl (is_bytes b y e2))
one_of b x y z false false true e1 e2 e3 h = inr (inr (is_bytes b z e3))
one_of b x y z false false false e1 e2 e3 h = absurd cc

opens_not_closes : (t : Token) → opens t ≡ true → closes t ≡ false
opens_not_closes (Named b) e = absurd cc
opens_not_closes (Number n) e = absurd cc
opens_not_closes (Reserved b) e = absurd cc
opens_not_closes (Sign b) e = go (one_of b (codes "(") (codes "[") (codes "{") _ _ _ refl refl refl e)
  where
    go : (codes "(" ≡ b) ⊎ ((codes "[" ≡ b) ⊎ (codes "{" ≡ b)) → closes (Sign b) ≡ false
    go (inl h) = subst (λ w. closes (Sign w) ≡ false) h refl
    go (inr (inl h)) = subst (λ w. closes (Sign w) ≡ false) h refl
    go (inr (inr h)) = subst (λ w. closes (Sign w) ≡ false) h refl

abbrev opened_by : Token → ℕ
opened_by t = cond (opens t) 1 0

abbrev closed_by : Token → ℕ
closed_by t = cond (closes t) 1 0

abbrev turned : Bool → Bool → ℕ → Option ℕ
turned o c d = turn (cond o Opens (cond c Closes Plain)) d

counted : (o c : Bool) (d m : ℕ) (ts : List Token) → (o ≡ true → c ≡ false) → ((left : ℕ) → room left ts ≡ Some m → IsShallow left ts) → and_then (turned o c d) (λ left. room left ts) ≡ Some m
    → (i : ℕ) → cond o 1 0 + count_by opens (take i ts) ≤ cond c 1 0 + count_by closes (take i ts) + d
counted true true d m ts h ih e i = let k : true ≡ false = h refl in absurd cc
counted true false zero m ts h ih e i = absurd cc
counted true false (suc d) m ts h ih e i = let k = ih d e i in omega arith
counted false true d m ts h ih e i = let k = ih (suc d) e i in omega arith
counted false false d m ts h ih e i = let k = ih d e i in omega arith

pub to_shallow : (d : ℕ) (ts : List Token) (m : ℕ) → room d ts ≡ Some m → IsShallow d ts
unfolding room
to_shallow d ts m e zero = omega arith
to_shallow d [] m e (suc i) = omega arith
to_shallow d (t ∷ ts) m e (suc i) = rw (sum_by-cons opened_by t (take i ts), sum_by-cons closed_by t (take i ts)) (counted (opens t) (closes t) d m ts (opens_not_closes t) (λ left h. to_shallow left ts m h) e i)

counted_back : (o c : Bool) (d : ℕ) (ts : List Token) → (o ≡ true → c ≡ false) → ((left : ℕ) → IsShallow left ts → (m : ℕ) × (room left ts ≡ Some m))
    → ((i : ℕ) → cond o 1 0 + count_by opens (take i ts) ≤ cond c 1 0 + count_by closes (take i ts) + d) → (m : ℕ) × (and_then (turned o c d) (λ left. room left ts) ≡ Some m)
counted_back true true d ts h ih k = let l : true ≡ false = h refl in absurd cc
counted_back true false zero ts h ih k = let l = k 0 in absurd (omega arith)
counted_back true false (suc d) ts h ih k = ih d (λ i. let l = k i in omega arith)
counted_back false true d ts h ih k = ih (suc d) (λ i. let l = k i in omega arith)
counted_back false false d ts h ih k = ih d (λ i. let l = k i in omega arith)

pub from_shallow : (d : ℕ) (ts : List Token) → IsShallow d ts → (m : ℕ) × (room d ts ≡ Some m)
unfolding room
from_shallow d [] h = (d, refl)
from_shallow d (t ∷ ts) h = counted_back (opens t) (closes t) d ts (opens_not_closes t) (λ left k. from_shallow left ts k) (λ i. rw (sum_by-cons opened_by t (take i ts), sum_by-cons closed_by t (take i ts)) at (h (suc i)))

pub no_room : (d : ℕ) (ts : List Token) → (IsShallow d ts → ⊥) → room d ts ≡ None
no_room d ts h = go (room d ts) refl
  where
    go : (o : Option ℕ) → room d ts ≡ o → o ≡ None
    go None e = refl
    go (Some m) e = absurd (h (to_shallow d ts m e))
