-- What stands at a place doesn't depend on the numbers: statements may be numbered from elsewhere.
use Rattle.std.proofs.Common.{◌≡◌, ℕ, zero, suc, ◌+◌, ◌-◌, ◌<◌, ◌≤◌, Bool, true, false, List, [], ◌∷◌, map, drop, length, get_or, refl, sym, ap, ◌∙◌, subst, Option, None, Some, arith, inl, inr, map-id}
use Rattle.std.proofs.lemmas.Bool.{cases_lt, lt-ltb, le-ltb}
use Rattle.std.specs.Prelude.{nat_lt, if◌then◌else◌}
use Rattle.civl_tree.specs.declared.stmt.Stmt.{Stmt, out-Stmt, roll-Stmt, out-roll-Stmt, map-Stmt, the_lemmas as of_stmt}
use Rattle.civl_tree.specs.declared.stmt.Stmt.TheOpen.{Stmt-F, If, While, YieldLoop, RankLoop}
use Rattle.civl_tree.specs.declared.stmt.Stmt.TheFolds.{ind-Stmt}
use Rattle.civl_meaning.specs.Places.{Spot, is_skipped, first_in, start_of, spot_among, spot_at, inside_of, loop_spot}
use Rattle.civl_tree.specs.Numbering.{size_of, sizes_of}
use Rattle.civl_tree.proofs.Lists.{drop_is}
use Rattle.civl_meaning.specs.inner.Left.{stmt_of, alone, first_left, among_left, inside_left}
use Rattle.civl_meaning.proofs.Placing.{inside_is, inside_layer}
use Rattle.civl_meaning.proofs.Finding.{among_is, among_here, among_inside}

if_below : (x y : ℕ) (p q : Option Spot) → x < y → stmt_of (if nat_lt x y then p else q) ≡ stmt_of p
if_below x y p q h = rw (lt-ltb x y h) refl

if_above : (x y : ℕ) (p q : Option Spot) → y ≤ x → stmt_of (if nat_lt x y then p else q) ≡ stmt_of q
if_above x y p q h = rw (le-ltb x y h) refl

chosen : (b : Bool) (p q r s : Option Spot) → stmt_of p ≡ stmt_of r → stmt_of q ≡ stmt_of s → stmt_of (if b then p else q) ≡ stmt_of (if b then r else s)
chosen true p q r s e f = e
chosen false p q r s e f = f

-- the first statement
first_alike : (ss : List Stmt) (at next at2 next2 : ℕ) (x y : Option Spot) → stmt_of x ≡ stmt_of y → stmt_of (first_in ss at next x) ≡ stmt_of (first_in ss at2 next2 y)
first_alike [] at next at2 next2 x y e = e
first_alike (s ∷ ss) at next at2 next2 x y e =
    chosen (is_skipped s) _ _ _ _ (first_alike ss (at + size_of s) next (at2 + size_of s) next2 x y e) refl

-- past a statement
among_past : (s : Stmt) (ss : List Stmt) (at next : ℕ) (after : Option Spot) (wanted : ℕ) → at + size_of s ≤ wanted → stmt_of (spot_among (s ∷ ss) at next after wanted) ≡ stmt_of (spot_among ss (at + size_of s) next after wanted)
among_past s ss at next after wanted h = ap stmt_of (among_is s ss at next after wanted) ∙ if_above wanted (at + size_of s) _ _ h

-- what is to be shown of a statement
abbrev Alike : Stmt → Type 0
Alike s = (t : Stmt) (at next at2 next2 : ℕ) (x y : Option Spot) (w w1 w2 : ℕ) → 0 < w → w1 ≡ at + w → w2 ≡ at2 + w → stmt_of x ≡ stmt_of y →
    stmt_of (inside_of s t at next x w1) ≡ stmt_of (inside_of s t at2 next2 y w2)

-- at a statement, or inside it
within : (s : Stmt) (ss : List Stmt) (h : Alike s) (at next at2 next2 : ℕ) (x y : Option Spot) (w w1 w2 : ℕ) → w < size_of s → w1 ≡ at + w → w2 ≡ at2 + w → stmt_of x ≡ stmt_of y →
    stmt_of (spot_among (s ∷ ss) at next x w1) ≡ stmt_of (spot_among (s ∷ ss) at2 next2 y w2)
within s ss h at next at2 next2 x y zero w1 w2 b e f al =
    ap stmt_of (among_here s ss at next x w1 (omega arith) (omega arith)) ∙ first_alike (s ∷ ss) at next at2 next2 x y al
    ∙ sym (ap stmt_of (among_here s ss at2 next2 y w2 (omega arith) (omega arith)))
within s ss h at next at2 next2 x y (suc w) w1 w2 b e f al =
    ap stmt_of (among_inside s ss at next x w1 (omega arith) (omega arith))
    ∙ h s at (start_of ss (at + size_of s) next) at2 (start_of ss (at2 + size_of s) next2) (first_in ss (at + size_of s) next x) (first_in ss (at2 + size_of s) next2 y) (suc w) w1 w2 (omega arith) e f (first_alike ss (at + size_of s) next (at2 + size_of s) next2 x y al)
    ∙ sym (ap stmt_of (among_inside s ss at2 next2 y w2 (omega arith) (omega arith)))

all_alike : {S : Type 0} (ys : List S) (v : S → Stmt) (h : (z : S) → Alike (v z)) (at next at2 next2 : ℕ) (x y : Option Spot) (w w1 w2 : ℕ) → w1 ≡ at + w → w2 ≡ at2 + w → stmt_of x ≡ stmt_of y →
    stmt_of (spot_among (map v ys) at next x w1) ≡ stmt_of (spot_among (map v ys) at2 next2 y w2)
all_alike [] v h at next at2 next2 x y w w1 w2 e f al = al
all_alike (z ∷ ys) v h at next at2 next2 x y w w1 w2 e f al = elim (cases_lt w (size_of (v z))) [
  | inl below ↦ within (v z) (map v ys) (h z) at next at2 next2 x y w w1 w2 below e f al
  | inr above ↦
      among_past (v z) (map v ys) at next x w1 (omega arith)
      ∙ all_alike ys v h (at + size_of (v z)) next (at2 + size_of (v z)) next2 x y (w - size_of (v z)) w1 w2 (omega arith) (omega arith) al
      ∙ sym (among_past (v z) (map v ys) at2 next2 y w2 (omega arith))
]

layer_alike : {S : Type 0} (d : Stmt-F S) (v : S → Stmt) (h : (z : S) → Alike (v z)) (t : Stmt) (at next at2 next2 : ℕ) (x y : Option Spot) (w w1 w2 : ℕ) → 0 < w → w1 ≡ at + w → w2 ≡ at2 + w → stmt_of x ≡ stmt_of y →
    stmt_of (inside_layer (map-Stmt S Stmt v d) t at next x w1) ≡ stmt_of (inside_layer (map-Stmt S Stmt v d) t at2 next2 y w2)
layer_alike (If c a b) v h t at next at2 next2 x y w w1 w2 p e f al =
    let n = sizes_of (map v a) in
    elim (cases_lt w (1 + n)) [
      | inl below ↦
          if_below w1 (at + 1 + n) _ _ (omega arith)
          ∙ all_alike a v h (at + 1) next (at2 + 1) next2 x y (w - 1) w1 w2 (omega arith) (omega arith) al
          ∙ sym (if_below w2 (at2 + 1 + n) _ _ (omega arith))
      | inr above ↦
          if_above w1 (at + 1 + n) _ _ (omega arith)
          ∙ all_alike b v h (at + 1 + n) next (at2 + 1 + n) next2 x y (w - (1 + n)) w1 w2 (omega arith) (omega arith) al
          ∙ sym (if_above w2 (at2 + 1 + n) _ _ (omega arith))
    ]
layer_alike (While c a) v h t at next at2 next2 x y w w1 w2 p e f al =
    all_alike a v h (at + 1) at (at2 + 1) at2 (loop_spot t at next) (loop_spot t at2 next2) (w - 1) w1 w2 (omega arith) (omega arith) refl
layer_alike (YieldLoop c i a) v h t at next at2 next2 x y w w1 w2 p e f al =
    all_alike a v h (at + 1) at (at2 + 1) at2 (loop_spot t at next) (loop_spot t at2 next2) (w - 1) w1 w2 (omega arith) (omega arith) refl
layer_alike (RankLoop c r i a) v h t at next at2 next2 x y w w1 w2 p e f al =
    all_alike a v h (at + 1) at (at2 + 1) at2 (loop_spot t at next) (loop_spot t at2 next2) (w - 1) w1 w2 (omega arith) (omega arith) refl
layer_alike _ v h t at next at2 next2 x y w w1 w2 p e f al = al

alike : (s : Stmt) → Alike s
alike s =
    ind-Stmt Alike (λ x y e t at next at2 next2 a b w w1 w2 p f g al.
    let r = roll-Stmt x in
    let q = out-roll-Stmt x ∙ sym e in
    ap stmt_of (inside_is r t at next a w1)
    ∙ ap (λ (d : Stmt-F Stmt). stmt_of (inside_layer d t at next a w1)) q
    ∙ layer_alike y (λ z. z.0) (λ z. z.1) t at next at2 next2 a b w w1 w2 p f g al
    ∙ ap (λ (d : Stmt-F Stmt). stmt_of (inside_layer d t at2 next2 b w2)) (sym q)
    ∙ ap stmt_of (sym (inside_is r t at2 next2 b w2))) s

among_alike : (ss : List Stmt) (at next at2 next2 : ℕ) (x y : Option Spot) (w w1 w2 : ℕ) → w1 ≡ at + w → w2 ≡ at2 + w → stmt_of x ≡ stmt_of y →
    stmt_of (spot_among ss at next x w1) ≡ stmt_of (spot_among ss at2 next2 y w2)
among_alike ss at next at2 next2 x y w w1 w2 e f al =
    subst (λ (ts : List Stmt). stmt_of (spot_among ts at next x w1) ≡ stmt_of (spot_among ts at2 next2 y w2)) (map-id ss)
    (all_alike ss (λ s. s) alike at next at2 next2 x y w w1 w2 e f al)

alone_is : (o : Option Stmt) → stmt_of (alone o) ≡ o
alone_is None = refl
alone_is (Some s) = refl

-- the first of a body
pub body_left : (body : List Stmt) (wanted : ℕ) → among_left body None wanted ≡ stmt_of (spot_at body wanted)
unfolding among_left
body_left body wanted = among_alike body 0 0 0 (sizes_of body) None None wanted wanted wanted (omega arith) (omega arith) refl

-- the first of some statements
pub first_skipped : (s : Stmt) (ss : List Stmt) (after : Option Stmt) → is_skipped s ≡ true → first_left (s ∷ ss) after ≡ first_left ss after
unfolding first_left
first_skipped s ss after e = ap stmt_of (rw e refl) ∙ first_alike ss (0 + size_of s) 0 0 0 (alone after) (alone after) refl

pub first_here : (s : Stmt) (ss : List Stmt) (after : Option Stmt) → is_skipped s ≡ false → first_left (s ∷ ss) after ≡ Some s
unfolding first_left
first_here s ss after e = rw e refl

pub first_none : (after : Option Stmt) → first_left [] after ≡ after
unfolding first_left
first_none after = alone_is after

pub none_left : (after : Option Stmt) (left : ℕ) → among_left [] after left ≡ after
unfolding among_left
none_left after left = alone_is after

-- at a statement, inside it, and past it
pub here_left : (ss : List Stmt) (i : ℕ) (s : Stmt) (after : Option Stmt) (left : ℕ) → i < length ss → s ≡ get_or ss i s → left < size_of s → left ≡ 0 → among_left (drop i ss) after left ≡ first_left (drop i ss) after
unfolding among_left first_left
here_left ss i s after left h e l z =
    ap (λ (r : List Stmt). stmt_of (spot_among r 0 0 (alone after) left)) (drop_is ss i s h e)
    ∙ ap stmt_of (among_here s (drop (i + 1) ss) 0 0 (alone after) left (omega arith) (omega arith))
    ∙ ap (λ (r : List Stmt). stmt_of (first_in r 0 0 (alone after))) (sym (drop_is ss i s h e))

pub within_left : (ss : List Stmt) (i : ℕ) (s : Stmt) (after : Option Stmt) (left : ℕ) → i < length ss → s ≡ get_or ss i s → left < size_of s → 0 < left → among_left (drop i ss) after left ≡ inside_left s (first_left (drop (i + 1) ss) after) left
unfolding among_left first_left inside_left
within_left ss i s after left h e l p =
    let rest = drop (i + 1) ss in
    let after2 = stmt_of (first_in rest 0 0 (alone after)) in
    ap (λ (r : List Stmt). stmt_of (spot_among r 0 0 (alone after) left)) (drop_is ss i s h e)
    ∙ ap stmt_of (among_inside s rest 0 0 (alone after) left (omega arith) (omega arith))
    ∙ alike s s 0 (start_of rest (0 + size_of s) 0) 0 0 (first_in rest (0 + size_of s) 0 (alone after)) (alone after2) left left left p (omega arith) (omega arith) (first_alike rest (0 + size_of s) 0 0 0 (alone after) (alone after) refl ∙ sym (alone_is after2))

pub past_left : (ss : List Stmt) (i : ℕ) (s : Stmt) (after : Option Stmt) (left : ℕ) → i < length ss → s ≡ get_or ss i s → size_of s ≤ left → among_left (drop i ss) after left ≡ among_left (drop (i + 1) ss) after (left - size_of s)
unfolding among_left
past_left ss i s after left h e l =
    let rest = drop (i + 1) ss in
    ap (λ (r : List Stmt). stmt_of (spot_among r 0 0 (alone after) left)) (drop_is ss i s h e)
    ∙ among_past s rest 0 0 (alone after) left (omega arith)
    ∙ among_alike rest (0 + size_of s) 0 0 0 (alone after) (alone after) (left - size_of s) left (left - size_of s) (omega arith) (omega arith) refl

-- what stands inside a statement, by its layer
abbrev pub layer_left : Stmt-F Stmt → Stmt → Option Stmt → ℕ → Option Stmt
layer_left (If e a b) s after left =
    if nat_lt (left - 1) (sizes_of a) then among_left a after (left - 1) else among_left b after (left - 1 - sizes_of a)
layer_left (While e a) s after left = among_left a (Some s) (left - 1)
layer_left (YieldLoop e i a) s after left = among_left a (Some s) (left - 1)
layer_left (RankLoop e r i a) s after left = among_left a (Some s) (left - 1)
layer_left _ s after left = after

branch_left : (a b : List Stmt) (after : Option Stmt) (left : ℕ) → 0 < left →
    stmt_of (if nat_lt left (0 + 1 + sizes_of a) then spot_among a (0 + 1) 0 (alone after) left else spot_among b (0 + 1 + sizes_of a) 0 (alone after) left)
    ≡ (if nat_lt (left - 1) (sizes_of a) then among_left a after (left - 1) else among_left b after (left - 1 - sizes_of a))
unfolding among_left
branch_left a b after left p = elim (cases_lt (left - 1) (sizes_of a)) [
  | inl below ↦
      if_below left (0 + 1 + sizes_of a) _ _ (omega arith)
      ∙ among_alike a (0 + 1) 0 0 0 (alone after) (alone after) (left - 1) left (left - 1) (omega arith) (omega arith) refl
      ∙ rw (lt-ltb (left - 1) (sizes_of a) below) refl
  | inr above ↦
      if_above left (0 + 1 + sizes_of a) _ _ (omega arith)
      ∙ among_alike b (0 + 1 + sizes_of a) 0 0 0 (alone after) (alone after) (left - 1 - sizes_of a) left (left - 1 - sizes_of a) (omega arith) (omega arith) refl
      ∙ rw (le-ltb (left - 1) (sizes_of a) above) refl
]

loop_left : (a : List Stmt) (s : Stmt) (left : ℕ) → 0 < left → stmt_of (spot_among a (0 + 1) 0 (loop_spot s 0 0) left) ≡ among_left a (Some s) (left - 1)
unfolding among_left
loop_left a s left p = among_alike a (0 + 1) 0 0 0 (loop_spot s 0 0) (alone (Some s)) (left - 1) left (left - 1) (omega arith) (omega arith) refl

layer_left_is : (d : Stmt-F Stmt) (s : Stmt) (after : Option Stmt) (left : ℕ) → 0 < left → stmt_of (inside_layer d s 0 0 (alone after) left) ≡ layer_left d s after left
layer_left_is (If e a b) s after left p = branch_left a b after left p
layer_left_is (While e a) s after left p = loop_left a s left p
layer_left_is (YieldLoop e i a) s after left p = loop_left a s left p
layer_left_is (RankLoop e r i a) s after left p = loop_left a s left p
layer_left_is _ s after left p = alone_is after

pub inside_left_is : (s : Stmt) (after : Option Stmt) (left : ℕ) → 0 < left → inside_left s after left ≡ layer_left (out-Stmt s) s after left
unfolding inside_left
inside_left_is s after left p = ap stmt_of (inside_is s s 0 0 (alone after) left) ∙ layer_left_is (out-Stmt s) s after left p

pub ruleset shifting = (inside_left_is, of_stmt)
