-- Sorts that fit.
use Rattle.std.specs.Prelude.{IsTrue, IsSome, None, Some}
use Rattle.std.proofs.Common.{◌≡◌, ℕ, ◌≤◌, refl, Bool, true, false, cond, leb, eqb}
use Rattle.std.proofs.lemmas.Bool.{and_parts, and_from, leb-true, le-leb, eqb-true}
use Rattle.civl_tree.specs.declared.expr.Sort.{Sort}
use Rattle.civl_tree.specs.declared.expr.Sort.TheVariants as sort
use Rattle.civl_tree.specs.declared.expr.Two.{Two}
use Rattle.civl_tree.specs.declared.expr.Two.TheVariants.{Add, Sub, Mul, BitAnd, BitOr, BitXor, Shl, Shr, Lt, Le, Eq, Ne, And, Or, Implies, Udiv, Urem, Slt, Sle, Sar}
use Rattle.civl_tree.specs.rules.Sorts.{two_sort, word_sort, truth_over}
use Rattle.civl_tree.specs.rules.Exprs.{is_width}

pub narrow : (w : ℕ) → IsTrue (is_width w) → 1 ≤ w
narrow w h = leb-true 1 w (and_parts (leb 1 w) (leb w 32) h).0

pub wide : (w : ℕ) → IsTrue (is_width w) → w ≤ 32
wide w h = leb-true w 32 (and_parts (leb 1 w) (leb w 32) h).1

pub width_from : (w : ℕ) → 1 ≤ w → w ≤ 32 → IsTrue (is_width w)
width_from w h l = and_from (leb 1 w) (leb w 32) (le-leb 1 w h) (le-leb w 32 l)

-- two words whose sorts fit have one width
word_fits : (t : Bool) (s : Sort) → IsSome (word_sort (cond t (Some s) None)) → t ≡ true
word_fits true s h = refl
word_fits false s h = absurd cc

test_fits : (t : Bool) (s : Sort) → IsSome (truth_over (word_sort (cond t (Some s) None))) → t ≡ true
test_fits true s h = refl
test_fits false s h = absurd cc

same_fits : (t : Bool) (s : Sort) → IsSome (truth_over (cond t (Some s) None)) → t ≡ true
same_fits true s h = refl
same_fits false s h = absurd cc

pub widths_same : (op : Two) (n m : ℕ) → IsSome (two_sort op (Some (sort.Word n)) (Some (sort.Word m))) → n ≡ m
widths_same Add n m h = eqb-true n m (word_fits (eqb n m) (sort.Word n) h)
widths_same Sub n m h = eqb-true n m (word_fits (eqb n m) (sort.Word n) h)
widths_same Mul n m h = eqb-true n m (word_fits (eqb n m) (sort.Word n) h)
widths_same BitAnd n m h = eqb-true n m (word_fits (eqb n m) (sort.Word n) h)
widths_same BitOr n m h = eqb-true n m (word_fits (eqb n m) (sort.Word n) h)
widths_same BitXor n m h = eqb-true n m (word_fits (eqb n m) (sort.Word n) h)
widths_same Shl n m h = eqb-true n m (word_fits (eqb n m) (sort.Word n) h)
widths_same Shr n m h = eqb-true n m (word_fits (eqb n m) (sort.Word n) h)
widths_same Lt n m h = eqb-true n m (test_fits (eqb n m) (sort.Word n) h)
widths_same Le n m h = eqb-true n m (test_fits (eqb n m) (sort.Word n) h)
widths_same Eq n m h = eqb-true n m (same_fits (eqb n m) (sort.Word n) h)
widths_same Ne n m h = eqb-true n m (same_fits (eqb n m) (sort.Word n) h)
widths_same And n m h = absurd cc
widths_same Or n m h = absurd cc
widths_same Implies n m h = absurd cc
widths_same Udiv n m h = eqb-true n m (word_fits (eqb n m) (sort.Word n) h)
widths_same Urem n m h = eqb-true n m (word_fits (eqb n m) (sort.Word n) h)
widths_same Slt n m h = eqb-true n m (test_fits (eqb n m) (sort.Word n) h)
widths_same Sle n m h = eqb-true n m (test_fits (eqb n m) (sort.Word n) h)
widths_same Sar n m h = eqb-true n m (word_fits (eqb n m) (sort.Word n) h)

-- a bool and a word fit no operation
pub mixed : (op : Two) (n : ℕ) → IsSome (two_sort op (Some sort.Bool) (Some (sort.Word n))) → ⊥
mixed Add n h = absurd cc
mixed Sub n h = absurd cc
mixed Mul n h = absurd cc
mixed BitAnd n h = absurd cc
mixed BitOr n h = absurd cc
mixed BitXor n h = absurd cc
mixed Shl n h = absurd cc
mixed Shr n h = absurd cc
mixed Lt n h = absurd cc
mixed Le n h = absurd cc
mixed Eq n h = absurd cc
mixed Ne n h = absurd cc
mixed And n h = absurd cc
mixed Or n h = absurd cc
mixed Implies n h = absurd cc
mixed Udiv n h = absurd cc
mixed Urem n h = absurd cc
mixed Slt n h = absurd cc
mixed Sle n h = absurd cc
mixed Sar n h = absurd cc

pub mixed_back : (op : Two) (n : ℕ) → IsSome (two_sort op (Some (sort.Word n)) (Some sort.Bool)) → ⊥
mixed_back Add n h = absurd cc
mixed_back Sub n h = absurd cc
mixed_back Mul n h = absurd cc
mixed_back BitAnd n h = absurd cc
mixed_back BitOr n h = absurd cc
mixed_back BitXor n h = absurd cc
mixed_back Shl n h = absurd cc
mixed_back Shr n h = absurd cc
mixed_back Lt n h = absurd cc
mixed_back Le n h = absurd cc
mixed_back Eq n h = absurd cc
mixed_back Ne n h = absurd cc
mixed_back And n h = absurd cc
mixed_back Or n h = absurd cc
mixed_back Implies n h = absurd cc
mixed_back Udiv n h = absurd cc
mixed_back Urem n h = absurd cc
mixed_back Slt n h = absurd cc
mixed_back Sle n h = absurd cc
mixed_back Sar n h = absurd cc

-- which operations fit bools, and which words
pub others_of_bools : (op : Two) → ((op ≡ And) → ⊥) → ((op ≡ Or) → ⊥) → ((op ≡ Implies) → ⊥) → ((op ≡ Eq) → ⊥) → ((op ≡ Ne) → ⊥) → IsSome (two_sort op (Some sort.Bool) (Some sort.Bool)) → ⊥
others_of_bools Add x y z t u h = absurd cc
others_of_bools Sub x y z t u h = absurd cc
others_of_bools Mul x y z t u h = absurd cc
others_of_bools BitAnd x y z t u h = absurd cc
others_of_bools BitOr x y z t u h = absurd cc
others_of_bools BitXor x y z t u h = absurd cc
others_of_bools Shl x y z t u h = absurd cc
others_of_bools Shr x y z t u h = absurd cc
others_of_bools Lt x y z t u h = absurd cc
others_of_bools Le x y z t u h = absurd cc
others_of_bools Eq x y z t u h = t refl
others_of_bools Ne x y z t u h = u refl
others_of_bools And x y z t u h = x refl
others_of_bools Or x y z t u h = y refl
others_of_bools Implies x y z t u h = z refl
others_of_bools Udiv x y z t u h = absurd cc
others_of_bools Urem x y z t u h = absurd cc
others_of_bools Slt x y z t u h = absurd cc
others_of_bools Sle x y z t u h = absurd cc
others_of_bools Sar x y z t u h = absurd cc
