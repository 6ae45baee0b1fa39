-- Foldings of operations with two operands keep values.
use Rattle.std.specs.Prelude.{not, ◌&&◌, ◌||◌, if◌then◌else◌}
use Rattle.std.proofs.Common.{rules, ◌≡◌, ◌∙◌, ◌≤◌, ℕ, ◌^◌, ◌<◌, Bool, true, false, refl, sym, ap, ap₂, subst, Option, Some, None}
use Rattle.std.proofs.lemmas.Bool.{false≢true, le-leb, and_parts}
use Rattle.std.proofs.lemmas.Option.{same_Some}
use Rattle.civl_bits.specs.Word.{IsWord, sum_at, difference_at, product_at, quotient_at, remainder_at, bitwise_and_at, bitwise_or_at, bitwise_xor_at, left_shift_at, right_shift_at, arithmetic_right_shift_at}
use Rattle.civl_bits.specs.ValueLaws.{SameValueIsEquality}
use Rattle.civl_bits.specs.declared.value.Value.{Value}
use Rattle.civl_bits.specs.declared.value.Value.TheVariants as value
use Rattle.civl_tree.specs.declared.expr.Two.{Two}
use Rattle.civl_tree.specs.declared.expr.Two.TheVariants.{Add, Sub, Mul, BitAnd, BitOr, BitXor, Shl, Shr, Lt, Le, Eq, Ne, And, Or, Implies, Udiv, Urem, Slt, Sle, Sar}
use Rattle.civl_tree.specs.declared.expr.Sort.{Sort}
use Rattle.civl_tree.specs.declared.expr.Sort.TheVariants as sort
use Rattle.civl_tree.specs.rules.Sorts.{two_sort, words_sort, truths_sort, truth_over, common_sort, is_truth}
use Rattle.civl_firing.specs.values.Operators.{on_words, test_words, on_bools, two_value, is_less, is_less_or_same, is_signed_less, is_signed_less_or_same, implies}
use Rattle.civl_tree.specs.rules.Exprs.{is_width}
use Rattle.civl_firing.specs.values.Values.{HasSort}
use Rattle.civl_firing.proofs.values.Sorting.{Given, if_some, common, a_word, a_truth, over, bool_of, word_of, two_words, words_are, tests_are}
use Rattle.civl_terms.specs.declared.foldings.folded.Folded.{Folded}
use Rattle.civl_terms.specs.foldings.Folding.{when, with_itself, after_constant, before_constant, IsFolded, AreSame}
use Rattle.civl_terms.specs.foldings.Laws.{TwosKeepValues}
use Rattle.civl_terms.proofs.foldings.Words.{add_after, sub_after, mul_after, and_after, or_after, xor_after, shl_after, shr_after, udiv_after, urem_after, sar_after, lt_after, le_after, slt_after, sle_after, add_before, sub_before, mul_before, and_before, or_before, xor_before, shl_before, shr_before, udiv_before, urem_before, sar_before, lt_before, le_before, slt_before, sle_before, add_itself, sub_itself, mul_itself, and_with_itself, or_with_itself, xor_with_itself, shl_itself, shr_itself, udiv_itself, urem_itself, sar_itself, lt_itself, le_itself, slt_itself, sle_itself}

pub same_is_equality : SameValueIsEquality
same_is_equality = search rules

-- ---- operands of their sorts

pub given : (s : Sort) (x : Value) → HasSort x s → Given (Some s) x
given s x h t e = let f : s ≡ t = cc in subst (HasSort x) f h

module _ (third : Value) where
  -- a folding of an operation on two words, from what it says of numbers
  lift : (op : Value → Value → Value) (r : ℕ → ℕ → ℕ → Value) (g : Value → Value → Folded) (s t u : Sort) (x y : Value)
      → ((w m n : ℕ) → op (value.Word (w, m)) (value.Word (w, n)) ≡ r w m n)
      → words_sort (Some s) (Some t) ≡ Some u → HasSort x s → HasSort y t
      → ((w m n : ℕ) → 1 ≤ w → m < 2 ^ w → n < 2 ^ w → IsFolded (g (value.Word (w, m)) (value.Word (w, n))) (r w m n) (value.Word (w, m)) (value.Word (w, n)) third)
      → IsFolded (g x y) (op x y) x y third
  lift op r g s t u x y is e hx hy h =
      let d = two_words (Some s) (Some t) x y (given s x hx) (given t y hy) u e in
      let w = d.0 in
      let m = d.1 in
      let n = d.2 in
      let at : IsFolded (g (value.Word (w, m)) (value.Word (w, n))) (op (value.Word (w, m)) (value.Word (w, n))) (value.Word (w, m)) (value.Word (w, n)) third =
      subst (λ (v : Value). IsFolded (g (value.Word (w, m)) (value.Word (w, n))) v (value.Word (w, m)) (value.Word (w, n)) third) (sym (is w m n)) (h w m n d.5.narrow d.5.fits d.6.fits) in
      subst (λ (v : Value). IsFolded (g v y) (op v y) v y third) (sym d.3)
      (subst (λ (v : Value). IsFolded (g (value.Word (w, m)) v) (op (value.Word (w, m)) v) (value.Word (w, m)) v third) (sym d.4) at)

  -- the sort of a test's operands
  tested : (s t u : Sort) → truth_over (words_sort (Some s) (Some t)) ≡ Some u → (v : Sort) × (words_sort (Some s) (Some t) ≡ Some v)
  tested s t u e = let o = over (words_sort (Some s) (Some t)) u e in (o.0, o.1)

  -- operands of an equation have one sort
  alike : (s t u : Sort) → truth_over (common_sort (Some s) (Some t)) ≡ Some u → s ≡ t
  alike s t u e =
      let o = over (common_sort (Some s) (Some t)) u e in
      let c = common (Some s) (Some t) o.0 o.1 in
      let p : s ≡ o.0 = same_Some s o.0 c.0 in
      let q : t ≡ o.0 = same_Some t o.0 c.1 in
      p ∙ sym q

  -- operands of a connective are bools
  bools : (g : Value → Value → Folded) (f : Bool → Bool → Bool) (s t u : Sort) (x y : Value)
      → truths_sort (Some s) (Some t) ≡ Some u → HasSort x s → HasSort y t
      → ((a b : Bool) → IsFolded (g (value.Bool a) (value.Bool b)) (value.Bool (f a b)) (value.Bool a) (value.Bool b) third)
      → IsFolded (g x y) (on_bools f x y) x y third
  bools g f s t u x y e hx hy h =
      let i = if_some (is_truth (Some s) && is_truth (Some t)) sort.Bool u e in
      let j = and_parts (is_truth (Some s)) (is_truth (Some t)) i.0 in
      let a = bool_of x (given s x hx sort.Bool (a_truth (Some s) j.0)) in
      let b = bool_of y (given t y hy sort.Bool (a_truth (Some t) j.1)) in
      subst (λ (v : Value). IsFolded (g v y) (on_bools f v y) v y third) (sym a.1)
      (subst (λ (v : Value). IsFolded (g (value.Bool a.0) v) (on_bools f (value.Bool a.0) v) (value.Bool a.0) v third) (sym b.1) (h a.0 b.0))

  -- ---- equations

  eq_after : (s : Sort) (x y : Value) → HasSort x s → HasSort y s → IsFolded (after_constant Eq x) (two_value Eq x y) x y third
  eq_after sort.Bool (value.Bool true) (value.Bool b) hx hy = refl
  eq_after sort.Bool (value.Bool true) (value.Word b) hx hy = absurd (false≢true hy.1)
  eq_after sort.Bool (value.Bool true) (value.Row b) hx hy = absurd (false≢true hy.1)
  eq_after (sort.Word w) (value.Bool true) y hx hy = absurd (false≢true hx.1)
  eq_after (sort.Row i w) (value.Bool true) y hx hy = absurd (false≢true hx.1)
  eq_after s (value.Bool false) y hx hy = tt
  eq_after s (value.Word a) y hx hy = tt
  eq_after s (value.Row a) y hx hy = tt

  equals_true : (a : Bool) → value.Bool (if a then true else false) ≡ value.Bool a
  equals_true true = refl
  equals_true false = refl

  eq_before : (s : Sort) (x y : Value) → HasSort x s → HasSort y s → IsFolded (before_constant Eq y) (two_value Eq x y) x y third
  eq_before sort.Bool (value.Bool a) (value.Bool true) hx hy = equals_true a
  eq_before sort.Bool (value.Word a) (value.Bool true) hx hy = absurd (false≢true hx.1)
  eq_before sort.Bool (value.Row a) (value.Bool true) hx hy = absurd (false≢true hx.1)
  eq_before (sort.Word w) x (value.Bool true) hx hy = absurd (false≢true hy.1)
  eq_before (sort.Row i w) x (value.Bool true) hx hy = absurd (false≢true hy.1)
  eq_before s x (value.Bool false) hx hy = tt
  eq_before s x (value.Word b) hx hy = tt
  eq_before s x (value.Row b) hx hy = tt

  twice_not : (a : Bool) → value.Bool (not (not a)) ≡ value.Bool a
  twice_not true = refl
  twice_not false = refl

  differs_false : (a : Bool) → value.Bool (not (if a then false else true)) ≡ value.Bool a
  differs_false true = refl
  differs_false false = refl

  ne_after : (s : Sort) (x y : Value) → HasSort x s → HasSort y s → IsFolded (after_constant Ne x) (two_value Ne x y) x y third
  ne_after sort.Bool (value.Bool false) (value.Bool b) hx hy = twice_not b
  ne_after sort.Bool (value.Bool false) (value.Word b) hx hy = absurd (false≢true hy.1)
  ne_after sort.Bool (value.Bool false) (value.Row b) hx hy = absurd (false≢true hy.1)
  ne_after (sort.Word w) (value.Bool false) y hx hy = absurd (false≢true hx.1)
  ne_after (sort.Row i w) (value.Bool false) y hx hy = absurd (false≢true hx.1)
  ne_after s (value.Bool true) y hx hy = tt
  ne_after s (value.Word a) y hx hy = tt
  ne_after s (value.Row a) y hx hy = tt

  ne_before : (s : Sort) (x y : Value) → HasSort x s → HasSort y s → IsFolded (before_constant Ne y) (two_value Ne x y) x y third
  ne_before sort.Bool (value.Bool a) (value.Bool false) hx hy = differs_false a
  ne_before sort.Bool (value.Word a) (value.Bool false) hx hy = absurd (false≢true hx.1)
  ne_before sort.Bool (value.Row a) (value.Bool false) hx hy = absurd (false≢true hx.1)
  ne_before (sort.Word w) x (value.Bool false) hx hy = absurd (false≢true hy.1)
  ne_before (sort.Row i w) x (value.Bool false) hx hy = absurd (false≢true hy.1)
  ne_before s x (value.Bool true) hx hy = tt
  ne_before s x (value.Word b) hx hy = tt
  ne_before s x (value.Row b) hx hy = tt

  -- ---- connectives

  and_flags : (a b : Bool) → IsFolded (after_constant And (value.Bool a)) (value.Bool (a && b)) (value.Bool a) (value.Bool b) third
  and_flags true b = refl
  and_flags false b = refl

  or_flags : (a b : Bool) → IsFolded (after_constant Or (value.Bool a)) (value.Bool (a || b)) (value.Bool a) (value.Bool b) third
  or_flags true b = refl
  or_flags false b = refl

  implies_flags : (a b : Bool) → IsFolded (after_constant Implies (value.Bool a)) (value.Bool (implies a b)) (value.Bool a) (value.Bool b) third
  implies_flags true b = refl
  implies_flags false b = refl

  flags_and : (a b : Bool) → IsFolded (before_constant And (value.Bool b)) (value.Bool (a && b)) (value.Bool a) (value.Bool b) third
  flags_and true true = refl
  flags_and true false = refl
  flags_and false true = refl
  flags_and false false = refl

  flags_or : (a b : Bool) → IsFolded (before_constant Or (value.Bool b)) (value.Bool (a || b)) (value.Bool a) (value.Bool b) third
  flags_or true true = refl
  flags_or true false = refl
  flags_or false true = refl
  flags_or false false = refl

  flags_implies : (a b : Bool) → IsFolded (before_constant Implies (value.Bool b)) (value.Bool (implies a b)) (value.Bool a) (value.Bool b) third
  flags_implies true true = refl
  flags_implies true false = tt
  flags_implies false true = refl
  flags_implies false false = tt

  same_and : (a b : Bool) → a ≡ b → value.Bool (a && b) ≡ value.Bool a
  same_and true true e = refl
  same_and false b e = refl
  same_and true false e = absurd (false≢true (sym e))

  same_or : (a b : Bool) → a ≡ b → value.Bool (a || b) ≡ value.Bool a
  same_or true b e = refl
  same_or false false e = refl
  same_or false true e = absurd (false≢true e)

  same_implies : (a : Bool) → value.Bool (implies a a) ≡ value.Bool true
  same_implies true = refl
  same_implies false = refl

  -- ---- a constant first

  pub after_is : (op : Two) (s t u : Sort) (x y : Value) → two_sort op (Some s) (Some t) ≡ Some u → HasSort x s → HasSort y t → IsFolded (after_constant op x) (two_value op x y) x y third
  after_is Add s t u x y e hx hy = lift (on_words sum_at) _ (λ v z. after_constant Add v) s t u x y (words_are sum_at) e hx hy (add_after third)
  after_is Sub s t u x y e hx hy = lift (on_words difference_at) _ (λ v z. after_constant Sub v) s t u x y (words_are difference_at) e hx hy (sub_after third)
  after_is Mul s t u x y e hx hy = lift (on_words product_at) _ (λ v z. after_constant Mul v) s t u x y (words_are product_at) e hx hy (mul_after third)
  after_is BitAnd s t u x y e hx hy = lift (on_words bitwise_and_at) _ (λ v z. after_constant BitAnd v) s t u x y (words_are bitwise_and_at) e hx hy (and_after third)
  after_is BitOr s t u x y e hx hy = lift (on_words bitwise_or_at) _ (λ v z. after_constant BitOr v) s t u x y (words_are bitwise_or_at) e hx hy (or_after third)
  after_is BitXor s t u x y e hx hy = lift (on_words bitwise_xor_at) _ (λ v z. after_constant BitXor v) s t u x y (words_are bitwise_xor_at) e hx hy (xor_after third)
  after_is Shl s t u x y e hx hy = lift (on_words left_shift_at) _ (λ v z. after_constant Shl v) s t u x y (words_are left_shift_at) e hx hy (shl_after third)
  after_is Shr s t u x y e hx hy = lift (on_words right_shift_at) _ (λ v z. after_constant Shr v) s t u x y (words_are right_shift_at) e hx hy (shr_after third)
  after_is Udiv s t u x y e hx hy = lift (on_words quotient_at) _ (λ v z. after_constant Udiv v) s t u x y (words_are quotient_at) e hx hy (udiv_after third)
  after_is Urem s t u x y e hx hy = lift (on_words remainder_at) _ (λ v z. after_constant Urem v) s t u x y (words_are remainder_at) e hx hy (urem_after third)
  after_is Sar s t u x y e hx hy = lift (on_words arithmetic_right_shift_at) _ (λ v z. after_constant Sar v) s t u x y (words_are arithmetic_right_shift_at) e hx hy (sar_after third)
  after_is Lt s t u x y e hx hy = let o = tested s t u e in lift (test_words is_less) _ (λ v z. after_constant Lt v) s t o.0 x y (tests_are is_less) o.1 hx hy (lt_after third)
  after_is Le s t u x y e hx hy = let o = tested s t u e in lift (test_words is_less_or_same) _ (λ v z. after_constant Le v) s t o.0 x y (tests_are is_less_or_same) o.1 hx hy (le_after third)
  after_is Slt s t u x y e hx hy = let o = tested s t u e in lift (test_words is_signed_less) _ (λ v z. after_constant Slt v) s t o.0 x y (tests_are is_signed_less) o.1 hx hy (slt_after third)
  after_is Sle s t u x y e hx hy = let o = tested s t u e in lift (test_words is_signed_less_or_same) _ (λ v z. after_constant Sle v) s t o.0 x y (tests_are is_signed_less_or_same) o.1 hx hy (sle_after third)
  after_is Eq s t u x y e hx hy = eq_after s x y hx (subst (HasSort y) (sym (alike s t u e)) hy)
  after_is Ne s t u x y e hx hy = ne_after s x y hx (subst (HasSort y) (sym (alike s t u e)) hy)
  after_is And s t u x y e hx hy = bools (λ v z. after_constant And v) (λ a b. a && b) s t u x y e hx hy and_flags
  after_is Or s t u x y e hx hy = bools (λ v z. after_constant Or v) (λ a b. a || b) s t u x y e hx hy or_flags
  after_is Implies s t u x y e hx hy = bools (λ v z. after_constant Implies v) implies s t u x y e hx hy implies_flags

  -- ---- a constant second

  pub before_is : (op : Two) (s t u : Sort) (x y : Value) → two_sort op (Some s) (Some t) ≡ Some u → HasSort x s → HasSort y t → IsFolded (before_constant op y) (two_value op x y) x y third
  before_is Add s t u x y e hx hy = lift (on_words sum_at) _ (λ v z. before_constant Add z) s t u x y (words_are sum_at) e hx hy (add_before third)
  before_is Sub s t u x y e hx hy = lift (on_words difference_at) _ (λ v z. before_constant Sub z) s t u x y (words_are difference_at) e hx hy (sub_before third)
  before_is Mul s t u x y e hx hy = lift (on_words product_at) _ (λ v z. before_constant Mul z) s t u x y (words_are product_at) e hx hy (mul_before third)
  before_is BitAnd s t u x y e hx hy = lift (on_words bitwise_and_at) _ (λ v z. before_constant BitAnd z) s t u x y (words_are bitwise_and_at) e hx hy (and_before third)
  before_is BitOr s t u x y e hx hy = lift (on_words bitwise_or_at) _ (λ v z. before_constant BitOr z) s t u x y (words_are bitwise_or_at) e hx hy (or_before third)
  before_is BitXor s t u x y e hx hy = lift (on_words bitwise_xor_at) _ (λ v z. before_constant BitXor z) s t u x y (words_are bitwise_xor_at) e hx hy (xor_before third)
  before_is Shl s t u x y e hx hy = lift (on_words left_shift_at) _ (λ v z. before_constant Shl z) s t u x y (words_are left_shift_at) e hx hy (shl_before third)
  before_is Shr s t u x y e hx hy = lift (on_words right_shift_at) _ (λ v z. before_constant Shr z) s t u x y (words_are right_shift_at) e hx hy (shr_before third)
  before_is Udiv s t u x y e hx hy = lift (on_words quotient_at) _ (λ v z. before_constant Udiv z) s t u x y (words_are quotient_at) e hx hy (udiv_before third)
  before_is Urem s t u x y e hx hy = lift (on_words remainder_at) _ (λ v z. before_constant Urem z) s t u x y (words_are remainder_at) e hx hy (urem_before third)
  before_is Sar s t u x y e hx hy = lift (on_words arithmetic_right_shift_at) _ (λ v z. before_constant Sar z) s t u x y (words_are arithmetic_right_shift_at) e hx hy (sar_before third)
  before_is Lt s t u x y e hx hy = let o = tested s t u e in lift (test_words is_less) _ (λ v z. before_constant Lt z) s t o.0 x y (tests_are is_less) o.1 hx hy (lt_before third)
  before_is Le s t u x y e hx hy = let o = tested s t u e in lift (test_words is_less_or_same) _ (λ v z. before_constant Le z) s t o.0 x y (tests_are is_less_or_same) o.1 hx hy (le_before third)
  before_is Slt s t u x y e hx hy = let o = tested s t u e in lift (test_words is_signed_less) _ (λ v z. before_constant Slt z) s t o.0 x y (tests_are is_signed_less) o.1 hx hy (slt_before third)
  before_is Sle s t u x y e hx hy = let o = tested s t u e in lift (test_words is_signed_less_or_same) _ (λ v z. before_constant Sle z) s t o.0 x y (tests_are is_signed_less_or_same) o.1 hx hy (sle_before third)
  before_is Eq s t u x y e hx hy = eq_before s x y hx (subst (HasSort y) (sym (alike s t u e)) hy)
  before_is Ne s t u x y e hx hy = ne_before s x y hx (subst (HasSort y) (sym (alike s t u e)) hy)
  before_is And s t u x y e hx hy = bools (λ v z. before_constant And z) (λ a b. a && b) s t u x y e hx hy flags_and
  before_is Or s t u x y e hx hy = bools (λ v z. before_constant Or z) (λ a b. a || b) s t u x y e hx hy flags_or
  before_is Implies s t u x y e hx hy = bools (λ v z. before_constant Implies z) implies s t u x y e hx hy flags_implies

  -- ---- one operand twice

  wide : (w n : ℕ) → IsWord w n → is_width w ≡ true
  wide w n h = rw (le-leb 1 w h.narrow, le-leb w 32 h.wide) refl

  itself : (op : Two) (f : Value → Value → Value) (r : ℕ → ℕ → ℕ → Value) (s t u : Sort) (x : Value)
      → ((w m n : ℕ) → f (value.Word (w, m)) (value.Word (w, n)) ≡ r w m n)
      → words_sort (Some s) (Some t) ≡ Some u → HasSort x s
      → ((w m : ℕ) → is_width w ≡ true → m < 2 ^ w → IsFolded (with_itself op (Some (sort.Word w))) (r w m m) (value.Word (w, m)) (value.Word (w, m)) third)
      → IsFolded (with_itself op (Some s)) (f x x) x x third
  itself op f r s t u x is e hx h =
      let a = a_word (common_sort (Some s) (Some t)) u e in
      let c = common (Some s) (Some t) (sort.Word a.0) a.1 in
      let v = word_of x a.0 (given s x hx (sort.Word a.0) c.0) in
      let w = a.0 in
      let m = v.0 in
      let at : IsFolded (with_itself op (Some (sort.Word w))) (f (value.Word (w, m)) (value.Word (w, m))) (value.Word (w, m)) (value.Word (w, m)) third =
      subst (λ (k : Value). IsFolded (with_itself op (Some (sort.Word w))) k (value.Word (w, m)) (value.Word (w, m)) third) (sym (is w m m)) (h w m (wide w m v.2) v.2.fits) in
      subst (λ (o : Option Sort). IsFolded (with_itself op o) (f x x) x x third) (sym c.0)
      (subst (λ (k : Value). IsFolded (with_itself op (Some (sort.Word w))) (f k k) k k third) (sym v.1) at)

  truth : (s t u : Sort) (x : Value) → truths_sort (Some s) (Some t) ≡ Some u → HasSort x s → (b : Bool) × (x ≡ value.Bool b)
  truth s t u x e hx =
      let i = if_some (is_truth (Some s) && is_truth (Some t)) sort.Bool u e in
      let j = and_parts (is_truth (Some s)) (is_truth (Some t)) i.0 in
      bool_of x (given s x hx sort.Bool (a_truth (Some s) j.0))

  itself_is : (op : Two) (s t u : Sort) (x : Value) → two_sort op (Some s) (Some t) ≡ Some u → HasSort x s → IsFolded (with_itself op (Some s)) (two_value op x x) x x third
  itself_is Add s t u x e hx = itself Add (on_words sum_at) _ s t u x (words_are sum_at) e hx (add_itself third)
  itself_is Sub s t u x e hx = itself Sub (on_words difference_at) _ s t u x (words_are difference_at) e hx (sub_itself third)
  itself_is Mul s t u x e hx = itself Mul (on_words product_at) _ s t u x (words_are product_at) e hx (mul_itself third)
  itself_is BitAnd s t u x e hx = itself BitAnd (on_words bitwise_and_at) _ s t u x (words_are bitwise_and_at) e hx (and_with_itself third)
  itself_is BitOr s t u x e hx = itself BitOr (on_words bitwise_or_at) _ s t u x (words_are bitwise_or_at) e hx (or_with_itself third)
  itself_is BitXor s t u x e hx = itself BitXor (on_words bitwise_xor_at) _ s t u x (words_are bitwise_xor_at) e hx (xor_with_itself third)
  itself_is Shl s t u x e hx = itself Shl (on_words left_shift_at) _ s t u x (words_are left_shift_at) e hx (shl_itself third)
  itself_is Shr s t u x e hx = itself Shr (on_words right_shift_at) _ s t u x (words_are right_shift_at) e hx (shr_itself third)
  itself_is Udiv s t u x e hx = itself Udiv (on_words quotient_at) _ s t u x (words_are quotient_at) e hx (udiv_itself third)
  itself_is Urem s t u x e hx = itself Urem (on_words remainder_at) _ s t u x (words_are remainder_at) e hx (urem_itself third)
  itself_is Sar s t u x e hx = itself Sar (on_words arithmetic_right_shift_at) _ s t u x (words_are arithmetic_right_shift_at) e hx (sar_itself third)
  itself_is Lt s t u x e hx = let o = tested s t u e in itself Lt (test_words is_less) _ s t o.0 x (tests_are is_less) o.1 hx (lt_itself third)
  itself_is Le s t u x e hx = let o = tested s t u e in itself Le (test_words is_less_or_same) _ s t o.0 x (tests_are is_less_or_same) o.1 hx (le_itself third)
  itself_is Slt s t u x e hx = let o = tested s t u e in itself Slt (test_words is_signed_less) _ s t o.0 x (tests_are is_signed_less) o.1 hx (slt_itself third)
  itself_is Sle s t u x e hx = let o = tested s t u e in itself Sle (test_words is_signed_less_or_same) _ s t o.0 x (tests_are is_signed_less_or_same) o.1 hx (sle_itself third)
  itself_is Eq s t u x e hx = ap (λ (b : Bool). value.Bool b) ((same_is_equality x x).1 refl)
  itself_is Ne s t u x e hx = ap (λ (b : Bool). value.Bool (not b)) ((same_is_equality x x).1 refl)
  itself_is And s t u x e hx = let b = truth s t u x e hx in ap (λ (v : Value). on_bools (λ a b. a && b) v v) b.1 ∙ same_and b.0 b.0 refl ∙ sym b.1
  itself_is Or s t u x e hx = let b = truth s t u x e hx in ap (λ (v : Value). on_bools (λ a b. a || b) v v) b.1 ∙ same_or b.0 b.0 refl ∙ sym b.1
  itself_is Implies s t u x e hx = let b = truth s t u x e hx in ap (λ (v : Value). on_bools implies v v) b.1 ∙ same_implies b.0

  -- ---- all of them

  same_is : (op : Two) (s t u : Sort) (x y : Value) (same : Bool) → two_sort op (Some s) (Some t) ≡ Some u → HasSort x s → AreSame same x y → IsFolded (when same (with_itself op (Some s))) (two_value op x y) x y third
  same_is op s t u x y true e hx h = subst (λ (v : Value). IsFolded (with_itself op (Some s)) (two_value op x v) x v third) (h refl) (itself_is op s t u x e hx)
  same_is op s t u x y false e hx h = tt

pub twos_keep_values : TwosKeepValues
twos_keep_values op s t u x y z None None same e hx hy kx ky h = same_is z op s t u x y same e hx h
twos_keep_values op s t u x y z None (Some k) same e hx hy kx ky h =
    subst (λ (v : Value). IsFolded (before_constant op v) (two_value op x y) x y z) ky (before_is z op s t u x y e hx hy)
twos_keep_values op s t u x y z (Some k) None same e hx hy kx ky h =
    subst (λ (v : Value). IsFolded (after_constant op v) (two_value op x y) x y z) kx (after_is z op s t u x y e hx hy)
twos_keep_values op s t u x y z (Some k) (Some l) same e hx hy kx ky h = ap₂ (two_value op) kx ky
