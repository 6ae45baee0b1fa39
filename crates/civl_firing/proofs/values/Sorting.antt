-- The value of each operator has its sort.
use Rattle.std.proofs.Common.{◌≡◌, ℕ, ◌+◌, ◌-◌, ◌^◌, ◌<◌, ◌/◌, Bool, true, false, ◌&&◌, ◌||◌, refl, sym, ap, ◌∙◌, subst, arith, Option, Some, None, get_or}
use Rattle.std.specs.Prelude.{nat_lt, nat_le, nat_eq, if◌then◌else◌, not}
use Rattle.std.proofs.lemmas.Bool.{false≢true, eqb-true, ltb-true, leb-true, eq-eqb, and_parts}
use Rattle.std.proofs.lemmas.List.{length-replicate, get_or-replicate}
use Rattle.std.proofs.lemmas.Nat.{pow_pos, mod_below}
use Rattle.civl_bits.specs.Word.{IsWord, sum_at, difference_at, product_at, negative_at, quotient_at, remainder_at, bitwise_and_at, bitwise_or_at, bitwise_xor_at, complement_at, left_shift_at, right_shift_at, arithmetic_right_shift_at, slice_of, concatenation_at}
use Rattle.civl_bits.specs.Row.{Cells, IsRow, filled_row}
use Rattle.civl_bits.specs.Value.{same_value}
use Rattle.civl_bits.specs.declared.value.Value.{Value}
use Rattle.civl_bits.specs.declared.value.Value.TheVariants as value
use Rattle.civl_bits.proofs.Widths.{results_fit, concatenation-lt}
use Rattle.civl_bits.proofs.Powers.{below_wider}
use Rattle.civl_bits.proofs.Cells.{IsRow-with}
use Rattle.civl_tree.specs.declared.expr.Sort.{Sort}
use Rattle.civl_tree.specs.declared.expr.Sort.TheVariants.{Bool as Truth, Word, Row}
use Rattle.civl_tree.specs.declared.expr.One.{One}
use Rattle.civl_tree.specs.declared.expr.One.TheVariants.{Not, Flip, Minus}
use Rattle.civl_tree.specs.declared.expr.Two.{Two}
use Rattle.civl_tree.specs.declared.expr.Two.TheVariants.{Add, Sub, Mul, BitAnd, BitOr, BitXor, Shl, Shr, Lt, Le, Eq, Ne, And, Or, Implies, Udiv, Urem, Slt, Sle, Sar}
use Rattle.civl_tree.specs.rules.Sorts.{same_sort, is_truth, is_word, word_sort, common_sort, words_sort, truth_over, truths_sort, slice_fits, widen_fits, join_fits, one_sort, two_sort, pick_sort, get_sort, set_sort, fill_sort, slice_sort, widen_sort, join_sort}
use Rattle.civl_tree.specs.rules.Exprs.{is_width, is_index, literal_fits}
use Rattle.civl_firing.specs.values.Operators.{literal_value, one_value, on_word, on_words, test_words, on_bools, is_less, is_less_or_same, is_signed_less, is_signed_less_or_same, implies, two_value, pick_value, get_value, set_value, fill_value, slice_value, widen_value, join_value}
use Rattle.civl_firing.specs.values.Values.{HasSort}

-- ---- sorts that are there

pub if_some : {A : Type 0} (c : Bool) (a s : A) → (if c then Some a else None) ≡ Some s → (c ≡ true) × (a ≡ s)
if_some true a s e = (refl, cc)
if_some false a s e = absurd (cc)

pub same_sort-true : (t u : Sort) → same_sort t u ≡ true → t ≡ u
same_sort-true Truth Truth e = refl
same_sort-true Truth (Word w) e = absurd (false≢true e)
same_sort-true Truth (Row i w) e = absurd (false≢true e)
same_sort-true (Word v) Truth e = absurd (false≢true e)
same_sort-true (Word v) (Word w) e = ap (λ (n : ℕ). Word n) (eqb-true v w e)
same_sort-true (Word v) (Row i w) e = absurd (false≢true e)
same_sort-true (Row i v) Truth e = absurd (false≢true e)
same_sort-true (Row i v) (Word w) e = absurd (false≢true e)
same_sort-true (Row i v) (Row j w) e =
    let h = and_parts (nat_eq i j) (nat_eq v w) e in
    ap (λ (n : ℕ). Row n v) (eqb-true i j h.0) ∙ ap (λ (n : ℕ). Row j n) (eqb-true v w h.1)

-- a sort that two parts have in common
pub common : (o p : Option Sort) (s : Sort) → common_sort o p ≡ Some s → (o ≡ Some s) × (p ≡ Some s)
common None p s e = absurd (cc)
common (Some t) None s e = absurd (cc)
common (Some t) (Some u) s e =
    let h = if_some (same_sort t u) t s e in
    let q = same_sort-true t u h.0 in
    (ap (λ (r : Sort). Some r) h.1, ap (λ (r : Sort). Some r) (sym q ∙ h.1))

pub a_word : (o : Option Sort) (s : Sort) → word_sort o ≡ Some s → (w : ℕ) × (o ≡ Some (Word w)) × (Word w ≡ s)
a_word None s e = absurd (cc)
a_word (Some Truth) s e = absurd (cc)
a_word (Some (Word w)) s e = (w, refl, cc)
a_word (Some (Row i w)) s e = absurd (cc)

pub a_truth : (o : Option Sort) → is_truth o ≡ true → o ≡ Some Truth
a_truth None e = absurd (false≢true e)
a_truth (Some Truth) e = refl
a_truth (Some (Word w)) e = absurd (false≢true e)
a_truth (Some (Row i w)) e = absurd (false≢true e)

pub of_width : (w : ℕ) (o : Option Sort) → is_word w o ≡ true → o ≡ Some (Word w)
of_width w None e = absurd (false≢true e)
of_width w (Some Truth) e = absurd (false≢true e)
of_width w (Some (Word v)) e = ap (λ (n : ℕ). Some (Word n)) (sym (eqb-true w v e))
of_width w (Some (Row i v)) e = absurd (false≢true e)

pub over : (o : Option Sort) (s : Sort) → truth_over o ≡ Some s → (t : Sort) × (o ≡ Some t) × (Truth ≡ s)
over None s e = absurd (cc)
over (Some t) s e = (t, refl, cc)

-- ---- values of a sort

pub bool_of : (x : Value) → HasSort x Truth → (b : Bool) × (x ≡ value.Bool b)
bool_of (value.Bool b) h = (b, refl)
bool_of (value.Word a) h = absurd (false≢true h.1)
bool_of (value.Row r) h = absurd (false≢true h.1)

pub word_of : (x : Value) (w : ℕ) → HasSort x (Word w) → (n : ℕ) × (x ≡ value.Word (w, n)) × IsWord w n
word_of (value.Bool b) w h = absurd (false≢true h.1)
word_of (value.Word a) w h =
    let e : a.0 ≡ w = eqb-true a.0 w h.1 in
    (a.1, ap (λ (v : ℕ). value.Word (v, a.1)) e, subst (λ (v : ℕ). IsWord v a.1) e h.0)
word_of (value.Row r) w h = absurd (false≢true h.1)

pub row_of : (x : Value) (i w : ℕ) → HasSort x (Row i w) → (r : Cells) × (x ≡ value.Row r) × IsRow r × (r.index ≡ i) × (r.width ≡ w)
row_of (value.Bool b) i w h = absurd (false≢true h.1)
row_of (value.Word a) i w h = absurd (false≢true h.1)
row_of (value.Row r) i w h =
    let e = and_parts (nat_eq r.index i) (nat_eq r.width w) h.1 in
    (r, refl, h.0, eqb-true r.index i e.0, eqb-true r.width w e.1)

pub is_bool : (b : Bool) → HasSort (value.Bool b) Truth
is_bool b = (tt, refl)

pub is_a_word : (w n : ℕ) → IsWord w n → HasSort (value.Word (w, n)) (Word w)
is_a_word w n h = (h, eq-eqb w w refl)

pub is_a_row : (r : Cells) (i w : ℕ) → IsRow r → r.index ≡ i → r.width ≡ w → HasSort (value.Row r) (Row i w)
is_a_row r i w h e f = (h, rw (eq-eqb r.index i e, eq-eqb r.width w f) refl)

-- ---- an operation on one part, which has a value of its sort

abbrev pub Given : Option Sort → Value → Type 0
Given o x = (t : Sort) → o ≡ Some t → HasSort x t

pub given_bool : (o : Option Sort) (x : Value) → Given o x → is_truth o ≡ true → (b : Bool) × (x ≡ value.Bool b)
given_bool o x g e = bool_of x (g Truth (a_truth o e))

not_fits : (x : Value) (b : Bool) → x ≡ value.Bool b → HasSort (one_value Not x) Truth
not_fits x b e = subst (λ (v : Value). HasSort (one_value Not v) Truth) (sym e) (is_bool (not b))

word_fits : (f : ℕ → ℕ → ℕ) → ((w n : ℕ) → n < 2 ^ w → f w n < 2 ^ w) → (o : Option Sort) (x : Value) → Given o x → (s : Sort) → word_sort o ≡ Some s → HasSort (on_word f x) s
word_fits f fits o x g s e =
    let a = a_word o s e in
    let v = word_of x a.0 (g (Word a.0) a.1) in
    let h : HasSort (on_word f (value.Word (a.0, v.0))) (Word a.0) = is_a_word a.0 (f a.0 v.0) (record { narrow = v.2.narrow; wide = v.2.wide; fits = fits a.0 v.0 v.2.fits }) in
    subst (HasSort (on_word f x)) a.2 (subst (λ (y : Value). HasSort (on_word f y) (Word a.0)) (sym v.1) h)

pub one_fits : (op : One) (o : Option Sort) (x : Value) → Given o x → (s : Sort) → one_sort op o ≡ Some s → HasSort (one_value op x) s
one_fits Not o x g s e =
    let h = if_some (is_truth o) Truth s e in
    let b = given_bool o x g h.0 in
    subst (HasSort (one_value Not x)) h.1 (not_fits x b.0 b.1)
one_fits Flip o x g s e = word_fits complement_at (λ w n h. (results_fit w n n h h).complement) o x g s e
one_fits Minus o x g s e = word_fits negative_at (λ w n h. (results_fit w n n h h).negative) o x g s e

-- ---- on two parts

pub two_words : (o p : Option Sort) (x y : Value) → Given o x → Given p y → (s : Sort) → words_sort o p ≡ Some s → (w m n : ℕ) × (x ≡ value.Word (w, m)) × (y ≡ value.Word (w, n)) × IsWord w m × IsWord w n × (Word w ≡ s)
two_words o p x y g h s e =
    let a = a_word (common_sort o p) s e in
    let c = common o p (Word a.0) a.1 in
    let u = word_of x a.0 (g (Word a.0) c.0) in
    let v = word_of y a.0 (h (Word a.0) c.1) in
    (a.0, u.0, v.0, u.1, v.1, u.2, v.2, a.2)

pub words_are : (f : ℕ → ℕ → ℕ → ℕ) (w m n : ℕ) → on_words f (value.Word (w, m)) (value.Word (w, n)) ≡ value.Word (w, f w m n)
words_are f w m n = rw (eq-eqb w w refl) refl

pub tests_are : (f : ℕ → ℕ → ℕ → Bool) (w m n : ℕ) → test_words f (value.Word (w, m)) (value.Word (w, n)) ≡ value.Bool (f w m n)
tests_are f w m n = rw (eq-eqb w w refl) refl

abbrev Fits : (ℕ → ℕ → ℕ → ℕ) → Type 0
Fits f = (w a b : ℕ) → a < 2 ^ w → b < 2 ^ w → f w a b < 2 ^ w

words_fit : (f : ℕ → ℕ → ℕ → ℕ) → Fits f → (o p : Option Sort) (x y : Value) → Given o x → Given p y → (s : Sort) → words_sort o p ≡ Some s → HasSort (on_words f x y) s
words_fit f fits o p x y g h s e =
    let d = two_words o p x y g h s e in
    let w = d.0 in
    let r = ap (λ (v : Value). on_words f v y) d.3 ∙ ap (λ (v : Value). on_words f (value.Word (w, d.1)) v) d.4 ∙ words_are f w d.1 d.2 in
    let k = is_a_word w (f w d.1 d.2) (record { narrow = d.5.narrow; wide = d.5.wide; fits = fits w d.1 d.2 d.5.fits d.6.fits }) in
    subst (HasSort (on_words f x y)) d.7 (subst (λ (v : Value). HasSort v (Word w)) (sym r) k)

tests_fit : (f : ℕ → ℕ → ℕ → Bool) (o p : Option Sort) (x y : Value) → Given o x → Given p y → (s : Sort) → truth_over (words_sort o p) ≡ Some s → HasSort (test_words f x y) s
tests_fit f o p x y g h s e =
    let t = over (words_sort o p) s e in
    let d = two_words o p x y g h t.0 t.1 in
    let w = d.0 in
    let r = ap (λ (v : Value). test_words f v y) d.3 ∙ ap (λ (v : Value). test_words f (value.Word (w, d.1)) v) d.4 ∙ tests_are f w d.1 d.2 in
    subst (HasSort (test_words f x y)) t.2 (subst (λ (v : Value). HasSort v Truth) (sym r) (is_bool (f w d.1 d.2)))

bools_fit : (f : Bool → Bool → Bool) (o p : Option Sort) (x y : Value) → Given o x → Given p y → (s : Sort) → truths_sort o p ≡ Some s → HasSort (on_bools f x y) s
bools_fit f o p x y g h s e =
    let i = if_some (is_truth o && is_truth p) Truth s e in
    let j = and_parts (is_truth o) (is_truth p) i.0 in
    let a = given_bool o x g j.0 in
    let b = given_bool p y h j.1 in
    let r = ap (λ (v : Value). on_bools f v y) a.1 ∙ ap (λ (v : Value). on_bools f (value.Bool a.0) v) b.1 in
    subst (HasSort (on_bools f x y)) i.1 (subst (λ (v : Value). HasSort v Truth) (sym r) (is_bool (f a.0 b.0)))

equal_fits : (b : Bool) (o : Option Sort) (s : Sort) → truth_over o ≡ Some s → HasSort (value.Bool b) s
equal_fits b o s e = subst (HasSort (value.Bool b)) (over o s e).2 (is_bool b)

pub two_fits : (op : Two) (o p : Option Sort) (x y : Value) → Given o x → Given p y → (s : Sort) → two_sort op o p ≡ Some s → HasSort (two_value op x y) s
two_fits Add o p x y g h s e = words_fit sum_at (λ w a b i j. (results_fit w a b i j).sum) o p x y g h s e
two_fits Sub o p x y g h s e = words_fit difference_at (λ w a b i j. (results_fit w a b i j).difference) o p x y g h s e
two_fits Mul o p x y g h s e = words_fit product_at (λ w a b i j. (results_fit w a b i j).product) o p x y g h s e
two_fits BitAnd o p x y g h s e = words_fit bitwise_and_at (λ w a b i j. (results_fit w a b i j).bitwise_and) o p x y g h s e
two_fits BitOr o p x y g h s e = words_fit bitwise_or_at (λ w a b i j. (results_fit w a b i j).bitwise_or) o p x y g h s e
two_fits BitXor o p x y g h s e = words_fit bitwise_xor_at (λ w a b i j. (results_fit w a b i j).bitwise_xor) o p x y g h s e
two_fits Shl o p x y g h s e = words_fit left_shift_at (λ w a b i j. (results_fit w a b i j).left_shift) o p x y g h s e
two_fits Shr o p x y g h s e = words_fit right_shift_at (λ w a b i j. (results_fit w a b i j).right_shift) o p x y g h s e
two_fits Lt o p x y g h s e = tests_fit is_less o p x y g h s e
two_fits Le o p x y g h s e = tests_fit is_less_or_same o p x y g h s e
two_fits Eq o p x y g h s e = equal_fits (same_value x y) (common_sort o p) s e
two_fits Ne o p x y g h s e = equal_fits (not (same_value x y)) (common_sort o p) s e
two_fits And o p x y g h s e = bools_fit (λ a b. a && b) o p x y g h s e
two_fits Or o p x y g h s e = bools_fit (λ a b. a || b) o p x y g h s e
two_fits Implies o p x y g h s e = bools_fit implies o p x y g h s e
two_fits Udiv o p x y g h s e = words_fit quotient_at (λ w a b i j. (results_fit w a b i j).quotient) o p x y g h s e
two_fits Urem o p x y g h s e = words_fit remainder_at (λ w a b i j. (results_fit w a b i j).remainder) o p x y g h s e
two_fits Slt o p x y g h s e = tests_fit is_signed_less o p x y g h s e
two_fits Sle o p x y g h s e = tests_fit is_signed_less_or_same o p x y g h s e
two_fits Sar o p x y g h s e = words_fit arithmetic_right_shift_at (λ w a b i j. (results_fit w a b i j).arithmetic_right_shift) o p x y g h s e

-- ---- the others

chosen : (b : Bool) (x y : Value) (s : Sort) → HasSort x s → HasSort y s → HasSort (if b then x else y) s
chosen true x y s h k = h
chosen false x y s h k = k

pub pick_fits : (c o p : Option Sort) (z x y : Value) → Given c z → Given o x → Given p y → (s : Sort) → pick_sort c o p ≡ Some s → HasSort (pick_value z x y) s
pick_fits c o p z x y f g h s e =
    let i = picked (is_truth c) (common_sort o p) s e in
    let b = given_bool c z f i.0 in
    let q = common o p s i.1 in
    subst (λ (v : Value). HasSort (pick_value v x y) s) (sym b.1) (chosen b.0 x y s (g s q.0) (h s q.1))
  where
    picked : (d : Bool) (r : Option Sort) (t : Sort) → (if d then r else None) ≡ Some t → (d ≡ true) × (r ≡ Some t)
    picked true r t k = (refl, k)
    picked false r t k = absurd (cc)

pub literal_has_sort : (n w : ℕ) → literal_fits n w ≡ true → HasSort (literal_value n w) (Word w)
literal_has_sort n w e =
    let h = within (is_width w) (nat_lt n (2 ^ w)) e in
    let k = and_parts (nat_le 1 w) (nat_le w 32) h.0 in
    let i : IsWord w n = record { narrow = leb-true 1 w k.0; wide = leb-true w 32 k.1; fits = ltb-true n (2 ^ w) h.1 } in
    let r : literal_value n w ≡ value.Word (w, n) = rw (h.0, h.1) refl in
    subst (λ (v : Value). HasSort v (Word w)) (sym r) (is_a_word w n i)
  where
    within : (a b : Bool) → (if a then b else false) ≡ true → (a ≡ true) × (b ≡ true)
    within true b k = (refl, k)
    within false b k = absurd (false≢true k)

get_row : (r : Cells) (i w n : ℕ) → IsRow r → r.index ≡ i → r.width ≡ w → IsWord i n → HasSort (get_value (value.Row r) (value.Word (i, n))) (Word w)
get_row r i w n h e f k =
    let q : i ≡ r.index = sym e in
    let below : n < 2 ^ r.index = subst (λ (j : ℕ). n < 2 ^ j) q k.fits in
    let c = get_or r.cells n 0 in
    let s = is_a_word r.width c (record { narrow = h.narrow; wide = h.wide; fits = h.fits n below }) in
    subst (λ (v : ℕ). HasSort (get_value (value.Row r) (value.Word (i, n))) (Word v)) f (rw (eq-eqb i r.index q) s)

pub get_fits : (o p : Option Sort) (x y : Value) → Given o x → Given p y → (s : Sort) → get_sort o p ≡ Some s → HasSort (get_value x y) s
get_fits None p x y g h s e = absurd (cc)
get_fits (Some Truth) p x y g h s e = absurd (cc)
get_fits (Some (Word w)) p x y g h s e = absurd (cc)
get_fits (Some (Row i w)) p x y g h s e =
    let k = if_some (is_word i p) (Word w) s e in
    let r = row_of x i w (g (Row i w) refl) in
    let n = word_of y i (h (Word i) (of_width i p k.0)) in
    let v = get_row r.0 i w n.0 r.2 r.3 r.4 n.2 in
    subst (HasSort (get_value x y)) k.1 (subst (λ (a : Value). HasSort (get_value a y) (Word w)) (sym r.1) (subst (λ (a : Value). HasSort (get_value (value.Row r.0) a) (Word w)) (sym n.1) v))

set_row : (r : Cells) (i w n m : ℕ) → IsRow r → r.index ≡ i → r.width ≡ w → IsWord i n → IsWord w m → HasSort (set_value (value.Row r) (value.Word (i, n)) (value.Word (w, m))) (Row i w)
set_row r i w n m h e f k l =
    let q : i ≡ r.index = sym e in
    let t : w ≡ r.width = sym f in
    let below : n < 2 ^ r.index = subst (λ (j : ℕ). n < 2 ^ j) q k.fits in
    let small : m < 2 ^ r.width = subst (λ (j : ℕ). m < 2 ^ j) t l.fits in
    let row = IsRow-with r n m h below small in
    rw (eq-eqb i r.index q, eq-eqb w r.width t) (row, rw (eq-eqb r.index i e, eq-eqb r.width w f) refl)

pub set_fits : (o p c : Option Sort) (x y z : Value) → Given o x → Given p y → Given c z → (s : Sort) → set_sort o p c ≡ Some s → HasSort (set_value x y z) s
set_fits None p c x y z g h f s e = absurd (cc)
set_fits (Some Truth) p c x y z g h f s e = absurd (cc)
set_fits (Some (Word w)) p c x y z g h f s e = absurd (cc)
set_fits (Some (Row i w)) p c x y z g h f s e =
    let k = if_some (is_word i p && is_word w c) (Row i w) s e in
    let j = and_parts (is_word i p) (is_word w c) k.0 in
    let r = row_of x i w (g (Row i w) refl) in
    let n = word_of y i (h (Word i) (of_width i p j.0)) in
    let m = word_of z w (f (Word w) (of_width w c j.1)) in
    let v = set_row r.0 i w n.0 m.0 r.2 r.3 r.4 n.2 m.2 in
    let t = ap (λ (a : Value). set_value a y z) r.1 ∙ ap (λ (a : Value). set_value (value.Row r.0) a z) n.1 ∙ ap (λ (a : Value). set_value (value.Row r.0) (value.Word (i, n.0)) a) m.1 in
    subst (HasSort (set_value x y z)) k.1 (subst (λ (a : Value). HasSort a (Row i w)) (sym t) v)

filled : (i w n : ℕ) → is_index i ≡ true → IsWord w n → IsRow (filled_row i w n)
filled i w n e h =
    let k = and_parts (nat_le 1 i) (nat_le i 6) e in
    record {
      low = leb-true 1 i k.0;
      high = leb-true i 6 k.1;
      narrow = h.narrow;
      wide = h.wide;
      size = length-replicate (2 ^ i) n;
      fits = λ j l. subst (λ (c : ℕ). c < 2 ^ w) (sym (get_or-replicate (2 ^ i) j n 0 l)) h.fits;
    }

pub fill_fits : (i : ℕ) (o : Option Sort) (x : Value) → Given o x → is_index i ≡ true → (s : Sort) → fill_sort i o ≡ Some s → HasSort (fill_value i x) s
fill_fits i None x g q s e = absurd (cc)
fill_fits i (Some Truth) x g q s e = absurd (cc)
fill_fits i (Some (Word w)) x g q s e =
    let f : Row i w ≡ s = cc in
    let n = word_of x w (g (Word w) refl) in
    let v = is_a_row (filled_row i w n.0) i w (filled i w n.0 q n.2) refl refl in
    let r : fill_value i (value.Word (w, n.0)) ≡ value.Row (filled_row i w n.0) = rw q refl in
    subst (HasSort (fill_value i x)) f (subst (λ (a : Value). HasSort a (Row i w)) (sym (ap (fill_value i) n.1 ∙ r)) v)
fill_fits i (Some (Row j w)) x g q s e = absurd (cc)

sliced : (w n high low : ℕ) → IsWord w n → slice_fits w high low ≡ true → HasSort (slice_value (value.Word (w, n)) high low) (Word (high - low + 1))
sliced w n high low h e =
    let k = and_parts (nat_le low high) (nat_lt high w) e in
    let l = leb-true low high k.0 in
    let u = ltb-true high w k.1 in
    let wide = h.wide in
    let d = high - low + 1 in
    let v = is_a_word d (slice_of n high low) (record { narrow = omega arith; wide = omega arith; fits = mod_below (n / 2 ^ low) (2 ^ d) (pow_pos d) }) in
    rw (k.0, k.1) v

pub slice_has_sort : (o : Option Sort) (x : Value) (high low : ℕ) → Given o x → (s : Sort) → slice_sort o high low ≡ Some s → HasSort (slice_value x high low) s
slice_has_sort None x high low g s e = absurd (cc)
slice_has_sort (Some Truth) x high low g s e = absurd (cc)
slice_has_sort (Some (Word w)) x high low g s e =
    let k = if_some (slice_fits w high low) (Word (high - low + 1)) s e in
    let n = word_of x w (g (Word w) refl) in
    subst (HasSort (slice_value x high low)) k.1 (subst (λ (a : Value). HasSort (slice_value a high low) (Word (high - low + 1))) (sym n.1) (sliced w n.0 high low n.2 k.0))
slice_has_sort (Some (Row i w)) x high low g s e = absurd (cc)

widened : (w n wider : ℕ) → IsWord w n → widen_fits w wider ≡ true → HasSort (widen_value (value.Word (w, n)) wider) (Word wider)
widened w n wider h e =
    let k = and_parts (nat_le w wider) (nat_le wider 32) e in
    let l = leb-true w wider k.0 in
    let u = leb-true wider 32 k.1 in
    let narrow = h.narrow in
    let v = is_a_word wider n (record { narrow = omega arith; wide = u; fits = below_wider n w wider h.fits l }) in
    rw (k.0, k.1) v

pub widen_has_sort : (o : Option Sort) (x : Value) (wider : ℕ) → Given o x → (s : Sort) → widen_sort o wider ≡ Some s → HasSort (widen_value x wider) s
widen_has_sort None x wider g s e = absurd (cc)
widen_has_sort (Some Truth) x wider g s e = absurd (cc)
widen_has_sort (Some (Word w)) x wider g s e =
    let k = if_some (widen_fits w wider) (Word wider) s e in
    let n = word_of x w (g (Word w) refl) in
    subst (HasSort (widen_value x wider)) k.1 (subst (λ (a : Value). HasSort (widen_value a wider) (Word wider)) (sym n.1) (widened w n.0 wider n.2 k.0))
widen_has_sort (Some (Row i w)) x wider g s e = absurd (cc)

joined : (w k n m : ℕ) → IsWord w n → IsWord k m → join_fits w k ≡ true → HasSort (join_value (value.Word (w, n)) (value.Word (k, m))) (Word (w + k))
joined w k n m h l e =
    let u = leb-true (w + k) 32 e in
    let narrow = h.narrow in
    let v = is_a_word (w + k) (concatenation_at k n m) (record { narrow = omega arith; wide = u; fits = concatenation-lt w k n m h.fits l.fits }) in
    rw e v

pub join_has_sort : (o p : Option Sort) (x y : Value) → Given o x → Given p y → (s : Sort) → join_sort o p ≡ Some s → HasSort (join_value x y) s
join_has_sort None p x y g h s e = absurd (cc)
join_has_sort (Some Truth) p x y g h s e = absurd (cc)
join_has_sort (Some (Row i w)) p x y g h s e = absurd (cc)
join_has_sort (Some (Word w)) None x y g h s e = absurd (cc)
join_has_sort (Some (Word w)) (Some Truth) x y g h s e = absurd (cc)
join_has_sort (Some (Word w)) (Some (Row i k)) x y g h s e = absurd (cc)
join_has_sort (Some (Word w)) (Some (Word k)) x y g h s e =
    let i = if_some (join_fits w k) (Word (w + k)) s e in
    let n = word_of x w (g (Word w) refl) in
    let m = word_of y k (h (Word k) refl) in
    let v = joined w k n.0 m.0 n.2 m.2 i.0 in
    let t = ap (λ (a : Value). join_value a y) n.1 ∙ ap (λ (a : Value). join_value (value.Word (w, n.0)) a) m.1 in
    subst (HasSort (join_value x y)) i.1 (subst (λ (a : Value). HasSort a (Word (w + k))) (sym t) v)
