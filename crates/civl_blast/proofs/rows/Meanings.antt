-- The cells of the values of operations.
use Rattle.std.proofs.Common.{◌≡◌, ℕ, zero, suc, ◌+◌, ◌*◌, ◌-◌, ◌/◌, ◌%◌, ◌^◌, ◌<◌, ◌≤◌, Bool, true, false, not, ◌&&◌, ◌||◌, nat_eq, List, [], ◌∷◌, length, get_or, set, refl, sym, ap, ap₂, ◌∙◌, arith, Some, IsTrue, inl, inr, leb, ltb}
use Rattle.std.specs.Prelude.{if◌then◌else◌}
use Rattle.std.specs.Cmp.Lexicographic.{pointwise}
use Rattle.std.proofs.lemmas.Bool.{false≢true, cases_eq, cases_Bool, eq-eqb, ne_eqb, eqb-true, eqb-false, le-leb, lt-ltb, and_parts}
use Rattle.std.proofs.lemmas.Nat.{pow_pos, mod-pow-add, mod_below}
use Rattle.std.proofs.lemmas.List.{get_or-replicate, get_or-set_same, get_or-set_other}
use Rattle.std.proofs.Math.Nat.{pow-suc, mod-eq_of_lt}
use Rattle.civl_bits.specs.Word.{same_word, slice_of}
use Rattle.civl_bits.specs.Row.{Cells, IsRow, cell_at, same_row, row_with, filled_row}
use Rattle.civl_bits.specs.Value.{same_value}
use Rattle.civl_bits.specs.declared.value.Value.{Value}
use Rattle.civl_bits.specs.declared.value.Value.TheVariants as value
use Rattle.civl_tree.specs.declared.expr.Sort.{Sort}
use Rattle.civl_tree.specs.declared.expr.Sort.TheVariants as sort
use Rattle.civl_tree.specs.declared.expr.Two.{Two}
use Rattle.civl_tree.specs.declared.expr.Two.TheVariants.{Eq, Ne, And, Or}
use Rattle.civl_firing.specs.values.Operators.{nothing, two_value, pick_value, get_value, set_value, fill_value}
use Rattle.civl_tree.specs.rules.Exprs.{is_index}
use Rattle.civl_tree.proofs.Bools.{same_truth}
use Rattle.civl_firing.specs.values.Values.{HasSort}
use Rattle.civl_firing.proofs.values.Sorting.{bool_of, word_of, row_of}
use Rattle.civl_blast.specs.reach.Reaching.{is_plain}
use Rattle.civl_blast.specs.rows.Cells.{cell_of, cells_in}
use Rattle.civl_blast.specs.inner.rows.Making.{bit_value, written, chosen, joined}

-- a bool or a word is its own only cell
pub cell_plain : (v : Value) (s : Sort) (c : ℕ) → HasSort v s → IsTrue (is_plain (Some s)) → cell_of v c ≡ v
cell_plain (value.Bool b) s c h p = refl
cell_plain (value.Word a) s c h p = refl
cell_plain (value.Row r) sort.Bool c h p = absurd (false≢true h.1)
cell_plain (value.Row r) (sort.Word w) c h p = absurd (false≢true h.1)
cell_plain (value.Row r) (sort.Row k w) c h p = absurd (false≢true p)

-- ---- choices

cell_pick : (b : Bool) (x y : Value) (c : ℕ) → cell_of (pick_value (value.Bool b) x y) c ≡ pick_value (value.Bool b) (cell_of x c) (cell_of y c)
cell_pick true x y c = refl
cell_pick false x y c = refl

pub cells_pick : (t x y : Value) (c : ℕ) → HasSort t sort.Bool → cell_of (pick_value t x y) c ≡ pick_value t (cell_of x c) (cell_of y c)
cells_pick t x y c h =
    let b = bool_of t h in
    ap (λ (v : Value). cell_of (pick_value v x y) c) b.1 ∙ cell_pick b.0 x y c ∙ ap (λ (v : Value). pick_value v (cell_of x c) (cell_of y c)) (sym b.1)

-- ---- writes

both_true : {a b : Bool} → a ≡ true → b ≡ true → (a && b) ≡ true
both_true {a} {b} e f = ap (λ (z : Bool). z && b) e ∙ f

if_yes : (t : Bool) (x y : Value) → t ≡ true → (if t then x else y) ≡ x
if_yes true x y e = refl
if_yes false x y e = absurd (false≢true e)

if_no : (t : Bool) (x y : Value) → t ≡ false → (if t then x else y) ≡ y
if_no false x y e = refl
if_no true x y e = absurd (false≢true (sym e))

write_words : (r : Cells) (k w n m c : ℕ) → IsRow r → r.index ≡ k → r.width ≡ w → c < 2 ^ k → cell_of (set_value (value.Row r) (value.Word (k, n)) (value.Word (w, m))) c ≡ written k (value.Word (k, n)) (value.Word (w, m)) c (cell_of (value.Row r) c)
write_words r k w n m c row ek ew l =
    ap (λ (v : Value). cell_of v c) (if_yes (nat_eq k r.index && nat_eq w r.width) (value.Row (row_with r n m)) nothing (both_true (eq-eqb k r.index (sym ek)) (eq-eqb w r.width (sym ew))))
    ∙ elim (cases_eq c n) [
      | inl e ↦
          let on : same_word (k, c) (k, n) ≡ true = both_true (eq-eqb k k refl) (eq-eqb c n e) in
          ap (λ (i : ℕ). value.Word (r.width, get_or (set r.cells n m) i 0)) e
          ∙ ap (λ (x : ℕ). value.Word (r.width, x)) (get_or-set_same r.cells n m 0 (omega (arith, row.size, ap (λ (j : ℕ). 2 ^ j) ek)))
          ∙ ap (λ (x : ℕ). value.Word (x, m)) ew
          ∙ sym (if_yes (same_word (k, c) (k, n)) (value.Word (w, m)) (value.Word (r.width, cell_at r c)) on)
      | inr d ↦
          let off : same_word (k, c) (k, n) ≡ false = ap (λ (z : Bool). z && nat_eq c n) (eq-eqb k k refl) ∙ ne_eqb c n d in
          ap (λ (x : ℕ). value.Word (r.width, x)) (get_or-set_other r.cells n c m 0 d)
          ∙ sym (if_no (same_word (k, c) (k, n)) (value.Word (w, m)) (value.Word (r.width, cell_at r c)) off)
    ]

pub cells_write : (x i v : Value) (k w c : ℕ) → HasSort x (sort.Row k w) → HasSort i (sort.Word k) → HasSort v (sort.Word w) → c < 2 ^ k → cell_of (set_value x i v) c ≡ written k i v c (cell_of x c)
cells_write x i v k w c hx hi hv l =
    let r = row_of x k w hx in
    let n = word_of i k hi in
    let m = word_of v w hv in
    ap (λ (z : Value). cell_of (set_value z i v) c) r.1
    ∙ ap₂ (λ (y z : Value). cell_of (set_value (value.Row r.0) y z) c) n.1 m.1
    ∙ write_words r.0 k w n.0 m.0 c r.2 r.3 r.4 l
    ∙ ap₂ (λ (y z : Value). written k y z c (cell_of (value.Row r.0) c)) (sym n.1) (sym m.1)
    ∙ ap (λ (z : Value). written k i v c (cell_of z c)) (sym r.1)

-- ---- fills

pub cells_fill : (k : ℕ) (v : Value) (w c : ℕ) → HasSort v (sort.Word w) → is_index k ≡ true → c < 2 ^ k → cell_of (fill_value k v) c ≡ v
cells_fill k v w c h e l =
    let m = word_of v w h in
    ap (λ (z : Value). cell_of (fill_value k z) c) m.1
    ∙ ap (λ (z : Value). cell_of z c) (if_yes (is_index k) (value.Row (filled_row k w m.0)) nothing e)
    ∙ ap (λ (x : ℕ). value.Word (w, x)) (get_or-replicate (2 ^ k) c m.0 0 l)
    ∙ sym m.1

-- ---- reads

bit_is : (k n j : ℕ) → j < k → bit_value (value.Word (k, n)) j ≡ value.Bool (nat_eq (n / 2 ^ j % 2) 1)
bit_is k n j h =
    let one : j - j + 1 ≡ 1 = omega arith in
    ap (λ (v : Value). two_value Eq v (value.Word (1, 1))) (if_yes (leb j j && ltb j k) (value.Word (j - j + 1, slice_of n j j)) nothing (both_true (le-leb j j (omega arith)) (lt-ltb j k h)))
    ∙ ap (λ (z : ℕ). value.Bool (nat_eq z 1 && nat_eq (n / 2 ^ j % 2 ^ z) 1)) one

odd_place : (c p q r s : ℕ) → q ≡ p * 2 → s ≡ 1 * p + r → (2 * c + 1) * p + r ≡ c * q + s
odd_place c p q r s e f = let g : c * q ≡ c * (p * 2) = ap (λ (z : ℕ). c * z) e in grind arith

even_place : (c p q r s : ℕ) → q ≡ p * 2 → s ≡ 0 * p + r → 2 * c * p + r ≡ c * q + s
even_place c p q r s e f = let g : c * q ≡ c * (p * 2) = ap (λ (z : ℕ). c * z) e in grind arith

pick_yes : (t : Bool) (x y : Value) → t ≡ true → pick_value (value.Bool t) x y ≡ x
pick_yes t x y e = if_yes t x y e

pick_no : (t : Bool) (x y : Value) → t ≡ false → pick_value (value.Bool t) x y ≡ y
pick_no t x y e = if_no t x y e

pub chosen_is : (k n j c : ℕ) (f : ℕ → Value) → j ≤ k → chosen (bit_value (value.Word (k, n))) f j c ≡ f (c * 2 ^ j + n % 2 ^ j)
chosen_is k n zero c f h = ap f (omega arith)
chosen_is k n (suc j) c f h =
    let d = n / 2 ^ j % 2 in
    let B = bit_value (value.Word (k, n)) in
    let next : suc j ≡ 1 + j = omega arith in
    let low : n % 2 ^ suc j ≡ d * 2 ^ j + n % 2 ^ j = ap (λ (z : ℕ). n % 2 ^ z) next ∙ mod-pow-add n 1 j in
    let wide : 2 ^ suc j ≡ 2 ^ j * 2 = pow-suc 2 j in
    let small : d < 2 = mod_below (n / 2 ^ j) 2 (omega arith) in
    ap (λ (v : Value). pick_value v (chosen B f j (2 * c + 1)) (chosen B f j (2 * c))) (bit_is k n j (omega arith))
    ∙ elim (cases_Bool (nat_eq d 1)) [
      | inl y ↦
          let one : d ≡ 1 = eqb-true d 1 y in
          pick_yes (nat_eq d 1) (chosen B f j (2 * c + 1)) (chosen B f j (2 * c)) y
          ∙ chosen_is k n j (2 * c + 1) f (omega arith)
          ∙ ap f (odd_place c (2 ^ j) (2 ^ suc j) (n % 2 ^ j) (n % 2 ^ suc j) wide (low ∙ ap (λ (z : ℕ). z * 2 ^ j + n % 2 ^ j) one))
      | inr y ↦
          let none : d ≡ 0 = zero_bit d small (eqb-false d 1 y) in
          pick_no (nat_eq d 1) (chosen B f j (2 * c + 1)) (chosen B f j (2 * c)) y
          ∙ chosen_is k n j (2 * c) f (omega arith)
          ∙ ap f (even_place c (2 ^ j) (2 ^ suc j) (n % 2 ^ j) (n % 2 ^ suc j) wide (low ∙ ap (λ (z : ℕ). z * 2 ^ j + n % 2 ^ j) none))
    ] where
      zero_bit : (d : ℕ) → d < 2 → (d ≡ 1 → ⊥) → d ≡ 0
      zero_bit zero h n = refl
      zero_bit (suc zero) h n = absurd (n refl)
      zero_bit (suc (suc d)) h n = absurd (omega arith)

pub cells_read : (x i : Value) (k w : ℕ) → HasSort x (sort.Row k w) → HasSort i (sort.Word k) → get_value x i ≡ chosen (bit_value i) (cell_of x) k 0
cells_read x i k w hx hi =
    let r = row_of x k w hx in
    let n = word_of i k hi in
    let F = cell_of (value.Row r.0) in
    ap₂ get_value r.1 n.1
    ∙ if_yes (nat_eq k r.0.index) (value.Word (r.0.width, cell_at r.0 n.0)) nothing (eq-eqb k r.0.index (sym r.3))
    ∙ ap F (sym (mod-eq_of_lt n.2.fits) ∙ omega arith)
    ∙ sym (chosen_is k n.0 k 0 F (omega arith))
    ∙ ap₂ (λ (v z : Value). chosen (bit_value v) (cell_of z) k 0) (sym n.1) (sym r.1)

-- ---- comparisons

abbrev all_upto : (ℕ → Bool) → ℕ → Bool
all_upto f zero = f 0
all_upto f (suc n) = all_upto f n && f (suc n)

all_give : (f : ℕ → Bool) (n c : ℕ) → all_upto f n ≡ true → c ≤ n → f c ≡ true
all_give f zero c e h = ap f (omega arith) ∙ e
all_give f (suc n) c e h =
    let p = and_parts (all_upto f n) (f (suc n)) e in
    elim (cases_eq c (suc n)) [ inl q ↦ ap f q ∙ p.1 | inr d ↦ all_give f n c p.0 (omega arith) ]

all_from : (f : ℕ → Bool) (n : ℕ) → ((c : ℕ) → c ≤ n → f c ≡ true) → all_upto f n ≡ true
all_from f zero h = h 0 (omega arith)
all_from f (suc n) h = both_true (all_from f n (λ c l. h c (omega arith))) (h (suc n) (omega arith))

abbrev same_at : (ℕ → Value) → (ℕ → Value) → ℕ → Bool
same_at x y c = same_value (x c) (y c)

joined_all : (x y : ℕ → Value) (n : ℕ) → joined Eq And x y n ≡ value.Bool (all_upto (same_at x y) n)
joined_all x y zero = refl
joined_all x y (suc n) = ap (λ (v : Value). two_value And v (two_value Eq (x (suc n)) (y (suc n)))) (joined_all x y n)

not_both : (a b : Bool) → (not a || not b) ≡ not (a && b)
not_both true b = refl
not_both false b = refl

joined_not : (x y : ℕ → Value) (n : ℕ) → joined Ne Or x y n ≡ value.Bool (not (all_upto (same_at x y) n))
joined_not x y zero = refl
joined_not x y (suc n) =
    ap (λ (v : Value). two_value Or v (two_value Ne (x (suc n)) (y (suc n)))) (joined_not x y n)
    ∙ ap (λ (b : Bool). value.Bool b) (not_both (all_upto (same_at x y) n) (same_at x y (suc n)))

pointwise_gives : (xs ys : List ℕ) (c : ℕ) → pointwise nat_eq xs ys ≡ true → get_or xs c 0 ≡ get_or ys c 0
pointwise_gives [] [] c e = refl
pointwise_gives [] (y ∷ ys) c e = absurd (false≢true e)
pointwise_gives (x ∷ xs) [] c e = absurd (false≢true e)
pointwise_gives (x ∷ xs) (y ∷ ys) zero e = eqb-true x y (and_parts (nat_eq x y) (pointwise nat_eq xs ys) e).0
pointwise_gives (x ∷ xs) (y ∷ ys) (suc c) e = pointwise_gives xs ys c (and_parts (nat_eq x y) (pointwise nat_eq xs ys) e).1

pointwise_from : (xs ys : List ℕ) → length xs ≡ length ys → ((c : ℕ) → c < length xs → get_or xs c 0 ≡ get_or ys c 0) → pointwise nat_eq xs ys ≡ true
pointwise_from [] [] l h = refl
pointwise_from [] (y ∷ ys) l h = absurd (omega arith)
pointwise_from (x ∷ xs) [] l h = absurd (omega arith)
pointwise_from (x ∷ xs) (y ∷ ys) l h = both_true (eq-eqb x y (h 0 (omega arith))) (pointwise_from xs ys (omega arith) (λ c k. h (suc c) (omega arith)))

rows_same : (r t : Cells) (k w : ℕ) → IsRow r → IsRow t → r.index ≡ k → r.width ≡ w → t.index ≡ k → t.width ≡ w → same_value (value.Row r) (value.Row t) ≡ all_upto (same_at (cell_of (value.Row r)) (cell_of (value.Row t))) (2 ^ k - 1)
rows_same r t k w hr ht ek ew fk fw =
    let ei = eq-eqb r.index t.index (ek ∙ sym fk) in
    let ew2 = eq-eqb r.width t.width (ew ∙ sym fw) in
    let sr : length r.cells ≡ 2 ^ k = hr.size ∙ ap (λ (i : ℕ). 2 ^ i) ek in
    let st : length t.cells ≡ 2 ^ k = ht.size ∙ ap (λ (i : ℕ). 2 ^ i) fk in
    let pos = pow_pos k in
    same_truth (same_row r t) (all_upto (same_at (cell_of (value.Row r)) (cell_of (value.Row t))) (2 ^ k - 1))
    (λ e.
    let p = (and_parts (nat_eq r.index t.index && nat_eq r.width t.width) (pointwise nat_eq r.cells t.cells) e).1 in
    all_from (same_at (cell_of (value.Row r)) (cell_of (value.Row t))) (2 ^ k - 1)
    (λ c l. both_true ew2 (eq-eqb (cell_at r c) (cell_at t c) (pointwise_gives r.cells t.cells c p))))
    (λ e.
    both_true (both_true ei ew2) (pointwise_from r.cells t.cells (sr ∙ sym st)
    (λ c l. eqb-true (cell_at r c) (cell_at t c) (and_parts (nat_eq r.width t.width) (nat_eq (cell_at r c) (cell_at t c)) (all_give (same_at (cell_of (value.Row r)) (cell_of (value.Row t))) (2 ^ k - 1) c e (omega arith))).1)))

same_cells : (x y : Value) (s : Sort) → HasSort x s → HasSort y s → same_value x y ≡ all_upto (same_at (cell_of x) (cell_of y)) (cells_in (Some s) - 1)
same_cells x y sort.Bool hx hy = ap₂ same_value (sym (cell_plain x sort.Bool 0 hx refl)) (sym (cell_plain y sort.Bool 0 hy refl))
same_cells x y (sort.Word w) hx hy = ap₂ same_value (sym (cell_plain x (sort.Word w) 0 hx refl)) (sym (cell_plain y (sort.Word w) 0 hy refl))
same_cells x y (sort.Row k w) hx hy =
    let r = row_of x k w hx in
    let t = row_of y k w hy in
    ap₂ same_value r.1 t.1
    ∙ rows_same r.0 t.0 k w r.2 t.2 r.3 r.4 t.3 t.4
    ∙ ap₂ (λ (a b : Value). all_upto (same_at (cell_of a) (cell_of b)) (2 ^ k - 1)) (sym r.1) (sym t.1)

pub cells_equal : (x y : Value) (s : Sort) → HasSort x s → HasSort y s → two_value Eq x y ≡ joined Eq And (cell_of x) (cell_of y) (cells_in (Some s) - 1)
cells_equal x y s hx hy = ap (λ (b : Bool). value.Bool b) (same_cells x y s hx hy) ∙ sym (joined_all (cell_of x) (cell_of y) (cells_in (Some s) - 1))

pub cells_differ : (x y : Value) (s : Sort) → HasSort x s → HasSort y s → two_value Ne x y ≡ joined Ne Or (cell_of x) (cell_of y) (cells_in (Some s) - 1)
cells_differ x y s hx hy = ap (λ (b : Bool). value.Bool (not b)) (same_cells x y s hx hy) ∙ sym (joined_not (cell_of x) (cell_of y) (cells_in (Some s) - 1))

-- the same where the cells have these values
pub joined_same : (op join : Two) (x y u v : ℕ → Value) (n : ℕ) → ((c : ℕ) → c ≤ n → x c ≡ u c) → ((c : ℕ) → c ≤ n → y c ≡ v c) → joined op join x y n ≡ joined op join u v n
joined_same op join x y u v zero h g = ap₂ (two_value op) (h 0 (omega arith)) (g 0 (omega arith))
joined_same op join x y u v (suc n) h g =
    ap₂ (two_value join) (joined_same op join x y u v n (λ c l. h c (omega arith)) (λ c l. g c (omega arith))) (ap₂ (two_value op) (h (suc n) (omega arith)) (g (suc n) (omega arith)))

upper : (c p q n : ℕ) → q ≡ p * 2 → (c + 1) * q ≤ n → (2 * c + 1 + 1) * p ≤ n
upper c p q n e l = let g : c * q ≡ c * (p * 2) = ap (λ (z : ℕ). c * z) e in grind arith

lower : (c p q n : ℕ) → q ≡ p * 2 → (c + 1) * q ≤ n → (2 * c + 1) * p ≤ n
lower c p q n e l = let g : c * q ≡ c * (p * 2) = ap (λ (z : ℕ). c * z) e in grind arith

pub chosen_same : (bits : ℕ → Value) (f g : ℕ → Value) (j c n : ℕ) → (c + 1) * 2 ^ j ≤ n → ((i : ℕ) → i < n → f i ≡ g i) → chosen bits f j c ≡ chosen bits g j c
chosen_same bits f g zero c n l h = h c (omega arith)
chosen_same bits f g (suc j) c n l h =
    let wide : 2 ^ suc j ≡ 2 ^ j * 2 = pow-suc 2 j in
    ap₂ (pick_value (bits j)) (chosen_same bits f g j (2 * c + 1) n (upper c (2 ^ j) (2 ^ suc j) n wide l) h) (chosen_same bits f g j (2 * c) n (lower c (2 ^ j) (2 ^ suc j) n wide l) h)
