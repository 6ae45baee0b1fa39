-- Foldings of reads and writes keep values.
use Rattle.std.specs.Prelude.{nat_eq, ◌&&◌, if◌then◌else◌}
use Rattle.std.proofs.Common.{rules, ◌≡◌, ◌∙◌, ℕ, zero, suc, ◌+◌, ◌^◌, ◌<◌, Bool, true, List, [], ◌∷◌, length, get_or, set, refl, sym, ap, ap₂, subst, arith, Option, Some, None}
use Rattle.std.proofs.lemmas.Bool.{eqb-true, eq-eqb, and_parts}
use Rattle.std.proofs.lemmas.List.{get_or-replicate, set-get_or}
use Rattle.civl_bits.specs.Row.{Cells, IsRow, filled_row, cell_at, row_with}
use Rattle.civl_bits.specs.Value.{same_value}
use Rattle.civl_bits.specs.ValueLaws.{SameRowIsEquality}
use Rattle.civl_bits.specs.declared.value.Value.{Value}
use Rattle.civl_bits.specs.declared.value.Value.TheVariants as value
use Rattle.civl_tree.specs.declared.expr.Sort.{Sort}
use Rattle.civl_tree.specs.declared.expr.Sort.TheVariants.{Bool as Truth, Word, Row}
use Rattle.civl_tree.specs.rules.Sorts.{get_sort, set_sort, is_word}
use Rattle.civl_firing.specs.values.Operators.{one_value, get_value, set_value, fill_value, slice_value, widen_value, join_value}
use Rattle.civl_firing.specs.values.Values.{HasSort}
use Rattle.civl_firing.proofs.values.Sorting.{if_some, of_width, word_of, row_of}
use Rattle.civl_terms.specs.declared.foldings.folded.Folded.TheVariants.{Constant, First, Second}
use Rattle.civl_terms.specs.foldings.Constants.{is_filled, first_cell, is_identity, counts_from}
use Rattle.civl_terms.specs.foldings.Folding.{when, folded_get, folded_fill, folded_slice, folded_widen, folded_join, IsFolded, IsKnown, AreSame}
use Rattle.civl_terms.specs.foldings.Laws.{OnesKeepValues, GetsKeepValues, SetsKeepValues, OthersKeepValues}
use Rattle.civl_terms.proofs.foldings.Words.{when_is, if_is}
use Rattle.civl_terms.proofs.foldings.Keeping.{given, same_is_equality}

same_row_is_equality : SameRowIsEquality
same_row_is_equality = search rules

-- numbers that count from one on
counted : (k : ℕ) (cs : List ℕ) → counts_from k cs ≡ true → (j : ℕ) → j < length cs → get_or cs j 0 ≡ k + j
counted k [] e j l = absurd (omega arith)
counted k (c ∷ cs) e zero l = let b = and_parts (nat_eq c k) (counts_from (k + 1) cs) e in omega (arith, eqb-true c k b.0)
counted k (c ∷ cs) e (suc j) l =
    let b = and_parts (nat_eq c k) (counts_from (k + 1) cs) e in
    omega (arith, counted (k + 1) cs b.1 j (omega arith))

filled_cell : (r : Cells) (n : ℕ) → is_filled (value.Row r) ≡ true → n < 2 ^ r.index → cell_at r n ≡ cell_at r 0
filled_cell r n e l =
    let same = (same_row_is_equality r (filled_row r.index r.width (cell_at r 0))).0 e in
    ap (λ (q : Cells). cell_at q n) same ∙ get_or-replicate (2 ^ r.index) n (cell_at r 0) 0 l

identity_cell : (r : Cells) (n : ℕ) → IsRow r → is_identity (value.Row r) ≡ true → n < 2 ^ r.index → (cell_at r n ≡ n) × (r.index ≡ r.width)
identity_cell r n h e l =
    let b = and_parts (nat_eq r.index r.width) (counts_from 0 r.cells) e in
    let c : get_or r.cells n 0 ≡ 0 + n = counted 0 r.cells b.1 n (omega (arith, h.size)) in
    let z : 0 + n ≡ n = omega arith in
    (c ∙ z, eqb-true r.index r.width b.0)

word : (w v a b : ℕ) → w ≡ v → a ≡ b → value.Word (w, a) ≡ value.Word (v, b)
word w v a b e f = ap₂ (λ (x y : ℕ). value.Word (x, y)) e f

-- ---- reads

read : (r : Cells) (n : ℕ) (z : Value) → IsRow r → n < 2 ^ r.index →
    IsFolded (if is_filled (value.Row r) then Constant (first_cell (value.Row r)) else when (is_identity (value.Row r)) Second) (value.Word (r.width, cell_at r n)) (value.Row r) (value.Word (r.index, n)) z
read r n z h l =
    if_is (is_filled (value.Row r)) (Constant (first_cell (value.Row r))) (when (is_identity (value.Row r)) Second) (value.Word (r.width, cell_at r n)) (value.Row r) (value.Word (r.index, n)) z
    (λ e. word r.width r.width (cell_at r n) (cell_at r 0) refl (filled_cell r n e l))
    (when_is (is_identity (value.Row r)) Second (value.Word (r.width, cell_at r n)) (value.Row r) (value.Word (r.index, n)) z
    (λ e. let i = identity_cell r n h e l in word r.width r.index (cell_at r n) n (sym i.1) i.0))

read_at : (i w : ℕ) (r : Cells) (n : ℕ) (z : Value) → IsRow r → r.index ≡ i → n < 2 ^ i →
    IsFolded (folded_get (Some (value.Row r)) None) (get_value (value.Row r) (value.Word (i, n))) (value.Row r) (value.Word (i, n)) z
read_at i w r n z h e l =
    subst (λ (j : ℕ). n < 2 ^ j → IsFolded (folded_get (Some (value.Row r)) None) (get_value (value.Row r) (value.Word (j, n))) (value.Row r) (value.Word (j, n)) z) e
    (λ k. subst (λ (v : Value). IsFolded (folded_get (Some (value.Row r)) None) v (value.Row r) (value.Word (r.index, n)) z) (sym (got r n)) (read r n z h k)) l
  where
    got : (q : Cells) (k : ℕ) → get_value (value.Row q) (value.Word (q.index, k)) ≡ value.Word (q.width, cell_at q k)
    got q k = rw (eq-eqb q.index q.index refl) refl

get_alone : (s t u : Sort) (x y z : Value) → get_sort (Some s) (Some t) ≡ Some u → HasSort x s → HasSort y t → IsFolded (folded_get (Some x) None) (get_value x y) x y z
get_alone Truth t u x y z e hx hy = absurd (cc)
get_alone (Word w) t u x y z e hx hy = absurd (cc)
get_alone (Row i w) t u x y z e hx hy =
    let k = if_some (is_word i (Some t)) (Word w) u e in
    let r = row_of x i w hx in
    let n = word_of y i (given t y hy (Word i) (of_width i (Some t) k.0)) in
    subst (λ (v : Value). IsFolded (folded_get (Some v) None) (get_value v y) v y z) (sym r.1)
    (subst (λ (v : Value). IsFolded (folded_get (Some (value.Row r.0)) None) (get_value (value.Row r.0) v) (value.Row r.0) v z) (sym n.1)
    (read_at i w r.0 n.0 z r.2 r.3 n.2.fits))

pub gets_keep_values : GetsKeepValues
gets_keep_values s t u x y z None at e hx hy kx ky = tt
gets_keep_values s t u x y z (Some k) (Some l) e hx hy kx ky = ap₂ get_value kx ky
gets_keep_values s t u x y z (Some k) None e hx hy kx ky =
    subst (λ (v : Value). IsFolded (folded_get (Some v) None) (get_value x y) x y z) kx (get_alone s t u x y z e hx hy)

-- ---- writes

-- a cell that has this word already
written : (r : Cells) (n m : ℕ) → cell_at r n ≡ m → value.Row (row_with r n m) ≡ value.Row r
written r n m e =
    ap (λ (cs : List ℕ). value.Row (record { index = r.index; width = r.width; cells = cs }))
    (ap (λ (k : ℕ). set r.cells n k) (sym e) ∙ set-get_or r.cells n 0)

write_at : (i w : ℕ) (r : Cells) (n m : ℕ) → r.index ≡ i → r.width ≡ w → cell_at r n ≡ m → set_value (value.Row r) (value.Word (i, n)) (value.Word (w, m)) ≡ value.Row r
write_at i w r n m e f h = rw (eq-eqb i r.index (sym e), eq-eqb w r.width (sym f)) (written r n m h)

-- the parts of a write of these sorts
record Write (i w : ℕ) (x y z : Value) : Type 0 where
  pub array : Cells
  pub at : ℕ
  pub cell : ℕ
  pub is_row : x ≡ value.Row array
  pub is_at : y ≡ value.Word (i, at)
  pub is_cell : z ≡ value.Word (w, cell)
  pub fits : IsRow array
  pub index : array.index ≡ i
  pub width : array.width ≡ w
  pub within : at < 2 ^ array.index

write : (i w : ℕ) (t u v : Sort) (x y z : Value) → set_sort (Some (Row i w)) (Some t) (Some u) ≡ Some v → HasSort x (Row i w) → HasSort y t → HasSort z u → Write i w x y z
write i w t u v x y z e hx hy hz =
    let k = if_some (is_word i (Some t) && is_word w (Some u)) (Row i w) v e in
    let j = and_parts (is_word i (Some t)) (is_word w (Some u)) k.0 in
    let r = row_of x i w hx in
    let n = word_of y i (given t y hy (Word i) (of_width i (Some t) j.0)) in
    let m = word_of z w (given u z hz (Word w) (of_width w (Some u) j.1)) in
    record { array = r.0; at = n.0; cell = m.0; is_row = r.1; is_at = n.1; is_cell = m.1; fits = r.2; index = r.3; width = r.4; within = subst (λ (q : ℕ). n.0 < 2 ^ q) (sym r.3) n.2.fits }

write_is : (i w : ℕ) (x y z : Value) (h : Write i w x y z) → cell_at h.array h.at ≡ h.cell → set_value x y z ≡ x
write_is i w x y z h e =
    ap (λ (v : Value). set_value v y z) h.is_row ∙ ap (λ (v : Value). set_value (value.Row h.array) v z) h.is_at ∙ ap (λ (v : Value). set_value (value.Row h.array) (value.Word (i, h.at)) v) h.is_cell
    ∙ write_at i w h.array h.at h.cell h.index h.width e ∙ sym h.is_row

filled_write : (i w : ℕ) (x y z : Value) (h : Write i w x y z) → (is_filled x && same_value (first_cell x) z) ≡ true → set_value x y z ≡ x
filled_write i w x y z h e =
    let b = and_parts (is_filled x) (same_value (first_cell x) z) e in
    let f : is_filled (value.Row h.array) ≡ true = subst (λ (v : Value). is_filled v ≡ true) h.is_row b.0 in
    let c : first_cell (value.Row h.array) ≡ value.Word (w, h.cell) = ap first_cell (sym h.is_row) ∙ (same_is_equality (first_cell x) z).0 b.1 ∙ h.is_cell in
    let d : cell_at h.array 0 ≡ h.cell = number c in
    write_is i w x y z h (filled_cell h.array h.at f h.within ∙ d)
  where
    number_of : Value → ℕ
    number_of (value.Word a) = a.1
    number_of _ = 0

    number : {a b c d : ℕ} → value.Word (a, b) ≡ value.Word (c, d) → b ≡ d
    number q = ap number_of q

identity_write : (i w : ℕ) (x y z : Value) (h : Write i w x y z) (same : Bool) → AreSame same y z → (is_identity x && same) ≡ true → set_value x y z ≡ x
identity_write i w x y z h same s e =
    let b = and_parts (is_identity x) same e in
    let f : is_identity (value.Row h.array) ≡ true = subst (λ (v : Value). is_identity v ≡ true) h.is_row b.0 in
    let k = identity_cell h.array h.at h.fits f h.within in
    let c : value.Word (i, h.at) ≡ value.Word (w, h.cell) = sym h.is_at ∙ s b.1 ∙ h.is_cell in
    write_is i w x y z h (k.0 ∙ number c)
  where
    number_of : Value → ℕ
    number_of (value.Word a) = a.1
    number_of _ = 0

    number : {a b c d : ℕ} → value.Word (a, b) ≡ value.Word (c, d) → b ≡ d
    number q = ap number_of q

row_sort : (s : Sort) (o p : Option Sort) (v : Sort) → set_sort (Some s) o p ≡ Some v → (i w : ℕ) × (s ≡ Row i w)
row_sort Truth o p v e = absurd (cc)
row_sort (Word w) o p v e = absurd (cc)
row_sort (Row i w) o p v e = (i, w, refl)

parts : (s t u v : Sort) (x y z : Value) → set_sort (Some s) (Some t) (Some u) ≡ Some v → HasSort x s → HasSort y t → HasSort z u → (i w : ℕ) × Write i w x y z
parts s t u v x y z e hx hy hz =
    let r = row_sort s (Some t) (Some u) v e in
    let f : set_sort (Some (Row r.0 r.1)) (Some t) (Some u) ≡ Some v = subst (λ (q : Sort). set_sort (Some q) (Some t) (Some u) ≡ Some v) r.2 e in
    (r.0, r.1, write r.0 r.1 t u v x y z f (subst (HasSort x) r.2 hx) hy hz)

identity_case : (s t u v : Sort) (x y z k : Value) (same : Bool) → set_sort (Some s) (Some t) (Some u) ≡ Some v → HasSort x s → HasSort y t → HasSort z u → x ≡ k → AreSame same y z → IsFolded (when (is_identity k && same) First) (set_value x y z) x y z
identity_case s t u v x y z k same e hx hy hz kx h =
    let p = parts s t u v x y z e hx hy hz in
    when_is (is_identity k && same) First (set_value x y z) x y z (λ b. identity_write p.0 p.1 x y z p.2 same h (subst (λ (q : Value). (is_identity q && same) ≡ true) (sym kx) b))

filled_case : (s t u v : Sort) (x y z k l : Value) → set_sort (Some s) (Some t) (Some u) ≡ Some v → HasSort x s → HasSort y t → HasSort z u → x ≡ k → z ≡ l → IsFolded (when (is_filled k && same_value (first_cell k) l) First) (set_value x y z) x y z
filled_case s t u v x y z k l e hx hy hz kx kz =
    let p = parts s t u v x y z e hx hy hz in
    when_is (is_filled k && same_value (first_cell k) l) First (set_value x y z) x y z
    (λ b. filled_write p.0 p.1 x y z p.2 (subst (λ (q : Value). (is_filled q && same_value (first_cell q) z) ≡ true) (sym kx) (subst (λ (q : Value). (is_filled k && same_value (first_cell k) q) ≡ true) (sym kz) b)))

pub sets_keep_values : SetsKeepValues
sets_keep_values s t u v x y z None at cell same e hx hy hz kx ky kz h = tt
sets_keep_values s t u v x y z (Some k) (Some l) (Some m) same e hx hy hz kx ky kz h =
    ap (λ (q : Value). set_value q y z) kx ∙ ap (λ (q : Value). set_value k q z) ky ∙ ap (λ (q : Value). set_value k l q) kz
sets_keep_values s t u v x y z (Some k) None (Some m) same e hx hy hz kx ky kz h = filled_case s t u v x y z k m e hx hy hz kx kz
sets_keep_values s t u v x y z (Some k) None None same e hx hy hz kx ky kz h = identity_case s t u v x y z k same e hx hy hz kx h
sets_keep_values s t u v x y z (Some k) (Some l) None same e hx hy hz kx ky kz h = identity_case s t u v x y z k same e hx hy hz kx h

-- ---- the others

pub ones_keep_values : OnesKeepValues
ones_keep_values op x y z None k = tt
ones_keep_values op x y z (Some v) k = ap (one_value op) k

pub others_keep_values : OthersKeepValues
others_keep_values = record {
  fill = fills;
  slice = slices;
  widen = widens;
  join = joins;
}
  where
    fills : (index : ℕ) (x y z : Value) (a : Option Value) → IsKnown a x → IsFolded (folded_fill index a) (fill_value index x) x y z
    fills index x y z None k = tt
    fills index x y z (Some v) k = ap (fill_value index) k

    slices : (high low : ℕ) (x y z : Value) (a : Option Value) → IsKnown a x → IsFolded (folded_slice a high low) (slice_value x high low) x y z
    slices high low x y z None k = tt
    slices high low x y z (Some v) k = ap (λ (q : Value). slice_value q high low) k

    widens : (width : ℕ) (x y z : Value) (a : Option Value) → IsKnown a x → IsFolded (folded_widen a width) (widen_value x width) x y z
    widens width x y z None k = tt
    widens width x y z (Some v) k = ap (λ (q : Value). widen_value q width) k

    joins : (x y z : Value) (a b : Option Value) → IsKnown a x → IsKnown b y → IsFolded (folded_join a b) (join_value x y) x y z
    joins x y z None b k l = tt
    joins x y z (Some v) None k l = tt
    joins x y z (Some v) (Some u) k l = ap₂ join_value k l
