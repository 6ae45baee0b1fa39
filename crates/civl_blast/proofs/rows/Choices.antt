-- The cell of a row at an index, by a tree of choices.
use Rattle.std.proofs.Common.{◌≡◌, ℕ, ◌+◌, ◌*◌, ◌-◌, ◌/◌, ◌^◌, ◌<◌, ◌≤◌, Bool, true, false, List, [], ◌∷◌, length, get_or, refl, sym, ap, ap₂, ◌∙◌, subst, arith, Some, None, Option, IsTrue, add-one, leb, ltb}
use Rattle.std.specs.Prelude.{if◌then◌else◌}
use Rattle.std.proofs.lemmas.Bool.{false≢true, and_from, le-leb, lt-ltb}
use Rattle.civl_bits.specs.declared.value.Value.{Value}
use Rattle.civl_bits.specs.declared.value.Value.TheVariants as value
use Rattle.civl_tree.specs.declared.expr.Sort.{Sort}
use Rattle.civl_tree.specs.declared.expr.Sort.TheVariants as sort
use Rattle.civl_tree.specs.declared.expr.Two.TheVariants.{Eq}
use Rattle.civl_tree.specs.rules.Sorts.{two_sort, slice_sort, slice_fits}
use Rattle.civl_firing.specs.values.Operators.{two_value, pick_value, slice_value}
use Rattle.civl_firing.specs.values.Weights.{bits_in, two_weight, move_weight}
use Rattle.civl_terms.specs.declared.node.Node.{Node}
use Rattle.civl_terms.specs.Graphs.{sort_at, value_at}
use Rattle.civl_blast.specs.reach.Reaching.{is_plain}
use Rattle.civl_blast.specs.inner.rows.Making.{Has, HaveSort, Makes, MakesOne, UsesNone, UsesOne, UsesTwo, UsesRead, bit_value, chosen}
use Rattle.std.proofs.lemmas.Nat.{pow_pos}
use Rattle.std.proofs.lemmas.List.{get_or_read}
use Rattle.std.proofs.Math.Nat.{pow-suc, mul_comm}
use Rattle.civl_blast.specs.inner.rows.Making.{Adds, IsCalm}
use Rattle.civl_blast.proofs.rows.Growth.{calm_trans}
use Rattle.civl_blast.proofs.rows.Solid.{all_at, all_covered, adds_then, adds_as}
use Rattle.civl_blast.proofs.rows.Made.{sort_stays, value_stays, within_plain, eq_sort_is, pick_same, one_as, one_makes, makes_then}

-- ---- one bit

a_bit : (o : Option Sort) (b : ℕ) → IsTrue (is_plain (slice_sort o b b)) → slice_sort o b b ≡ Some (sort.Word 1)
a_bit None b h = absurd (false≢true h)
a_bit (Some sort.Bool) b h = absurd (false≢true h)
a_bit (Some (sort.Row k w)) b h = absurd (false≢true h)
a_bit (Some (sort.Word w)) b h = cut (slice_fits w b b) (Some (sort.Word (b - b + 1))) h ∙ ap (λ (n : ℕ). Some (sort.Word n)) (omega arith) where
  cut : (t : Bool) (s : Option Sort) → IsTrue (is_plain (if t then s else None)) → (if t then s else None) ≡ s
  cut true s h = refl
  cut false s h = absurd (false≢true h)

pub bit_sort : (ns : List Node) (at b : ℕ) (t : Option Sort) → t ≡ slice_sort (sort_at ns at) b b → IsTrue (is_plain (slice_sort (sort_at ns at) b b)) → t ≡ Some (sort.Word 1)
bit_sort ns at b t e h = e ∙ a_bit (sort_at ns at) b h

pub sliceable : (o : Option Sort) (b : ℕ) → IsTrue (is_plain (slice_sort o b b)) → IsTrue (is_plain o)
sliceable None b h = absurd (false≢true h)
sliceable (Some sort.Bool) b h = refl
sliceable (Some (sort.Row k w)) b h = absurd (false≢true h)
sliceable (Some (sort.Word w)) b h = refl

pub bit_made : {old first second new : List Node} (at b part one id : ℕ)
    → IsTrue (is_plain (slice_sort (sort_at old at) b b))
    → MakesOne old first (UsesOne at) part (slice_sort (sort_at old at) b b) (λ env. slice_value (value_at env old at) b b) move_weight
    → MakesOne first second UsesNone one (Some (sort.Word 1)) (λ env. value.Word (1, 1)) 0
    → MakesOne second new (UsesTwo part one) id (two_sort Eq (sort_at second part) (sort_at second one)) (λ env. two_value Eq (value_at env second part) (value_at env second one)) (two_weight Eq (bits_in (sort_at second part)))
    → MakesOne old new (UsesOne at) id (Some sort.Bool) (λ env. bit_value (value_at env old at) b) 2
bit_made {old} {first} {second} {new} at b part one id h m n o =
    let w : Option Sort = Some (sort.Word 1) in
    let ep : sort_at first part ≡ w = bit_sort old at b (sort_at first part) m.sorted h in
    let es : sort_at second part ≡ w = sort_stays part w n.calm.grows ep refl in
    let calm : IsCalm old second = calm_trans m.calm n.calm in
    let adds : Adds old second (UsesOne at) (part ∷ one ∷ []) 1 = adds_then (part ∷ one ∷ []) 1 m.adds n.adds (λ u k y c a. tt) (λ u k y c a d. (a.0, (d.0, tt))) (omega arith) in
    record {
      calm = calm_trans calm o.calm;
      adds = adds_then (id ∷ []) 2 adds o.adds (λ u k y c a. (a.0, a.1.0)) (λ u k y c a d. d) (omega (arith, ap bits_in es));
      sorted = o.sorted ∙ eq_sort_is (sort_at second part) (sort_at second one) w es n.sorted refl;
      is = λ env f.
          let g = o.calm.grows.fits env f in
          o.is env f ∙ ap₂ (two_value Eq) (value_stays env part w n.calm.grows ep refl ∙ m.is env (n.calm.grows.fits env g)) (n.is env g);
    }

-- ---- one level

pub chosen_by : {old mid new : List Node} {out : List ℕ} (at b test : ℕ) (cells : List ℕ) (s : Option Sort) → IsTrue (is_plain s) → HaveSort old cells s → 2 ≤ length cells
    → MakesOne old mid (UsesOne at) test (Some sort.Bool) (λ env. bit_value (value_at env old at) b) 2
    → Makes mid new (UsesRead cells test) out (length cells / 2) (sort_at mid (get_or cells 0 0)) (λ env c. pick_value (value_at env mid test) (value_at env mid (get_or cells (2 * c + 1) 0)) (value_at env mid (get_or cells (2 * c) 0))) (length cells / 2 * bits_in (sort_at mid (get_or cells 0 0)))
    → Makes old new (UsesRead cells at) out (length cells / 2) s (λ env c. pick_value (bit_value (value_at env old at) b) (value_at env old (get_or cells (2 * c + 1) 0)) (value_at env old (get_or cells (2 * c) 0))) (2 + length cells / 2 * bits_in s)
chosen_by {old} {mid} {new} {out} at b test cells s p sorted l m n =
    let g = m.calm.grows in
    let e : sort_at mid (get_or cells 0 0) ≡ s = sort_stays (get_or cells 0 0) s g (sorted 0 (omega arith)) p in
    one_makes s (λ env c. pick_value (bit_value (value_at env old at) b) (value_at env old (get_or cells (2 * c + 1) 0)) (value_at env old (get_or cells (2 * c) 0))) (2 + length cells / 2 * bits_in s)
    (one_as (UsesRead cells at) m (λ t u. u.1)) n
    (λ u k h c x. (all_covered u k cells c h.0, x))
    e
    (λ env f c h.
    pick_same (m.is env (n.calm.grows.fits env f))
    (value_stays env (get_or cells (2 * c + 1) 0) s g (sorted (2 * c + 1) (omega arith)) p)
    (value_stays env (get_or cells (2 * c) 0) s g (sorted (2 * c) (omega arith)) p))
    (omega (arith, ap (λ (o : Option Sort). length cells / 2 * bits_in o) e))

-- ---- all levels

halves : (n j : ℕ) → j < n → 2 ^ (n - j) ≡ 2 * 2 ^ (n - (j + 1))
halves n j h = let e : n - j ≡ n - (j + 1) + 1 = omega arith in ap (λ (k : ℕ). 2 ^ k) (e ∙ add-one (n - (j + 1))) ∙ pow-suc 2 (n - (j + 1)) ∙ mul_comm (2 ^ (n - (j + 1))) 2

-- after the first so many levels
pub record Chosen (old now : List Node) (cells : List ℕ) (at index j : ℕ) (left : List ℕ) (s : Option Sort) : Type 0 where
  pub cost : ℕ
  pub spent : cost + 2 ^ (index - j) * bits_in s ≡ 2 * j + 2 ^ index * bits_in s
  pub makes : Makes old now (UsesRead cells at) left (2 ^ (index - j)) s (λ env c. chosen (bit_value (value_at env old at)) (λ k. value_at env old (get_or cells k 0)) j c) cost

spent_more : (cost h b j n : ℕ) → cost + 2 * h * b ≡ 2 * j + n * b → (cost + (2 + h * b)) + h * b ≡ 2 * (j + 1) + n * b
spent_more cost h b j n e = grind arith

first_spent : (h b n : ℕ) → n ≡ 2 * h → (2 + h * b) + h * b ≡ 2 * 1 + n * b
first_spent h b n e = let f : n * b ≡ 2 * h * b = ap (λ (k : ℕ). k * b) e in grind arith

last_left : (cost b j m : ℕ) → cost + 1 * b ≡ 2 * j + (m + 1) * b → cost ≤ 2 * j + m * b
last_left cost b j m e = grind arith

last_spent : (cost h b j n : ℕ) → h ≡ 1 → 0 < n → cost + h * b ≡ 2 * j + n * b → cost ≤ 2 * j + (n - 1) * b
last_spent cost h b j n e p q =
    let m : n ≡ n - 1 + 1 = omega arith in
    last_left cost b j (n - 1) (ap (λ (k : ℕ). cost + k * b) (sym e) ∙ q ∙ ap (λ (k : ℕ). 2 * j + k * b) m)

-- the bits of an index are there, and so are two cells
pub is_sliceable : (o : Option Sort) (w b : ℕ) → o ≡ Some (sort.Word w) → b < w → IsTrue (is_plain (slice_sort o b b))
is_sliceable o w b e h = ap (λ (p : Option Sort). is_plain (slice_sort p b b)) e ∙ cut (slice_fits w b b) (Some (sort.Word (b - b + 1))) fits where
  cut : (t : Bool) (s : Option Sort) → t ≡ true → is_plain (if t then s else None) ≡ is_plain s
  cut true s y = refl
  cut false s y = absurd (false≢true y)

  fits : slice_fits w b b ≡ true
  fits = and_from (leb b b) (ltb b w) (le-leb b b (omega arith)) (lt-ltb b w h)

pub two_cells : (n : ℕ) → 1 ≤ n → 2 ≤ 2 ^ n
two_cells n h = omega (arith, halves n 0 (omega arith), pow_pos (n - 1), pow_pos (n - (0 + 1)), ap (λ (k : ℕ). 2 ^ k) (minus n)) where
  minus : (k : ℕ) → k - 0 ≡ k
  minus k = omega arith

pub chosen_none : {old now : List Node} {out : List ℕ} (at index : ℕ) (cells : List ℕ) (s : Option Sort) (t : Option Sort) → 1 ≤ index → length cells ≡ 2 ^ index → t ≡ s
    → Makes old now (UsesRead cells at) out (length cells / 2) t (λ env c. pick_value (bit_value (value_at env old at) 0) (value_at env old (get_or cells (2 * c + 1) 0)) (value_at env old (get_or cells (2 * c) 0))) (2 + length cells / 2 * bits_in t)
    → Chosen old now cells at index 1 out s
chosen_none {old} {now} {out} at index cells s t l size e m =
    let h : 2 ^ index ≡ 2 * 2 ^ (index - 1) = ap (λ (k : ℕ). 2 ^ k) (minus index) ∙ halves index 0 (omega arith) in
    let half : length cells / 2 ≡ 2 ^ (index - 1) = omega (arith, h, size) in
    let V : (ℕ → Value) → ℕ → Value = λ env c. chosen (bit_value (value_at env old at)) (λ k. value_at env old (get_or cells k 0)) 1 c in
    let P : ℕ → Type 0 = λ k. Makes old now (UsesRead cells at) out k s V (2 + k * bits_in s) in
    let Q : Option Sort → Type 0 = λ o. Makes old now (UsesRead cells at) out (length cells / 2) o V (2 + length cells / 2 * bits_in o) in
    record {
      cost = 2 + 2 ^ (index - 1) * bits_in s;
      spent = first_spent (2 ^ (index - 1)) (bits_in s) (2 ^ index) h;
      makes = subst P half (subst Q e m);
    } where
      minus : (k : ℕ) → k ≡ k - 0
      minus k = omega arith

pub chosen_more : {old mid now : List Node} {left out : List ℕ} (at index j : ℕ) (cells : List ℕ) (s : Option Sort) → j < index → IsTrue (is_plain s) → IsTrue (is_plain (sort_at old at))
    → Chosen old mid cells at index j left s
    → Makes mid now (UsesRead left at) out (length left / 2) (sort_at mid (get_or left 0 0)) (λ env c. pick_value (bit_value (value_at env mid at) j) (value_at env mid (get_or left (2 * c + 1) 0)) (value_at env mid (get_or left (2 * c) 0))) (2 + length left / 2 * bits_in (sort_at mid (get_or left 0 0)))
    → Chosen old now cells at index (j + 1) out s
chosen_more {old} {mid} {now} {left} {out} at index j cells s l p pa f m =
    let h : 2 ^ (index - j) ≡ 2 * 2 ^ (index - (j + 1)) = halves index j l in
    let pos = pow_pos (index - (j + 1)) in
    let half : length left / 2 ≡ 2 ^ (index - (j + 1)) = omega (arith, h, f.makes.size) in
    let g = f.makes.calm.grows in
    let es : sort_at mid (get_or left 0 0) ≡ s = f.makes.sorted 0 (omega (arith, h, f.makes.size)) in
    let B : (ℕ → Value) → ℕ → Value = λ env. bit_value (value_at env old at) in
    let F : (ℕ → Value) → ℕ → Value = λ env k. value_at env old (get_or cells k 0) in
    let W : (ℕ → Value) → ℕ → Value = λ env c. pick_value (bit_value (value_at env mid at) j) (value_at env mid (get_or left (2 * c + 1) 0)) (value_at env mid (get_or left (2 * c) 0)) in
    let P : ℕ → Type 0 = λ k. Makes mid now (UsesRead left at) out k s W (2 + k * bits_in s) in
    let Q : Option Sort → Type 0 = λ o. Makes mid now (UsesRead left at) out (length left / 2) o W (2 + length left / 2 * bits_in o) in
    let n = subst P half (subst Q es m) in
    record {
      cost = f.cost + (2 + 2 ^ (index - (j + 1)) * bits_in s);
      spent = spent_more f.cost (2 ^ (index - (j + 1))) (bits_in s) j (2 ^ index) (ap (λ (k : ℕ). f.cost + k * bits_in s) (sym h) ∙ f.spent);
      makes = makes_then (λ env c. chosen (B env) (F env) (j + 1) c) (f.cost + (2 + 2 ^ (index - (j + 1)) * bits_in s)) f.makes n
          (λ u k y c a. (a, c at y.1)) refl
          (λ env fit c b.
          let fm = n.calm.grows.fits env fit in
          pick_same (ap (λ (v : Value). bit_value v j) (g.values env at (within_plain old at pa)))
          (f.makes.is env fm (2 * c + 1) (omega (arith, h, f.makes.size)))
          (f.makes.is env fm (2 * c) (omega (arith, h, f.makes.size)))
          ∙ ap (λ (k : ℕ). chosen (B env) (F env) k c) (sym (add-one j)))
          (omega arith);
    }

-- the last cell that is left
pub chosen_all : {old now : List Node} {left : List ℕ} (at index id : ℕ) (cells : List ℕ) (s : Option Sort) → id ≡ get_or left 0 id → Chosen old now cells at index index left s
    → MakesOne old now (UsesRead cells at) id s (λ env. chosen (bit_value (value_at env old at)) (λ k. value_at env old (get_or cells k 0)) index 0) (2 * index + (2 ^ index - 1) * bits_in s)
chosen_all {old} {now} {left} at index id cells s e f =
    let i : index - index ≡ 0 = omega arith in
    let z : 2 ^ (index - index) ≡ 1 = ap (λ (k : ℕ). 2 ^ k) i in
    let l : length left ≡ 1 = f.makes.size ∙ z in
    let k : id ≡ get_or left 0 0 = get_or_read left 0 id (omega arith) e 0 in
    record {
      calm = f.makes.calm;
      adds = adds_as (UsesRead cells at) (id ∷ []) (2 * index + (2 ^ index - 1) * bits_in s) f.makes.adds (λ u y. y)
          (λ u t y c a. let R : ℕ → Type 0 = λ i. Has t i in (subst R (sym k) (all_at t left 0 0 a (omega arith)), tt))
          (last_spent f.cost (2 ^ (index - index)) (bits_in s) index (2 ^ index) z (pow_pos index) f.spent);
      sorted = ap (sort_at now) k ∙ f.makes.sorted 0 (omega arith);
      is = λ env fit. ap (value_at env now) k ∙ f.makes.is env fit 0 (omega arith);
    }
