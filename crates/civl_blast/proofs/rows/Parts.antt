-- A node and the cells of its parts.
use Rattle.std.proofs.Common.{◌≡◌, ℕ, ◌+◌, ◌-◌, ◌<◌, ◌≤◌, Bool, true, false, List, length, get_or, refl, sym, ap, ◌∙◌, arith, Some, None, Option, IsTrue, inl, inr}
use Rattle.std.specs.Prelude.{if◌then◌else◌, ◌&&◌}
use Rattle.std.proofs.lemmas.Bool.{false≢true, cases_Bool, cases_lt, and_parts}
use Rattle.std.proofs.lemmas.Option.{slice_get_within, none-some}
use Rattle.civl_bits.specs.declared.value.Value.{Value}
use Rattle.civl_tree.specs.declared.expr.Sort.{Sort}
use Rattle.civl_tree.specs.declared.expr.Sort.TheVariants as sort
use Rattle.civl_tree.specs.declared.expr.One.{One}
use Rattle.civl_tree.specs.declared.expr.One.TheVariants as one
use Rattle.civl_tree.specs.declared.expr.Two.{Two}
use Rattle.civl_tree.specs.declared.expr.Two.TheVariants as two
use Rattle.civl_tree.specs.rules.Sorts.{is_truth, is_word, one_sort, two_sort, words_sort, truths_sort, common_sort, pick_sort, get_sort, set_sort, fill_sort, slice_sort, widen_sort, join_sort, truth_over, slice_fits, widen_fits, join_fits}
use Rattle.civl_firing.proofs.values.Sorting.{common, a_word, a_truth, of_width, over}
use Rattle.civl_terms.specs.declared.node.Node.{Node}
use Rattle.civl_terms.specs.Graphs.{PartsBelow, values, sorts, sort_at, value_at, node_value, node_sort, IsGraph, Fits}
use Rattle.civl_terms.specs.Weights.{node_weight, weight_in, own_weight}
use Rattle.civl_blast.specs.reach.Reaching.{is_plain}
use Rattle.civl_blast.specs.rows.Cells.{cell_of, cells_in, cell_sort}
use Rattle.civl_blast.specs.inner.rows.Making.{Has, AllIn, HaveSort, HasShape, HasCells, Here, is_comparison}
use Rattle.civl_terms.proofs.Nodes.{value_of_node, sort_of_node}
use Rattle.civl_blast.proofs.rows.Made.{sort_past}
use Rattle.civl_blast.proofs.rows.Solid.{all_at}
use Rattle.civl_terms.proofs.Soundness.{nodes_have_their_sorts}
use Rattle.civl_terms.proofs.Operations.{the_sort}
use Rattle.civl_blast.proofs.rows.Meanings.{cell_plain}
use Rattle.civl_blast.proofs.rows.Limits.{some_cells}

pub here_below : {ns : List Node} {table : List (List ℕ)} {n : Node} {at : ℕ} → Here ns table n at → PartsBelow at n
here_below {ns} {table} {n} {at} h = h.graph.parts at n h.node

pub here_within : {ns : List Node} {table : List (List ℕ)} {n : Node} {at : ℕ} → Here ns table n at → at < length ns
here_within {ns} {table} {n} {at} h = slice_get_within ns at n h.node

pub here_sort : {ns : List Node} {table : List (List ℕ)} {n : Node} {at : ℕ} → Here ns table n at → sort_at ns at ≡ node_sort (sorts ns) n
here_sort {ns} {table} {n} {at} h = sort_of_node ns at n (here_below h) h.node

pub here_value : {ns : List Node} {table : List (List ℕ)} {n : Node} {at : ℕ} → Here ns table n at → (env : ℕ → Value) → value_at env ns at ≡ node_value env (values env ns) n
here_value {ns} {table} {n} {at} h env = value_of_node env ns at n (here_below h) h.node

pub here_weight : {ns : List Node} {table : List (List ℕ)} {n : Node} {at : ℕ} → Here ns table n at → own_weight ns at ≡ node_weight (sorts ns) n
here_weight {ns} h = ap (weight_in ns) h.node

pub here_sorted : {ns : List Node} {table : List (List ℕ)} {n : Node} {at : ℕ} → Here ns table n at → (s : Sort) × (node_sort (sorts ns) n ≡ Some s)
here_sorted {ns} {table} {n} {at} h =
    let x = the_sort (sort_at ns at) (h.graph.sorted at n h.node) in
    (x.0, sym (here_sort h) ∙ x.1)

-- ---- a part that is a bool or a word has one cell, itself

pub record IsSingle (ns : List Node) (ids : List ℕ) (k : ℕ) : Type 0 where
  pub some : 0 < length ids
  pub there : IsTrue (is_plain (sort_at ns k))
  pub sorted : sort_at ns (get_or ids 0 0) ≡ sort_at ns k
  pub is : (env : ℕ → Value) → Fits env ns → HasCells env ns ids k → value_at env ns (get_or ids 0 0) ≡ value_at env ns k
  pub has : (u : List ℕ) → AllIn u ids → Has u (get_or ids 0 0)

plain_sort : (o : Option Sort) → IsTrue (is_plain o) → (cells_in o ≡ 1) × (cell_sort o ≡ o)
plain_sort None h = absurd (false≢true h)
plain_sort (Some sort.Bool) h = (refl, refl)
plain_sort (Some (sort.Word w)) h = (refl, refl)
plain_sort (Some (sort.Row k w)) h = absurd (false≢true h)

pub plain_cells : (o : Option Sort) → IsTrue (is_plain o) → cells_in o ≡ 1
plain_cells o h = (plain_sort o h).0

pub plain_cell_sort : (o : Option Sort) → IsTrue (is_plain o) → cell_sort o ≡ o
plain_cell_sort o h = (plain_sort o h).1

pub plain_some : (o : Option Sort) → IsTrue (is_plain o) → (s : Sort) × (o ≡ Some s)
plain_some None h = absurd (false≢true h)
plain_some (Some s) h = (s, refl)

-- the value of a bool or a word is its own cell
pub own_cell : (ns : List Node) → IsGraph ns → (env : ℕ → Value) → Fits env ns → (k c : ℕ) → IsTrue (is_plain (sort_at ns k)) → cell_of (value_at env ns k) c ≡ value_at env ns k
own_cell ns graph env f k c p =
    let s = plain_some (sort_at ns k) p in
    cell_plain (value_at env ns k) s.0 c (nodes_have_their_sorts ns graph env f k s.0 s.1) (sym (ap is_plain s.1) ∙ p)

pub single_part : (ns : List Node) (ids : List ℕ) (k : ℕ) → IsGraph ns → HasShape ns ids k → IsTrue (is_plain (sort_at ns k)) → IsSingle ns ids k
single_part ns ids k graph shape p =
    let l : 0 < length ids = omega (arith, shape.size, (plain_sort (sort_at ns k) p).0) in
    record {
      some = l;
      there = p;
      sorted = shape.sorted 0 l ∙ (plain_sort (sort_at ns k) p).1;
      is = λ env f h. h 0 l ∙ own_cell ns graph env f k 0 p;
      has = λ u a. all_at u ids 0 0 a l;
    }

-- ---- a part of this sort

pub record HasSorted (ns : List Node) (ids : List ℕ) (s : Sort) : Type 0 where
  pub size : length ids ≡ cells_in (Some s)
  pub some : 0 < length ids
  pub sorted : HaveSort ns ids (cell_sort (Some s))
  pub first : sort_at ns (get_or ids 0 0) ≡ cell_sort (Some s)
  pub plain : IsTrue (is_plain (sort_at ns (get_or ids 0 0)))
  pub same : HaveSort ns ids (sort_at ns (get_or ids 0 0))

cell_is_plain : (s : Sort) → IsTrue (is_plain (cell_sort (Some s)))
cell_is_plain sort.Bool = refl
cell_is_plain (sort.Word w) = refl
cell_is_plain (sort.Row k w) = refl

pub sorted_part : (ns : List Node) (ids : List ℕ) (k : ℕ) (s : Sort) → HasShape ns ids k → sort_at ns k ≡ Some s → HasSorted ns ids s
sorted_part ns ids k s shape e =
    let size : length ids ≡ cells_in (Some s) = shape.size ∙ ap cells_in e in
    let some : 0 < length ids = omega (arith, size, some_cells s) in
    let sorted : HaveSort ns ids (cell_sort (Some s)) = λ c h. shape.sorted c h ∙ ap cell_sort e in
    record {
      size = size;
      some = some;
      sorted = sorted;
      first = sorted 0 some;
      plain = ap is_plain (sorted 0 some) ∙ cell_is_plain s;
      same = λ c h. sorted c h ∙ sym (sorted 0 some);
    }

-- ---- the sorts of the parts, by the operation's

word_is_plain : (o : Option Sort) (s : Sort) (w : ℕ) → o ≡ Some (sort.Word w) → IsTrue (is_plain o)
word_is_plain o s w e = ap is_plain e

pub one_part_plain : (op : One) (o : Option Sort) (s : Sort) → one_sort op o ≡ Some s → IsTrue (is_plain o)
one_part_plain op None s e = absurd (none op e) where
  none : (op : One) → one_sort op None ≡ Some s → ⊥
  none one.Not e = none-some s e
  none one.Flip e = none-some s e
  none one.Minus e = none-some s e
one_part_plain op (Some sort.Bool) s e = refl
one_part_plain op (Some (sort.Word w)) s e = refl
one_part_plain op (Some (sort.Row k w)) s e = absurd (row op e) where
  row : (op : One) → one_sort op (Some (sort.Row k w)) ≡ Some s → ⊥
  row one.Not e = none-some s e
  row one.Flip e = none-some s e
  row one.Minus e = none-some s e

pub one_plain : (op : One) (o : Option Sort) (s : Sort) → one_sort op o ≡ Some s → IsTrue (is_plain (one_sort op o))
one_plain one.Not o s e = not_case (is_truth o) e where
  not_case : (b : Bool) → (if b then Some sort.Bool else None) ≡ Some s → IsTrue (is_plain (if b then Some sort.Bool else None))
  not_case true e = refl
  not_case false e = absurd (none-some s e)
one_plain one.Flip o s e = let w = a_word o s e in ap is_plain (e ∙ ap (λ (t : Sort). Some t) (sym w.2))
one_plain one.Minus o s e = let w = a_word o s e in ap is_plain (e ∙ ap (λ (t : Sort). Some t) (sym w.2))

-- an operation on words of one width, or on bools
words_parts : (o p : Option Sort) (s : Sort) → words_sort o p ≡ Some s → (w : ℕ) × (o ≡ Some (sort.Word w)) × (p ≡ Some (sort.Word w)) × (Some s ≡ Some (sort.Word w))
words_parts o p s e =
    let x = a_word (common_sort o p) s e in
    let y = common o p (sort.Word x.0) x.1 in
    (x.0, y.0, y.1, ap (λ (t : Sort). Some t) (sym x.2))

pub record ArePlain (o p r : Option Sort) : Type 0 where
  pub first : IsTrue (is_plain o)
  pub second : IsTrue (is_plain p)
  pub result : IsTrue (is_plain r)

plain_words : (o p : Option Sort) (s : Sort) → words_sort o p ≡ Some s → ArePlain o p (words_sort o p)
plain_words o p s e =
    let x = words_parts o p s e in
    record { first = ap is_plain x.1; second = ap is_plain x.2; result = ap is_plain (e ∙ x.3) }

plain_tests : (o p : Option Sort) (s : Sort) → truth_over (words_sort o p) ≡ Some s → ArePlain o p (truth_over (words_sort o p))
plain_tests o p s e =
    let t = over (words_sort o p) s e in
    let x = words_parts o p t.0 t.1 in
    record { first = ap is_plain x.1; second = ap is_plain x.2; result = ap is_plain (e ∙ ap (λ (r : Sort). Some r) (sym t.2)) }

plain_truths : (o p : Option Sort) (s : Sort) → truths_sort o p ≡ Some s → ArePlain o p (truths_sort o p)
plain_truths o p s e = elim (cases_Bool (is_truth o && is_truth p)) [
  | inl y ↦
      let b = and_parts (is_truth o) (is_truth p) y in
      record { first = ap is_plain (a_truth o b.0); second = ap is_plain (a_truth p b.1); result = ap (λ (z : Bool). is_plain (if z then Some sort.Bool else None)) y }
  | inr y ↦ absurd (none-some s (sym (ap (λ (z : Bool). if z then Some sort.Bool else None) y) ∙ e))
]

pub two_plain : (op : Two) (o p : Option Sort) (s : Sort) → is_comparison op ≡ false → two_sort op o p ≡ Some s → ArePlain o p (two_sort op o p)
two_plain two.Add o p s n e = plain_words o p s e
two_plain two.Sub o p s n e = plain_words o p s e
two_plain two.Mul o p s n e = plain_words o p s e
two_plain two.BitAnd o p s n e = plain_words o p s e
two_plain two.BitOr o p s n e = plain_words o p s e
two_plain two.BitXor o p s n e = plain_words o p s e
two_plain two.Shl o p s n e = plain_words o p s e
two_plain two.Shr o p s n e = plain_words o p s e
two_plain two.Lt o p s n e = plain_tests o p s e
two_plain two.Le o p s n e = plain_tests o p s e
two_plain two.Eq o p s n e = absurd (false≢true (sym n))
two_plain two.Ne o p s n e = absurd (false≢true (sym n))
two_plain two.And o p s n e = plain_truths o p s e
two_plain two.Or o p s n e = plain_truths o p s e
two_plain two.Implies o p s n e = plain_truths o p s e
two_plain two.Udiv o p s n e = plain_words o p s e
two_plain two.Urem o p s n e = plain_words o p s e
two_plain two.Slt o p s n e = plain_tests o p s e
two_plain two.Sle o p s n e = plain_tests o p s e
two_plain two.Sar o p s n e = plain_words o p s e

pub other_op : (op : Two) → (op ≡ two.Eq → ⊥) → (op ≡ two.Ne → ⊥) → is_comparison op ≡ false
other_op two.Eq n m = absurd (n refl)
other_op two.Ne n m = absurd (m refl)
other_op _ n m = refl

-- two parts of one sort
pub compared_parts : (op : Two) (o p : Option Sort) (s : Sort) → is_comparison op ≡ true → two_sort op o p ≡ Some s → (t : Sort) × (o ≡ Some t) × (p ≡ Some t)
compared_parts two.Eq o p s n e = let t = over (common_sort o p) s e in let c = common o p t.0 t.1 in (t.0, c.0, c.1)
compared_parts two.Ne o p s n e = let t = over (common_sort o p) s e in let c = common o p t.0 t.1 in (t.0, c.0, c.1)
compared_parts _ o p s n e = absurd (false≢true n)

pub pick_parts : (o p q : Option Sort) (s : Sort) → pick_sort o p q ≡ Some s → (o ≡ Some sort.Bool) × (p ≡ Some s) × (q ≡ Some s)
pick_parts o p q s e = elim (cases_Bool (is_truth o)) [
  | inl y ↦
      let c = common p q s (sym (ap (λ (z : Bool). if z then common_sort p q else None) y) ∙ e) in
      (a_truth o y, c.0, c.1)
  | inr y ↦ absurd (none-some s (sym (ap (λ (z : Bool). if z then common_sort p q else None) y) ∙ e))
]

pub get_parts : (o p : Option Sort) (s : Sort) → get_sort o p ≡ Some s → (k w : ℕ) × (o ≡ Some (sort.Row k w)) × (p ≡ Some (sort.Word k)) × (Some s ≡ Some (sort.Word w))
get_parts None p s e = absurd (none-some s e)
get_parts (Some sort.Bool) p s e = absurd (none-some s e)
get_parts (Some (sort.Word w)) p s e = absurd (none-some s e)
get_parts (Some (sort.Row k w)) p s e = elim (cases_Bool (is_word k p)) [
  | inl y ↦ (k, w, refl, of_width k p y, sym e ∙ ap (λ (z : Bool). if z then Some (sort.Word w) else None) y)
  | inr y ↦ absurd (none-some s (sym (ap (λ (z : Bool). if z then Some (sort.Word w) else None) y) ∙ e))
]

pub set_parts : (o p q : Option Sort) (s : Sort) → set_sort o p q ≡ Some s → (k w : ℕ) × (o ≡ Some (sort.Row k w)) × (p ≡ Some (sort.Word k)) × (q ≡ Some (sort.Word w)) × (Some s ≡ Some (sort.Row k w))
set_parts None p q s e = absurd (none-some s e)
set_parts (Some sort.Bool) p q s e = absurd (none-some s e)
set_parts (Some (sort.Word w)) p q s e = absurd (none-some s e)
set_parts (Some (sort.Row k w)) p q s e = elim (cases_Bool (is_word k p && is_word w q)) [
  | inl y ↦
      let b = and_parts (is_word k p) (is_word w q) y in
      (k, w, refl, of_width k p b.0, of_width w q b.1, sym e ∙ ap (λ (z : Bool). if z then Some (sort.Row k w) else None) y)
  | inr y ↦ absurd (none-some s (sym (ap (λ (z : Bool). if z then Some (sort.Row k w) else None) y) ∙ e))
]

pub fill_parts : (i : ℕ) (o : Option Sort) (s : Sort) → fill_sort i o ≡ Some s → (w : ℕ) × (o ≡ Some (sort.Word w)) × (Some s ≡ Some (sort.Row i w))
fill_parts i None s e = absurd (none-some s e)
fill_parts i (Some sort.Bool) s e = absurd (none-some s e)
fill_parts i (Some (sort.Word w)) s e = (w, refl, sym e)
fill_parts i (Some (sort.Row k w)) s e = absurd (none-some s e)

some_word : (b : Bool) (w : ℕ) (s : Sort) → (if b then Some (sort.Word w) else None) ≡ Some s → IsTrue (is_plain (if b then Some (sort.Word w) else None))
some_word true w s e = refl
some_word false w s e = absurd (none-some s e)

pub slice_parts : (o : Option Sort) (i j : ℕ) (s : Sort) → slice_sort o i j ≡ Some s → IsTrue (is_plain o) × IsTrue (is_plain (slice_sort o i j))
slice_parts None i j s e = absurd (none-some s e)
slice_parts (Some sort.Bool) i j s e = absurd (none-some s e)
slice_parts (Some (sort.Row k w)) i j s e = absurd (none-some s e)
slice_parts (Some (sort.Word w)) i j s e = (refl, some_word (slice_fits w i j) (i - j + 1) s e)

pub widen_parts : (o : Option Sort) (i : ℕ) (s : Sort) → widen_sort o i ≡ Some s → IsTrue (is_plain o) × IsTrue (is_plain (widen_sort o i))
widen_parts None i s e = absurd (none-some s e)
widen_parts (Some sort.Bool) i s e = absurd (none-some s e)
widen_parts (Some (sort.Row k w)) i s e = absurd (none-some s e)
widen_parts (Some (sort.Word w)) i s e = (refl, some_word (widen_fits w i) i s e)

pub join_parts : (o p : Option Sort) (s : Sort) → join_sort o p ≡ Some s → ArePlain o p (join_sort o p)
join_parts (Some (sort.Word w)) (Some (sort.Word v)) s e = record { first = refl; second = refl; result = some_word (join_fits w v) (w + v) s e }
join_parts None p s e = absurd (none-some s e)
join_parts (Some sort.Bool) p s e = absurd (none-some s e)
join_parts (Some (sort.Row k w)) p s e = absurd (none-some s e)
join_parts (Some (sort.Word w)) None s e = absurd (none-some s e)
join_parts (Some (sort.Word w)) (Some sort.Bool) s e = absurd (none-some s e)
join_parts (Some (sort.Word w)) (Some (sort.Row k v)) s e = absurd (none-some s e)

-- a part's cell is in the graph where the part is
pub here_inside : {ns : List Node} {table : List (List ℕ)} {n : Node} {at : ℕ} → Here ns table n at → at ≤ length ns
here_inside h = let w = here_within h in omega arith

pub single_inside : {ns : List Node} {ids : List ℕ} {k at : ℕ} → IsSingle ns ids k → at ≤ length ns → k < at → get_or ids 0 0 < length ns
single_inside {ns} {ids} {k} x l h = elim (cases_lt (get_or ids 0 0) (length ns)) [
  | inl y ↦ y
  | inr y ↦ absurd (not_there (sort_at ns k) (x.there) (sym x.sorted ∙ sort_past ns (get_or ids 0 0) y))
] where
  not_there : (o : Option Sort) → IsTrue (is_plain o) → o ≡ None → ⊥
  not_there o p e = false≢true (sym (ap is_plain e) ∙ p)
