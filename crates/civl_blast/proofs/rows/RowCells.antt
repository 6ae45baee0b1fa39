-- The cells of rows, and of what is read from them.
use Rattle.std.proofs.Common.{◌≡◌, ℕ, zero, suc, ◌+◌, ◌*◌, ◌-◌, ◌^◌, ◌<◌, ◌≤◌, true, nat_eq, List, [], ◌∷◌, length, get_or, replicate, sym, ap, ap₂, ◌∙◌, subst, inl, inr, arith, Some, Option, IsTrue}
use Rattle.std.specs.Prelude.{◌||◌}
use Rattle.std.proofs.Common.{leb}
use Rattle.std.proofs.lemmas.Bool.{false≢true, leb-true, and_parts}
use Rattle.civl_tree.specs.rules.Exprs.{is_index}
use Rattle.std.proofs.lemmas.Nat.{pow_pos}
use Rattle.std.proofs.lemmas.List.{length-replicate, get_or-replicate}
use Rattle.std.proofs.Math.Nat.{mul_comm}
use Rattle.civl_bits.specs.Word.{IsWord}
use Rattle.civl_bits.specs.Row.{Cells, cell_at}
use Rattle.civl_bits.specs.declared.value.Value.{Value}
use Rattle.civl_bits.specs.declared.value.Value.TheVariants as value
use Rattle.civl_tree.specs.declared.expr.Sort.{Sort}
use Rattle.civl_tree.specs.declared.expr.Sort.TheVariants as sort
use Rattle.civl_tree.specs.declared.expr.Two.{Two}
use Rattle.civl_tree.specs.declared.expr.Two.TheVariants.{Eq, Ne}
use Rattle.civl_tree.specs.rules.Sorts.{two_sort, common_sort}
use Rattle.civl_firing.specs.values.Operators.{two_value, pick_value}
use Rattle.civl_firing.specs.values.Values.{HasSort}
use Rattle.civl_firing.specs.values.Weights.{bits_in, set_weight}
use Rattle.civl_firing.proofs.values.Sorting.{over}
use Rattle.civl_terms.specs.declared.node.Node.{Node}
use Rattle.civl_terms.specs.declared.node.Node.TheVariants.{Constant, Two as Twice, Pick, Get, Set, Fill}
use Rattle.civl_terms.specs.Graphs.{sort_at, value_at}
use Rattle.civl_terms.specs.Weights.{is_part}
use Rattle.civl_blast.specs.reach.Reaching.{is_plain}
use Rattle.civl_blast.specs.rows.Cells.{cell_of, cells_in, cell_sort}
use Rattle.civl_blast.specs.inner.rows.Making.{Has, AllIn, HaveSort, Here, cells_at, Makes, MakesOne, MakesCells, UsesNone, UsesPicks, UsesPairs, UsesWrite, UsesRead, bit_value, written, chosen, joined, is_comparison, IsComparison, IsJoin, Joins, index_in}
use Rattle.civl_blast.proofs.rows.Growth.{calm_refl, grows_refl}
use Rattle.civl_blast.proofs.rows.Solid.{adds_none}
use Rattle.civl_terms.proofs.Soundness.{nodes_have_their_sorts}
use Rattle.civl_blast.proofs.rows.Meanings.{cells_pick, cells_write, cells_fill, cells_read, cells_equal, cells_differ, joined_same, chosen_same}
use Rattle.civl_terms.proofs.Soundness.{sort_limits}
use Rattle.civl_blast.proofs.rows.Limits.{cell_bits, index_bits, index_word, all_bits, doubled}
use Rattle.civl_blast.proofs.rows.Parts.{here_sort, here_value, here_weight, here_sorted, IsSingle, single_part, HasSorted, sorted_part, pick_parts, get_parts, set_parts, fill_parts, compared_parts}
use Rattle.civl_blast.proofs.rows.PlainCells.{itself, first_of, second_of, finish, finish_one}
use Rattle.civl_blast.proofs.rows.Comparisons.{comparison_weight}

times_at_least : (n b : ℕ) → 1 ≤ b → n ≤ n * b
times_at_least n zero h = absurd (omega arith)
times_at_least n (suc b) h = grind arith

-- ---- choices

pub record PickReady (old : List Node) (table : List (List ℕ)) (c a b : ℕ) : Type 0 where
  pub both : Sort
  pub test : IsSingle old (cells_at table c) c
  pub truth : sort_at old c ≡ Some sort.Bool
  pub first : HasSorted old (cells_at table a) both
  pub second : HasSorted old (cells_at table b) both
  pub first_sort : sort_at old a ≡ Some both
  pub second_sort : sort_at old b ≡ Some both

pub pick_ready : {old : List Node} {table : List (List ℕ)} {c a b at : ℕ} → Here old table (Pick c a b) at → PickReady old table c a b
pick_ready {old} {table} {c} {a} {b} {at} h =
    let s = here_sorted h in
    let p = pick_parts (sort_at old c) (sort_at old a) (sort_at old b) s.0 s.1 in
    record {
      both = s.0;
      test = single_part old (cells_at table c) c h.graph (h.shaped c (first_of (nat_eq c c) (nat_eq c a || nat_eq c b) (itself c))) (ap is_plain p.0);
      truth = p.0;
      first = sorted_part old (cells_at table a) a s.0 (h.shaped a (second_of (nat_eq a c) (nat_eq a a || nat_eq a b) (first_of (nat_eq a a) (nat_eq a b) (itself a)))) p.1;
      second = sorted_part old (cells_at table b) b s.0 (h.shaped b (second_of (nat_eq b c) (nat_eq b a || nat_eq b b) (second_of (nat_eq b a) (nat_eq b b) (itself b)))) p.2;
      first_sort = p.1;
      second_sort = p.2;
    }

pub pick_made : {old new : List Node} (table : List (List ℕ)) (c a b at : ℕ) (ids : List ℕ) → Here old table (Pick c a b) at
    → Makes old new (UsesPicks (get_or (cells_at table c) 0 0) (cells_at table a) (cells_at table b)) ids (length (cells_at table a)) (sort_at old (get_or (cells_at table a) 0 0))
    (λ env i. pick_value (value_at env old (get_or (cells_at table c) 0 0)) (value_at env old (get_or (cells_at table a) i 0)) (value_at env old (get_or (cells_at table b) i 0)))
    (length (cells_at table a) * bits_in (sort_at old (get_or (cells_at table a) 0 0)))
    → MakesCells old new table (Pick c a b) at ids
unfolding pick_ready
pick_made {old} {new} table c a b at ids h m =
    let r = pick_ready h in
    let s = here_sorted h in
    let es : sort_at old at ≡ Some r.both = here_sort h ∙ s.1 in
    let pc : IsTrue (is_part (Pick c a b) c) = first_of (nat_eq c c) (nat_eq c a || nat_eq c b) (itself c) in
    let pa : IsTrue (is_part (Pick c a b) a) = second_of (nat_eq a c) (nat_eq a a || nat_eq a b) (first_of (nat_eq a a) (nat_eq a b) (itself a)) in
    let pb : IsTrue (is_part (Pick c a b) b) = second_of (nat_eq b c) (nat_eq b a || nat_eq b b) (second_of (nat_eq b a) (nat_eq b b) (itself b)) in
    finish h m (r.first.size ∙ ap cells_in (sym es)) (r.first.first ∙ ap cell_sort (sym es))
    (λ u parts. (r.test.has u (parts c pc), parts a pa, parts b pb))
    (λ env f parts i l.
    ap₂ (λ (x y : Value). pick_value x y (value_at env old (get_or (cells_at table b) i 0))) (r.test.is env f (parts c pc)) (parts a pa i l)
    ∙ ap (pick_value (value_at env old c) (cell_of (value_at env old a) i)) (parts b pb i (omega (arith, r.first.size, r.second.size)))
    ∙ sym (cells_pick (value_at env old c) (value_at env old a) (value_at env old b) i (nodes_have_their_sorts old h.graph env f c sort.Bool r.truth))
    ∙ ap (λ (v : Value). cell_of v i) (sym (here_value h env)))
    (omega (arith, here_weight h, ap bits_in r.first_sort, all_bits r.both, ap₂ (λ (n : ℕ) (o : Option Sort). n * bits_in o) r.first.size r.first.first))

-- ---- reads

pub record ReadReady (old : List Node) (table : List (List ℕ)) (row i index : ℕ) : Type 0 where
  pub width : ℕ
  pub row_sort : sort_at old row ≡ Some (sort.Row index width)
  pub at_sort : sort_at old i ≡ Some (sort.Word index)
  pub at : IsSingle old (cells_at table i) i
  pub cells : HasSorted old (cells_at table row) (sort.Row index width)
  pub low : 1 ≤ index
  pub bits : 1 ≤ width

pub read_ready : {old : List Node} {table : List (List ℕ)} {row i at : ℕ} (index : ℕ) → Here old table (Get row i) at → index ≡ index_in (sort_at old row) → ReadReady old table row i index
read_ready {old} {table} {row} {i} {at} index h e =
    let s = here_sorted h in
    let p = get_parts (sort_at old row) (sort_at old i) s.0 s.1 in
    let k : index ≡ p.0 = e ∙ ap index_in p.2 in
    let v = sort_limits old h.graph row (sort.Row p.0 p.1) p.2 in
    let P : ℕ → Type 0 = λ n. ReadReady old table row i n in
    subst P (sym k) (record {
      width = p.1;
      row_sort = p.2;
      at_sort = p.3;
      at = single_part old (cells_at table i) i h.graph (h.shaped i (second_of (nat_eq i row) (nat_eq i i) (itself i))) (ap is_plain p.3);
      cells = sorted_part old (cells_at table row) row (sort.Row p.0 p.1) (h.shaped row (first_of (nat_eq row row) (nat_eq row i) (itself row))) p.2;
      low = (index_bits p.0 p.1 v).0;
      bits = cell_bits (sort.Row p.0 p.1) v;
    })

last_part : (m w : ℕ) → (m + 1) * w ≡ m * w + w
last_part m w = grind arith

read_cost : (k n w : ℕ) → 2 * k ≤ n → 1 ≤ w → 1 ≤ n → 2 * k + (n - 1) * w ≤ 2 * (w * n)
read_cost k n w h l p =
    let m : n ≡ n - 1 + 1 = omega arith in
    let e : n * w ≡ (n - 1) * w + w = ap (λ (z : ℕ). z * w) m ∙ last_part (n - 1) w in
    omega (arith, times_at_least n w l, mul_comm w n, e)

pub read_made : {old new : List Node} (table : List (List ℕ)) (row i at id index : ℕ) (ids : List ℕ) → Here old table (Get row i) at → index ≡ index_in (sort_at old row)
    → MakesOne old new (UsesRead (cells_at table row) (get_or (cells_at table i) 0 0)) id (sort_at old (get_or (cells_at table row) 0 0))
    (λ env. chosen (bit_value (value_at env old (get_or (cells_at table i) 0 0))) (λ c. value_at env old (get_or (cells_at table row) c 0)) index 0)
    (2 * index + (2 ^ index - 1) * bits_in (sort_at old (get_or (cells_at table row) 0 0)))
    → ids ≡ id ∷ [] → MakesCells old new table (Get row i) at ids
read_made {old} {new} table row i at id index ids h e m eq =
    let r = read_ready index h e in
    let s = here_sorted h in
    let p = get_parts (sort_at old row) (sort_at old i) s.0 s.1 in
    let pr : IsTrue (is_part (Get row i) row) = first_of (nat_eq row row) (nat_eq row i) (itself row) in
    let pi : IsTrue (is_part (Get row i) i) = second_of (nat_eq i row) (nat_eq i i) (itself i) in
    let word : Some (sort.Row p.0 p.1) ≡ Some (sort.Row index r.width) = sym p.2 ∙ r.row_sort in
    let es : sort_at old at ≡ Some (sort.Word r.width) = here_sort h ∙ s.1 ∙ p.4 ∙ ap cell_sort word in
    finish_one ids h m eq (r.cells.first ∙ sym es) (ap is_plain es)
    (λ u parts. (parts row pr, r.at.has u (parts i pi)))
    (λ env f parts.
    ap (λ (v : Value). chosen (bit_value v) (λ c. value_at env old (get_or (cells_at table row) c 0)) index 0) (r.at.is env f (parts i pi))
    ∙ chosen_same (bit_value (value_at env old i)) (λ c. value_at env old (get_or (cells_at table row) c 0)) (cell_of (value_at env old row)) index 0 (2 ^ index) (omega arith)
    (λ c l. parts row pr c (omega (arith, r.cells.size)))
    ∙ sym (cells_read (value_at env old row) (value_at env old i) index r.width (nodes_have_their_sorts old h.graph env f row (sort.Row index r.width) r.row_sort) (nodes_have_their_sorts old h.graph env f i (sort.Word index) r.at_sort))
    ∙ sym (here_value h env))
    (omega (arith, here_weight h, ap bits_in r.row_sort, ap (λ (o : Option Sort). (2 ^ index - 1) * bits_in o) r.cells.first, read_cost index (2 ^ index) r.width (doubled index) r.bits (pow_pos index)))

-- ---- writes

pub record WriteReady (old : List Node) (table : List (List ℕ)) (row i cell index : ℕ) : Type 0 where
  pub width : ℕ
  pub row_sort : sort_at old row ≡ Some (sort.Row index width)
  pub at_sort : sort_at old i ≡ Some (sort.Word index)
  pub cell_is : sort_at old cell ≡ Some (sort.Word width)
  pub at : IsSingle old (cells_at table i) i
  pub one : IsSingle old (cells_at table cell) cell
  pub cells : HasSorted old (cells_at table row) (sort.Row index width)
  pub word : IsWord index 0
  pub plain : IsTrue (is_plain (sort_at old (get_or (cells_at table cell) 0 0)))
  pub same : HaveSort old (cells_at table row) (sort_at old (get_or (cells_at table cell) 0 0))

pub write_ready : {old : List Node} {table : List (List ℕ)} {row i cell at : ℕ} (index : ℕ) → Here old table (Set row i cell) at → index ≡ index_in (sort_at old row) → WriteReady old table row i cell index
write_ready {old} {table} {row} {i} {cell} {at} index h e =
    let s = here_sorted h in
    let p = set_parts (sort_at old row) (sort_at old i) (sort_at old cell) s.0 s.1 in
    let k : index ≡ p.0 = e ∙ ap index_in p.2 in
    let v = sort_limits old h.graph row (sort.Row p.0 p.1) p.2 in
    let P : ℕ → Type 0 = λ n. WriteReady old table row i cell n in
    let one = single_part old (cells_at table cell) cell h.graph (h.shaped cell (second_of (nat_eq cell row) (nat_eq cell i || nat_eq cell cell) (second_of (nat_eq cell i) (nat_eq cell cell) (itself cell)))) (ap is_plain p.4) in
    let cells = sorted_part old (cells_at table row) row (sort.Row p.0 p.1) (h.shaped row (first_of (nat_eq row row) (nat_eq row i || nat_eq row cell) (itself row))) p.2 in
    subst P (sym k) (record {
      width = p.1;
      row_sort = p.2;
      at_sort = p.3;
      cell_is = p.4;
      at = single_part old (cells_at table i) i h.graph (h.shaped i (second_of (nat_eq i row) (nat_eq i i || nat_eq i cell) (first_of (nat_eq i i) (nat_eq i cell) (itself i)))) (ap is_plain p.3);
      one = one;
      cells = cells;
      word = index_word p.0 p.1 v;
      plain = ap is_plain (one.sorted ∙ p.4);
      same = λ c l. cells.sorted c l ∙ sym (one.sorted ∙ p.4);
    })

write_cost : (n k w : ℕ) → n * (k + w) ≤ 2 * ((w + k) * n)
write_cost n k w = grind arith

pub write_made : {old new : List Node} (table : List (List ℕ)) (row i cell at index : ℕ) (ids : List ℕ) → Here old table (Set row i cell) at → index ≡ index_in (sort_at old row)
    → Makes old new (UsesWrite (cells_at table row) (get_or (cells_at table i) 0 0) (get_or (cells_at table cell) 0 0)) ids (2 ^ index) (sort_at old (get_or (cells_at table cell) 0 0))
    (λ env c. written index (value_at env old (get_or (cells_at table i) 0 0)) (value_at env old (get_or (cells_at table cell) 0 0)) c (value_at env old (get_or (cells_at table row) c 0)))
    (2 ^ index * (index + bits_in (sort_at old (get_or (cells_at table cell) 0 0))))
    → MakesCells old new table (Set row i cell) at ids
write_made {old} {new} table row i cell at index ids h e m =
    let r = write_ready index h e in
    let s = here_sorted h in
    let p = set_parts (sort_at old row) (sort_at old i) (sort_at old cell) s.0 s.1 in
    let pr : IsTrue (is_part (Set row i cell) row) = first_of (nat_eq row row) (nat_eq row i || nat_eq row cell) (itself row) in
    let pi : IsTrue (is_part (Set row i cell) i) = second_of (nat_eq i row) (nat_eq i i || nat_eq i cell) (first_of (nat_eq i i) (nat_eq i cell) (itself i)) in
    let pc : IsTrue (is_part (Set row i cell) cell) = second_of (nat_eq cell row) (nat_eq cell i || nat_eq cell cell) (second_of (nat_eq cell i) (nat_eq cell cell) (itself cell)) in
    let word : Some (sort.Row p.0 p.1) ≡ Some (sort.Row index r.width) = sym p.2 ∙ r.row_sort in
    let es : sort_at old at ≡ Some (sort.Row index r.width) = here_sort h ∙ s.1 ∙ p.5 ∙ word in
    let ec : sort_at old (get_or (cells_at table cell) 0 0) ≡ Some (sort.Word r.width) = r.one.sorted ∙ r.cell_is in
    finish h m (ap cells_in (sym es)) (ec ∙ ap cell_sort (sym es))
    (λ u parts. (parts row pr, r.at.has u (parts i pi), r.one.has u (parts cell pc)))
    (λ env f parts c l.
    ap₂ (λ (x y : Value). written index x y c (value_at env old (get_or (cells_at table row) c 0))) (r.at.is env f (parts i pi)) (r.one.is env f (parts cell pc))
    ∙ ap (written index (value_at env old i) (value_at env old cell) c) (parts row pr c (omega (arith, r.cells.size)))
    ∙ sym (cells_write (value_at env old row) (value_at env old i) (value_at env old cell) index r.width c
    (nodes_have_their_sorts old h.graph env f row (sort.Row index r.width) r.row_sort) (nodes_have_their_sorts old h.graph env f i (sort.Word index) r.at_sort) (nodes_have_their_sorts old h.graph env f cell (sort.Word r.width) r.cell_is) l)
    ∙ ap (λ (v : Value). cell_of v c) (sym (here_value h env)))
    (omega (arith, here_weight h, ap set_weight r.row_sort, ap (λ (o : Option Sort). 2 ^ index * (index + bits_in o)) ec, write_cost (2 ^ index) index r.width))

-- ---- fills

pub fill_one : {old : List Node} {table : List (List ℕ)} {index cell at : ℕ} → Here old table (Fill index cell) at → IsSingle old (cells_at table cell) cell
fill_one {old} {table} {index} {cell} {at} h =
    let s = here_sorted h in
    single_part old (cells_at table cell) cell h.graph (h.shaped cell (itself cell)) (ap is_plain (fill_parts index (sort_at old cell) s.0 s.1).1)

pub fill_index : {old : List Node} {table : List (List ℕ)} {index cell at : ℕ} → Here old table (Fill index cell) at → IsTrue (is_index index)
fill_index {old} {table} {index} {cell} {at} h = h.graph.limits at (Fill index cell) h.node

pub few_bits : (index : ℕ) → IsTrue (is_index index) → index ≤ 6
few_bits index h = leb-true index 6 (and_parts (leb 1 index) (leb index 6) h).1

all_replicated : (u : List ℕ) (n x : ℕ) → Has u x → AllIn u (replicate n x)
all_replicated u zero x h = tt
all_replicated u (suc n) x h = (h, all_replicated u n x h)

pub fill_made : {old : List Node} (table : List (List ℕ)) (index cell at : ℕ) (ids : List ℕ) → Here old table (Fill index cell) at → ids ≡ replicate (2 ^ index) (get_or (cells_at table cell) 0 0) → MakesCells old old table (Fill index cell) at ids
fill_made {old} table index cell at ids h eq =
    let s = here_sorted h in
    let p = fill_parts index (sort_at old cell) s.0 s.1 in
    let x = fill_one h in
    let first = get_or (cells_at table cell) 0 0 in
    let es : sort_at old at ≡ Some (sort.Row index p.0) = here_sort h ∙ s.1 ∙ p.2 in
    let k : length ids ≡ 2 ^ index = ap length eq ∙ length-replicate (2 ^ index) first in
    let each : (c : ℕ) → c < length ids → get_or ids c 0 ≡ first = λ c l. ap (λ (xs : List ℕ). get_or xs c 0) eq ∙ get_or-replicate (2 ^ index) c first 0 (omega (arith, k)) in
    let m : Makes old old (λ u. Has u first) ids (2 ^ index) (sort_at old first) (λ env c. value_at env old first) 0 = record {
      calm = calm_refl old;
      adds = adds_none (λ u. Has u first) ids 0 (grows_refl old) (λ u y. let P : List ℕ → Type 0 = λ xs. AllIn u xs in subst P (sym eq) (all_replicated u (2 ^ index) first y));
      size = k;
      sorted = λ c l. ap (sort_at old) (each c l);
      is = λ env f c l. ap (value_at env old) (each c l);
    } in
    finish h m (ap cells_in (sym es)) (x.sorted ∙ p.1 ∙ ap cell_sort (sym es))
    (λ u parts. x.has u (parts cell (itself cell)))
    (λ env f parts c l.
    x.is env f (parts cell (itself cell))
    ∙ sym (cells_fill index (value_at env old cell) p.0 c (nodes_have_their_sorts old h.graph env f cell (sort.Word p.0) p.1) (fill_index h) l)
    ∙ ap (λ (v : Value). cell_of v c) (sym (here_value h env)))
    (omega arith)

-- ---- constants

pub row_made : {old new : List Node} (table : List (List ℕ)) (row : Cells) (at : ℕ) (ids : List ℕ) → Here old table (Constant (value.Row row)) at
    → Makes old new UsesNone ids (2 ^ row.index) (Some (sort.Word row.width)) (λ env c. value.Word (row.width, cell_at row c)) 0
    → MakesCells old new table (Constant (value.Row row)) at ids
row_made {old} {new} table row at ids h m =
    let es = here_sort h in
    finish h m (ap cells_in (sym es)) (ap cell_sort (sym es)) (λ u parts. tt)
    (λ env f parts c l. ap (λ (v : Value). cell_of v c) (sym (here_value h env)))
    (omega arith)

-- ---- comparisons

pub record CompareReady (old : List Node) (table : List (List ℕ)) (op : Two) (a b : ℕ) : Type 0 where
  pub both : Sort
  pub first : HasSorted old (cells_at table a) both
  pub second : HasSorted old (cells_at table b) both
  pub first_sort : sort_at old a ≡ Some both
  pub second_sort : sort_at old b ≡ Some both
  pub result : two_sort op (sort_at old a) (sort_at old b) ≡ Some sort.Bool
  pub bits : 1 ≤ bits_in (cell_sort (Some both))

pub joins_comparison : (op join : Two) → Joins op join → IsComparison op
joins_comparison op join (inl h) = inl h.0
joins_comparison op join (inr h) = inr h.0

pub joins_join : (op join : Two) → Joins op join → IsJoin join
joins_join op join (inl h) = inl h.1
joins_join op join (inr h) = inr h.1

compares : (op : Two) → IsComparison op → is_comparison op ≡ true
compares op (inl e) = ap is_comparison e
compares op (inr e) = ap is_comparison e

truth_result : (op : Two) (o p : Option Sort) (s : Sort) → is_comparison op ≡ true → two_sort op o p ≡ Some s → two_sort op o p ≡ Some sort.Bool
truth_result Eq o p s n e = let t = over (common_sort o p) s e in e ∙ ap (λ (r : Sort). Some r) (sym t.2)
truth_result Ne o p s n e = let t = over (common_sort o p) s e in e ∙ ap (λ (r : Sort). Some r) (sym t.2)
truth_result _ o p s n e = absurd (false≢true n)

pub compare_ready : {old : List Node} {table : List (List ℕ)} {op : Two} {a b at : ℕ} → IsComparison op → Here old table (Twice op a b) at → CompareReady old table op a b
compare_ready {old} {table} {op} {a} {b} {at} io h =
    let s = here_sorted h in
    let p = compared_parts op (sort_at old a) (sort_at old b) s.0 (compares op io) s.1 in
    let v = sort_limits old h.graph a p.0 p.1 in
    record {
      both = p.0;
      first = sorted_part old (cells_at table a) a p.0 (h.shaped a (first_of (nat_eq a a) (nat_eq a b) (itself a))) p.1;
      second = sorted_part old (cells_at table b) b p.0 (h.shaped b (second_of (nat_eq b a) (nat_eq b b) (itself b))) p.2;
      first_sort = p.1;
      second_sort = p.2;
      result = truth_result op (sort_at old a) (sort_at old b) s.0 (compares op io) s.1;
      bits = cell_bits p.0 v;
    }

cells_compared : (op join : Two) (x y : Value) (s : Sort) → Joins op join → HasSort x s → HasSort y s → two_value op x y ≡ joined op join (cell_of x) (cell_of y) (cells_in (Some s) - 1)
cells_compared op join x y s (inl h) hx hy =
    ap (λ (o : Two). two_value o x y) h.0 ∙ cells_equal x y s hx hy ∙ ap₂ (λ (o j : Two). joined o j (cell_of x) (cell_of y) (cells_in (Some s) - 1)) (sym h.0) (sym h.1)
cells_compared op join x y s (inr h) hx hy =
    ap (λ (o : Two). two_value o x y) h.0 ∙ cells_differ x y s hx hy ∙ ap₂ (λ (o j : Two). joined o j (cell_of x) (cell_of y) (cells_in (Some s) - 1)) (sym h.0) (sym h.1)

one_each : (n b : ℕ) → n * (b + 1) ≡ n * b + n
one_each n b = grind arith

pub compare_made : {old new : List Node} (table : List (List ℕ)) (op join : Two) (a b at id : ℕ) (ids : List ℕ) → Joins op join → Here old table (Twice op a b) at
    → MakesOne old new (UsesPairs (cells_at table a) (cells_at table b)) id (Some sort.Bool)
    (λ env. joined op join (λ c. value_at env old (get_or (cells_at table a) c 0)) (λ c. value_at env old (get_or (cells_at table b) c 0)) (length (cells_at table a) - 1))
    (length (cells_at table a) * (bits_in (sort_at old (get_or (cells_at table a) 0 0)) + 1))
    → ids ≡ id ∷ [] → MakesCells old new table (Twice op a b) at ids
compare_made {old} {new} table op join a b at id ids ij h m eq =
    let io = joins_comparison op join ij in
    let r = compare_ready io h in
    let n = length (cells_at table a) in
    let pa : IsTrue (is_part (Twice op a b) a) = first_of (nat_eq a a) (nat_eq a b) (itself a) in
    let pb : IsTrue (is_part (Twice op a b) b) = second_of (nat_eq b a) (nat_eq b b) (itself b) in
    let es : sort_at old at ≡ Some sort.Bool = here_sort h ∙ r.result in
    let size = r.first.size in
    let some = r.first.some in
    finish_one ids h m eq (sym es) (ap is_plain es)
    (λ u parts. (parts a pa, parts b pb))
    (λ env f parts.
    joined_same op join (λ c. value_at env old (get_or (cells_at table a) c 0)) (λ c. value_at env old (get_or (cells_at table b) c 0)) (cell_of (value_at env old a)) (cell_of (value_at env old b)) (n - 1)
    (λ c l. parts a pa c (omega arith)) (λ c l. parts b pb c (omega (arith, r.second.size)))
    ∙ ap (λ (k : ℕ). joined op join (cell_of (value_at env old a)) (cell_of (value_at env old b)) (k - 1)) size
    ∙ sym (cells_compared op join (value_at env old a) (value_at env old b) r.both ij (nodes_have_their_sorts old h.graph env f a r.both r.first_sort) (nodes_have_their_sorts old h.graph env f b r.both r.second_sort))
    ∙ sym (here_value h env))
    (omega (
      arith,
      here_weight h,
      comparison_weight op (bits_in (sort_at old a)) io,
      ap bits_in r.first_sort,
      all_bits r.both,
      one_each n (bits_in (sort_at old (get_or (cells_at table a) 0 0))),
      times_at_least n (bits_in (cell_sort (Some r.both))) r.bits,
      ap (λ (o : Option Sort). n * bits_in o) r.first.first,
      ap (λ (k : ℕ). k * bits_in (cell_sort (Some r.both))) size,
    ))
