-- The only cell of a node that is a bool or a word.
use Rattle.std.proofs.Common.{◌≡◌, ℕ, ◌*◌, ◌<◌, ◌≤◌, Bool, false, nat_eq, List, [], ◌∷◌, get_or, refl, sym, ap, ap₂, ◌∙◌, subst, inl, arith, Some, Option, IsTrue}
use Rattle.std.specs.Prelude.{slice_get, ◌||◌}
use Rattle.std.proofs.lemmas.Bool.{eq-eqb, or_left, or_right}
use Rattle.civl_bits.specs.declared.value.Value.{Value}
use Rattle.civl_tree.specs.declared.expr.Sort.{Sort}
use Rattle.civl_tree.specs.declared.expr.One.{One}
use Rattle.civl_tree.specs.declared.expr.Two.{Two}
use Rattle.civl_tree.specs.rules.Sorts.{one_sort, two_sort, slice_sort, widen_sort, join_sort}
use Rattle.civl_firing.specs.values.Operators.{one_value, two_value, slice_value, widen_value, join_value}
use Rattle.civl_firing.specs.values.Weights.{bits_in, one_weight, two_weight, move_weight}
use Rattle.civl_terms.specs.declared.node.Node.{Node}
use Rattle.civl_terms.specs.declared.node.Node.TheVariants.{One as Once, Two as Twice, Slice, Widen, Join}
use Rattle.civl_terms.specs.Graphs.{sort_at, value_at, IsGraph, Fits}
use Rattle.civl_terms.specs.Weights.{own_weight, is_part}
use Rattle.civl_blast.specs.reach.Reaching.{is_plain}
use Rattle.civl_blast.specs.rows.Cells.{cell_of, cells_in, cell_sort}
use Rattle.civl_blast.specs.inner.rows.Making.{PartsHaveCells, HasParts, IsOwn, Here, cells_at, Makes, MakesOne, MakesCells, UsesOne, UsesTwo, is_comparison}
use Rattle.civl_blast.proofs.rows.Growth.{calm_refl, lengthens_refl}
use Rattle.civl_blast.proofs.rows.Solid.{takes_as, takes_node}
use Rattle.civl_blast.proofs.rows.Parts.{here_within, here_sort, here_value, here_weight, here_sorted, IsSingle, single_part, plain_cells, plain_cell_sort, own_cell, one_part_plain, one_plain, two_plain, slice_parts, widen_parts, join_parts}

-- ---- parts

pub itself : (a : ℕ) → IsTrue (nat_eq a a)
itself a = eq-eqb a a refl

pub first_of : (a b : Bool) → IsTrue a → IsTrue (a || b)
first_of a b h = or_left a b h

pub second_of : (a b : Bool) → IsTrue b → IsTrue (a || b)
second_of a b h = or_right a b h

-- ---- what a node's cells are, once they were built

pub finish : {old new : List Node} {table : List (List ℕ)} {n : Node} {at : ℕ} {Uses : List ℕ → Type 0} {ids : List ℕ} {count cost : ℕ} {s : Option Sort} {value : (ℕ → Value) → ℕ → Value}
    → Here old table n at → Makes old new Uses ids count s value cost → count ≡ cells_in (sort_at old at) → s ≡ cell_sort (sort_at old at) → ((u : List ℕ) → HasParts table n u → Uses u)
    → ((env : ℕ → Value) → Fits env old → PartsHaveCells env old table n → (c : ℕ) → c < count → value env c ≡ cell_of (value_at env old at) c)
    → cost ≤ 2 * own_weight old at → MakesCells old new table n at ids
finish {old} {new} {table} {n} {at} {Uses} {ids} {count} {cost} {s} {value} h m size sorted uses is light =
    let g = m.calm.grows in
    let es : sort_at new at ≡ sort_at old at = g.sorts at (here_within h) in
    record {
      calm = m.calm;
      shape = record { size = m.size ∙ size ∙ ap cells_in (sym es); sorted = λ c l. m.sorted c l ∙ sorted ∙ ap cell_sort (sym es) };
      is = λ env f parts c l.
          m.is env f c l ∙ is env (g.fits env f) parts c (omega (arith, m.size)) ∙ ap (λ (v : Value). cell_of v c) (sym (g.values env at (here_within h)));
      adds = takes_as (HasParts table n) (IsOwn old at) ids (2 * own_weight old at) m.adds (λ i y. absurd y) uses (λ u t p c a. a) light;
    }

zero_below : (c : ℕ) → c < 1 → c ≡ 0
zero_below c l = omega arith

pub finish_one : {old new : List Node} {table : List (List ℕ)} {n : Node} {at : ℕ} {Uses : List ℕ → Type 0} {id cost : ℕ} {s : Option Sort} {value : (ℕ → Value) → Value} (ids : List ℕ)
    → Here old table n at → MakesOne old new Uses id s value cost → ids ≡ id ∷ [] → s ≡ sort_at old at → IsTrue (is_plain (sort_at old at)) → ((u : List ℕ) → HasParts table n u → Uses u)
    → ((env : ℕ → Value) → Fits env old → PartsHaveCells env old table n → value env ≡ value_at env old at)
    → cost ≤ 2 * own_weight old at → MakesCells old new table n at ids
finish_one {old} {new} {table} {n} {at} {Uses} {id} {cost} {s} {value} ids h m eq sorted p uses is light =
    let P : List ℕ → Type 0 = λ xs. MakesCells old new table n at xs in
    let one : Makes old new Uses (id ∷ []) 1 s (λ env c. value env) cost = record {
      calm = m.calm;
      adds = m.adds;
      size = refl;
      sorted = λ c l. ap (λ (i : ℕ). sort_at new (get_or (id ∷ []) i 0)) (zero_below c l) ∙ m.sorted;
      is = λ env f c l. ap (λ (i : ℕ). value_at env new (get_or (id ∷ []) i 0)) (zero_below c l) ∙ m.is env f;
    } in
    subst P (sym eq) (finish h one (sym (plain_cells (sort_at old at) p)) (sorted ∙ sym (plain_cell_sort (sort_at old at) p)) uses
    (λ env f parts c l. is env f parts ∙ sym (own_cell old h.graph env f at c p)) light)

-- ---- bools and words that have no parts stand for themselves

pub leaf_made : {old : List Node} (table : List (List ℕ)) (n : Node) (at : ℕ) (ids : List ℕ) → Here old table n at → ((k : ℕ) → IsTrue (is_part n k) → ⊥) → IsTrue (is_plain (sort_at old at)) → ids ≡ at ∷ [] → MakesCells old old table n at ids
leaf_made {old} table n at ids h none p eq =
    let P : List ℕ → Type 0 = λ xs. MakesCells old old table n at xs in
    subst P (sym eq) (record {
      calm = calm_refl old;
      shape = record {
        size = sym (plain_cells (sort_at old at) p);
        sorted = λ c l. ap (λ (i : ℕ). sort_at old (get_or (at ∷ []) i 0)) (zero_below c l) ∙ sym (plain_cell_sort (sort_at old at) p);
      };
      is = λ env f parts c l. ap (λ (i : ℕ). value_at env old (get_or (at ∷ []) i 0)) (zero_below c l) ∙ sym (own_cell old h.graph env f at c p);
      adds = takes_node (HasParts table n) (IsOwn old at) at (2 * own_weight old at) n (lengthens_refl old) h.node p (λ u x k q. absurd (none k q)) (λ k s q. inl refl) (omega (arith, here_weight h));
    })

pub leaf_here : {old : List Node} (table : List (List ℕ)) (n : Node) (at : ℕ) → IsGraph old → slice_get old at ≡ Some n → ((k : ℕ) → IsTrue (is_part n k) → ⊥) → Here old table n at
leaf_here {old} table n at graph e none = record { graph = graph; node = e; shaped = λ k q. absurd (none k q) }

-- ---- operations on bools and words

pub one_single : {old : List Node} {table : List (List ℕ)} {op : One} {a at : ℕ} → Here old table (Once op a) at → IsSingle old (cells_at table a) a
one_single {old} {table} {op} {a} {at} h =
    let s = here_sorted h in
    single_part old (cells_at table a) a h.graph (h.shaped a (itself a)) (one_part_plain op (sort_at old a) s.0 s.1)

pub one_is_plain : {old : List Node} {table : List (List ℕ)} {op : One} {a at : ℕ} → Here old table (Once op a) at → IsTrue (is_plain (one_sort op (sort_at old (get_or (cells_at table a) 0 0))))
one_is_plain {old} {table} {op} {a} {at} h =
    let s = here_sorted h in
    ap (λ (o : Option Sort). is_plain (one_sort op o)) (one_single h).sorted ∙ one_plain op (sort_at old a) s.0 s.1

pub one_made : {old new : List Node} (table : List (List ℕ)) (op : One) (a at id : ℕ) (ids : List ℕ) → Here old table (Once op a) at
    → MakesOne old new (UsesOne (get_or (cells_at table a) 0 0)) id (one_sort op (sort_at old (get_or (cells_at table a) 0 0))) (λ env. one_value op (value_at env old (get_or (cells_at table a) 0 0))) (one_weight op (bits_in (sort_at old (get_or (cells_at table a) 0 0))))
    → ids ≡ id ∷ [] → MakesCells old new table (Once op a) at ids
one_made {old} {new} table op a at id ids h m eq =
    let x = one_single h in
    finish_one ids h m eq (ap (one_sort op) x.sorted ∙ sym (here_sort h))
    (ap is_plain (here_sort h ∙ ap (one_sort op) (sym x.sorted)) ∙ one_is_plain h)
    (λ u parts. x.has u (parts a (itself a)))
    (λ env f parts. ap (one_value op) (x.is env f (parts a (itself a))) ∙ sym (here_value h env))
    (omega (arith, here_weight h, ap (λ (o : Option Sort). one_weight op (bits_in o)) x.sorted))

pub two_first : {old : List Node} {table : List (List ℕ)} {op : Two} {a b at : ℕ} → is_comparison op ≡ false → Here old table (Twice op a b) at → IsSingle old (cells_at table a) a
two_first {old} {table} {op} {a} {b} {at} n h =
    let s = here_sorted h in
    single_part old (cells_at table a) a h.graph (h.shaped a (first_of (nat_eq a a) (nat_eq a b) (itself a))) (two_plain op (sort_at old a) (sort_at old b) s.0 n s.1).first

pub two_second : {old : List Node} {table : List (List ℕ)} {op : Two} {a b at : ℕ} → is_comparison op ≡ false → Here old table (Twice op a b) at → IsSingle old (cells_at table b) b
two_second {old} {table} {op} {a} {b} {at} n h =
    let s = here_sorted h in
    single_part old (cells_at table b) b h.graph (h.shaped b (second_of (nat_eq b a) (nat_eq b b) (itself b))) (two_plain op (sort_at old a) (sort_at old b) s.0 n s.1).second

pub two_is_plain : {old : List Node} {table : List (List ℕ)} {op : Two} {a b at : ℕ} → is_comparison op ≡ false → Here old table (Twice op a b) at → IsTrue (is_plain (two_sort op (sort_at old (get_or (cells_at table a) 0 0)) (sort_at old (get_or (cells_at table b) 0 0))))
two_is_plain {old} {table} {op} {a} {b} {at} n h =
    let s = here_sorted h in
    ap₂ (λ (o p : Option Sort). is_plain (two_sort op o p)) (two_first n h).sorted (two_second n h).sorted ∙ (two_plain op (sort_at old a) (sort_at old b) s.0 n s.1).result

pub two_made : {old new : List Node} (table : List (List ℕ)) (op : Two) (a b at id : ℕ) (ids : List ℕ) → is_comparison op ≡ false → Here old table (Twice op a b) at
    → MakesOne old new (UsesTwo (get_or (cells_at table a) 0 0) (get_or (cells_at table b) 0 0)) id (two_sort op (sort_at old (get_or (cells_at table a) 0 0)) (sort_at old (get_or (cells_at table b) 0 0))) (λ env. two_value op (value_at env old (get_or (cells_at table a) 0 0)) (value_at env old (get_or (cells_at table b) 0 0))) (two_weight op (bits_in (sort_at old (get_or (cells_at table a) 0 0))))
    → ids ≡ id ∷ [] → MakesCells old new table (Twice op a b) at ids
two_made {old} {new} table op a b at id ids n h m eq =
    let x = two_first n h in
    let y = two_second n h in
    let e = ap₂ (two_sort op) x.sorted y.sorted in
    finish_one ids h m eq (e ∙ sym (here_sort h))
    (ap is_plain (here_sort h ∙ sym e) ∙ two_is_plain n h)
    (λ u parts. (x.has u (parts a (first_of (nat_eq a a) (nat_eq a b) (itself a))), y.has u (parts b (second_of (nat_eq b a) (nat_eq b b) (itself b)))))
    (λ env f parts. ap₂ (two_value op) (x.is env f (parts a (first_of (nat_eq a a) (nat_eq a b) (itself a)))) (y.is env f (parts b (second_of (nat_eq b a) (nat_eq b b) (itself b)))) ∙ sym (here_value h env))
    (omega (arith, here_weight h, ap (λ (o : Option Sort). two_weight op (bits_in o)) x.sorted))

pub slice_single : {old : List Node} {table : List (List ℕ)} {a high low at : ℕ} → Here old table (Slice a high low) at → IsSingle old (cells_at table a) a
slice_single {old} {table} {a} {high} {low} {at} h =
    let s = here_sorted h in
    single_part old (cells_at table a) a h.graph (h.shaped a (itself a)) (slice_parts (sort_at old a) high low s.0 s.1).0

pub slice_is_plain : {old : List Node} {table : List (List ℕ)} {a high low at : ℕ} → Here old table (Slice a high low) at → IsTrue (is_plain (slice_sort (sort_at old (get_or (cells_at table a) 0 0)) high low))
slice_is_plain {old} {table} {a} {high} {low} {at} h =
    let s = here_sorted h in
    ap (λ (o : Option Sort). is_plain (slice_sort o high low)) (slice_single h).sorted ∙ (slice_parts (sort_at old a) high low s.0 s.1).1

pub slice_made : {old new : List Node} (table : List (List ℕ)) (a high low at id : ℕ) (ids : List ℕ) → Here old table (Slice a high low) at
    → MakesOne old new (UsesOne (get_or (cells_at table a) 0 0)) id (slice_sort (sort_at old (get_or (cells_at table a) 0 0)) high low) (λ env. slice_value (value_at env old (get_or (cells_at table a) 0 0)) high low) move_weight
    → ids ≡ id ∷ [] → MakesCells old new table (Slice a high low) at ids
slice_made {old} {new} table a high low at id ids h m eq =
    let x = slice_single h in
    let e = ap (λ (o : Option Sort). slice_sort o high low) x.sorted in
    finish_one ids h m eq (e ∙ sym (here_sort h))
    (ap is_plain (here_sort h ∙ sym e) ∙ slice_is_plain h)
    (λ u parts. x.has u (parts a (itself a)))
    (λ env f parts. ap (λ (v : Value). slice_value v high low) (x.is env f (parts a (itself a))) ∙ sym (here_value h env))
    (omega (arith, here_weight h))

pub widen_single : {old : List Node} {table : List (List ℕ)} {a width at : ℕ} → Here old table (Widen a width) at → IsSingle old (cells_at table a) a
widen_single {old} {table} {a} {width} {at} h =
    let s = here_sorted h in
    single_part old (cells_at table a) a h.graph (h.shaped a (itself a)) (widen_parts (sort_at old a) width s.0 s.1).0

pub widen_is_plain : {old : List Node} {table : List (List ℕ)} {a width at : ℕ} → Here old table (Widen a width) at → IsTrue (is_plain (widen_sort (sort_at old (get_or (cells_at table a) 0 0)) width))
widen_is_plain {old} {table} {a} {width} {at} h =
    let s = here_sorted h in
    ap (λ (o : Option Sort). is_plain (widen_sort o width)) (widen_single h).sorted ∙ (widen_parts (sort_at old a) width s.0 s.1).1

pub widen_made : {old new : List Node} (table : List (List ℕ)) (a width at id : ℕ) (ids : List ℕ) → Here old table (Widen a width) at
    → MakesOne old new (UsesOne (get_or (cells_at table a) 0 0)) id (widen_sort (sort_at old (get_or (cells_at table a) 0 0)) width) (λ env. widen_value (value_at env old (get_or (cells_at table a) 0 0)) width) move_weight
    → ids ≡ id ∷ [] → MakesCells old new table (Widen a width) at ids
widen_made {old} {new} table a width at id ids h m eq =
    let x = widen_single h in
    let e = ap (λ (o : Option Sort). widen_sort o width) x.sorted in
    finish_one ids h m eq (e ∙ sym (here_sort h))
    (ap is_plain (here_sort h ∙ sym e) ∙ widen_is_plain h)
    (λ u parts. x.has u (parts a (itself a)))
    (λ env f parts. ap (λ (v : Value). widen_value v width) (x.is env f (parts a (itself a))) ∙ sym (here_value h env))
    (omega (arith, here_weight h))

pub join_first : {old : List Node} {table : List (List ℕ)} {a b at : ℕ} → Here old table (Join a b) at → IsSingle old (cells_at table a) a
join_first {old} {table} {a} {b} {at} h =
    let s = here_sorted h in
    single_part old (cells_at table a) a h.graph (h.shaped a (first_of (nat_eq a a) (nat_eq a b) (itself a))) (join_parts (sort_at old a) (sort_at old b) s.0 s.1).first

pub join_second : {old : List Node} {table : List (List ℕ)} {a b at : ℕ} → Here old table (Join a b) at → IsSingle old (cells_at table b) b
join_second {old} {table} {a} {b} {at} h =
    let s = here_sorted h in
    single_part old (cells_at table b) b h.graph (h.shaped b (second_of (nat_eq b a) (nat_eq b b) (itself b))) (join_parts (sort_at old a) (sort_at old b) s.0 s.1).second

pub join_is_plain : {old : List Node} {table : List (List ℕ)} {a b at : ℕ} → Here old table (Join a b) at → IsTrue (is_plain (join_sort (sort_at old (get_or (cells_at table a) 0 0)) (sort_at old (get_or (cells_at table b) 0 0))))
join_is_plain {old} {table} {a} {b} {at} h =
    let s = here_sorted h in
    ap₂ (λ (o p : Option Sort). is_plain (join_sort o p)) (join_first h).sorted (join_second h).sorted ∙ (join_parts (sort_at old a) (sort_at old b) s.0 s.1).result

pub join_made : {old new : List Node} (table : List (List ℕ)) (a b at id : ℕ) (ids : List ℕ) → Here old table (Join a b) at
    → MakesOne old new (UsesTwo (get_or (cells_at table a) 0 0) (get_or (cells_at table b) 0 0)) id (join_sort (sort_at old (get_or (cells_at table a) 0 0)) (sort_at old (get_or (cells_at table b) 0 0))) (λ env. join_value (value_at env old (get_or (cells_at table a) 0 0)) (value_at env old (get_or (cells_at table b) 0 0))) move_weight
    → ids ≡ id ∷ [] → MakesCells old new table (Join a b) at ids
join_made {old} {new} table a b at id ids h m eq =
    let x = join_first h in
    let y = join_second h in
    let e = ap₂ join_sort x.sorted y.sorted in
    finish_one ids h m eq (e ∙ sym (here_sort h))
    (ap is_plain (here_sort h ∙ sym e) ∙ join_is_plain h)
    (λ u parts. (x.has u (parts a (first_of (nat_eq a a) (nat_eq a b) (itself a))), y.has u (parts b (second_of (nat_eq b a) (nat_eq b b) (itself b)))))
    (λ env f parts. ap₂ join_value (x.is env f (parts a (first_of (nat_eq a a) (nat_eq a b) (itself a)))) (y.is env f (parts b (second_of (nat_eq b a) (nat_eq b b) (itself b)))) ∙ sym (here_value h env))
    (omega (arith, here_weight h))
