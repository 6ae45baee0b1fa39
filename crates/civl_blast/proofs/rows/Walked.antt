-- The cells of the marked nodes, one node after the other.
use Rattle.std.proofs.Common.{◌≡◌, ℕ, zero, suc, ◌+◌, ◌*◌, ◌-◌, ◌^◌, ◌<◌, ◌≤◌, Bool, false, nat_eq, List, [], ◌∷◌, ◌++◌, length, get_or, refl, sym, ap, ◌∙◌, subst, inl, inr, arith, Some, None, Option, IsTrue, length-append}
use Rattle.std.specs.Prelude.{slice_get, if◌then◌else◌}
use Rattle.std.proofs.lemmas.Bool.{false≢true, cases_lt, cases_eq, cases_Bool, eqb-true, or_cases, leb-true, and_parts, lt-ltb, le-ltb, cond-true, cond-false}
use Rattle.std.proofs.Common.{leb, ltb, add-one}
use Rattle.std.proofs.lemmas.Option.{slice_get-get_or, slice_get_within}
use Rattle.std.proofs.lemmas.List.{get_or_append_left, get_or_push, length_push}
use Rattle.civl_bits.specs.declared.value.Value.{Value}
use Rattle.civl_tree.specs.declared.expr.Sort.{Sort}
use Rattle.civl_tree.specs.declared.expr.Sort.TheVariants as sort
use Rattle.civl_firing.specs.values.Operators.{nothing}
use Rattle.civl_tree.specs.rules.Exprs.{is_index, is_width}
use Rattle.civl_firing.specs.values.Values.{is_sort}
use Rattle.civl_terms.specs.declared.node.Node.{Node}
use Rattle.civl_terms.specs.declared.node.Node.TheVariants.{Constant, Variable}
use Rattle.civl_terms.specs.Graphs.{sort_at, value_at, IsGraph, IsDistinct, Fits}
use Rattle.civl_terms.specs.Weights.{own_weight, weight_in, is_part, with_parts, reached_weight, term_weight}
use Rattle.civl_terms.specs.Building.{Lengthens}
use Rattle.civl_blast.specs.reach.Reaching.{Reaches, is_plain, IsRowless}
use Rattle.civl_blast.specs.rows.Cells.{cell_of, cells_in, cell_sort, next_number, Reads, HasEntries, AddsCells, ReachesOnly}
use Rattle.civl_blast.specs.reach.Marks.{marked, weight_from, IsMarking}
use Rattle.civl_blast.specs.inner.rows.Making.{Has, AllIn, IsSolid, nodes_weight, HasShape, HasCells, PartsShaped, cells_at}
use Rattle.civl_blast.specs.inner.rows.Expanding.{Steps, entries_of}
use Rattle.civl_blast.specs.declared.rows.flat.Cell.{Cell}
use Rattle.civl_blast.proofs.reach.Marked.{weight-more, part_is_below}
use Rattle.civl_blast.proofs.rows.Growth.{grows_refl, lengthens_refl, lengthens_trans, node_stays, own_weight_stays, parts_wider}
use Rattle.civl_blast.proofs.rows.Solid.{all_covered, all_at}
use Rattle.civl_blast.proofs.rows.Parts.{own_cell}
use Rattle.civl_blast.proofs.rows.Expansions.{reads_append}
use Rattle.civl_blast.proofs.rows.Blocks.{length-entries}
use Rattle.civl_blast.proofs.rows.Added.{none_added, added_then}
use Rattle.civl_blast.proofs.rows.StepCells.{one_bit}
use Rattle.civl_blast.proofs.rows.Entering.{EntriesTo, entries_none, entries_skip, entries_step, kinds, row_variable}
use Rattle.civl_blast.proofs.Weighing.{weight_whole}

-- ---- the cells of a node stay those of the node

pub shape_stays : {old new : List Node} {ids : List ℕ} {i : ℕ} (s : List ℕ) → Lengthens old new → IsSolid old s → AllIn s ids → i < length old → HasShape old ids i → HasShape new ids i
shape_stays {old} {new} {ids} {i} s g solid all l h = record {
  size = h.size ∙ ap cells_in (sym (g.sorts i l));
  sorted = λ c k. g.sorts (get_or ids c 0) (solid.within (get_or ids c 0) (all_at s ids c 0 all k)) ∙ h.sorted c k ∙ ap cell_sort (sym (g.sorts i l));
}

pub cells_stay : {old new : List Node} (ids : List ℕ) {i : ℕ} (env : ℕ → Value) (s : List ℕ) → Lengthens old new → IsSolid old s → AllIn s ids → i < length old → HasCells env old ids i → HasCells env new ids i
cells_stay {old} {new} ids {i} env s g solid all l h =
    λ c k. g.values env (get_or ids c 0) (solid.within (get_or ids c 0) (all_at s ids c 0 all k)) ∙ h c k ∙ ap (λ (v : Value). cell_of v c) (sym (g.values env i l))

-- ---- the invariant

pub record Flattening (source ns : List Node) (id : ℕ) (marks : List Bool) (cells : List Cell) (table : List (List ℕ)) (at : ℕ) : Type 0 where
  pub grows : Lengthens source ns
  pub size : length table ≡ at
  pub fits : (env : ℕ → Value) → Fits env source → Reads env cells → Fits env ns
  pub numbers : next_number ns ≡ next_number source + length cells
  pub shaped : (i : ℕ) → i < at → IsTrue (marked marks i) → HasShape ns (cells_at table i) i
  pub is : (env : ℕ → Value) → Fits env source → Reads env cells → (i : ℕ) → i < at → IsTrue (marked marks i) → HasCells env ns (cells_at table i) i
  pub set : List ℕ
  pub solid : IsSolid ns set
  pub all : (i : ℕ) → i < at → IsTrue (marked marks i) → AllIn set (cells_at table i)
  pub weighs : nodes_weight ns set + 2 * weight_from source marks at (id + 1 - at) ≤ 2 * weight_from source marks 0 (id + 1)
  pub few : length cells + weight_from source marks at (id + 1 - at) ≤ weight_from source marks 0 (id + 1)
  pub entries : EntriesTo source marks at cells
  pub variables : AddsCells source ns cells
  pub reached : (i k : ℕ) (s : Sort) → Has set i → slice_get source i ≡ Some (Variable k s) → IsTrue (marked marks i)

pub walk_none : (source : List Node) (id : ℕ) (marks : List Bool) → Flattening source source id marks [] [] 0
walk_none source id marks = record {
  grows = lengthens_refl source;
  size = refl;
  fits = λ env f r. f;
  numbers = omega arith;
  shaped = λ i h. absurd (omega arith);
  is = λ env f r i h. absurd (omega arith);
  set = [];
  solid = record { within = λ i h. absurd h; closed = λ i k n h. absurd h; plain = λ i h. absurd h };
  all = λ i h. absurd (omega arith);
  weighs = let e : id + 1 - 0 ≡ id + 1 = omega arith in omega (arith, ap (weight_from source marks 0) e);
  few = let e : id + 1 - 0 ≡ id + 1 = omega arith in omega (arith, ap (weight_from source marks 0) e);
  entries = entries_none source marks;
  variables = none_added (grows_refl source) refl;
  reached = λ i k s h. absurd h;
}

-- what is left to go over
marked_rest : (source : List Node) (id at : ℕ) (marks : List Bool) → at ≤ id → IsTrue (marked marks at) → weight_from source marks at (id + 1 - at) ≡ own_weight source at + weight_from source marks (at + 1) (id + 1 - (at + 1))
marked_rest source id at marks l y = weight-more source marks at (id + 1 - (at + 1)) (id + 1 - at) (omega arith) ∙ ap (λ (x : ℕ). x + weight_from source marks (at + 1) (id + 1 - (at + 1))) (cond-true (marked marks at) (own_weight source at) 0 y)

other_rest : (source : List Node) (id at : ℕ) (marks : List Bool) → at ≤ id → marked marks at ≡ false → weight_from source marks at (id + 1 - at) ≡ weight_from source marks (at + 1) (id + 1 - (at + 1))
other_rest source id at marks l y = weight-more source marks at (id + 1 - (at + 1)) (id + 1 - at) (omega arith) ∙ ap (λ (x : ℕ). x + weight_from source marks (at + 1) (id + 1 - (at + 1))) (cond-false (marked marks at) (own_weight source at) 0 y) ∙ omega arith

row_bits : (index width : ℕ) → IsTrue (is_sort (sort.Row index width)) → 1 ≤ width
row_bits index width h = leb-true 1 width (and_parts (leb 1 width) (leb width 32) (and_parts (is_index index) (is_width width) h).1).0

-- a node makes at most as many entries as it weighs
entries_few : (ns : List Node) → IsGraph ns → (at : ℕ) (n : Node) (first : ℕ) → slice_get ns at ≡ Some n → length (entries_of n first) ≤ own_weight ns at
entries_few ns graph at n first e = elim (kinds n) [
  | inl r ↦
      let here = e ∙ ap (λ (x : Node). Some x) r.is in
      let own : own_weight ns at ≡ r.width * 2 ^ r.index = ap (weight_in ns) here in
      let many : length (entries_of n first) ≡ 2 ^ r.index = ap (λ (x : Node). length (entries_of x first)) r.is ∙ length-entries r.variable first (2 ^ r.index) in
      omega (arith, own, many, one_bit (2 ^ r.index) r.width (row_bits r.index r.width (graph.limits at (row_variable r.variable r.index r.width) here)))
  | inr r ↦ omega (arith, ap length (r.none first))
]

own_stays : {source ns : List Node} (at : ℕ) → IsGraph source → Lengthens source ns → at < length source → own_weight ns at ≡ own_weight source at
own_stays {source} {ns} at graph g l = own_weight_stays source ns at g l (λ n e. parts_wider at (length source) n (omega arith) (graph.parts at n e))

-- a node that isn't marked
pub walk_other : {source ns : List Node} {id : ℕ} {marks : List Bool} {cells : List Cell} {table : List (List ℕ)} {at : ℕ} (new : List Node) (after : List Cell) (out : List (List ℕ)) (ids : List ℕ) → Flattening source ns id marks cells table at → at ≤ id → marked marks at ≡ false → new ≡ ns → after ≡ cells → out ≡ table ++ ids ∷ [] → Flattening source new id marks after out (at + 1)
walk_other {source} {ns} {id} {marks} {cells} {table} {at} new after out ids m l y en ec eo =
    let P : List Node → Type 0 = λ xs. Flattening source xs id marks after out (at + 1) in
    let Q : List Cell → Type 0 = λ xs. Flattening source ns id marks xs out (at + 1) in
    let R : List (List ℕ) → Type 0 = λ xs. Flattening source ns id marks cells xs (at + 1) in
    let rest = other_rest source id at marks l y in
    let old : (i : ℕ) → i < at + 1 → IsTrue (marked marks i) → i < at = λ i h z. elim (cases_eq i at) [ inl e ↦ absurd (false≢true (sym y ∙ ap (marked marks) (sym e) ∙ z)) | inr d ↦ omega arith ] in
    let same : (i : ℕ) → i < at → cells_at (table ++ ids ∷ []) i ≡ cells_at table i = λ i h. get_or_append_left table (ids ∷ []) [] i (omega (arith, m.size)) in
    subst P (sym en) (subst Q (sym ec) (subst R (sym eo) (record {
      grows = m.grows;
      size = length_push table ids ∙ ap (λ (x : ℕ). x + 1) m.size;
      fits = m.fits;
      numbers = m.numbers;
      shaped = λ i h z. let S : List ℕ → Type 0 = λ xs. HasShape ns xs i in subst S (sym (same i (old i h z))) (m.shaped i (old i h z) z);
      is = λ env f r i h z. let S : List ℕ → Type 0 = λ xs. HasCells env ns xs i in subst S (sym (same i (old i h z))) (m.is env f r i (old i h z) z);
      set = m.set;
      solid = m.solid;
      all = λ i h z. let S : List ℕ → Type 0 = λ xs. AllIn m.set xs in subst S (sym (same i (old i h z))) (m.all i (old i h z) z);
      weighs = omega (arith, m.weighs, rest);
      few = omega (arith, m.few, rest);
      entries = entries_skip m.entries (λ k index width z e. false≢true (sym y ∙ z));
      variables = m.variables;
      reached = m.reached;
    })))

-- a node that is marked
pub walk_marked : {source ns : List Node} {id : ℕ} {marks : List Bool} {cells : List Cell} {table : List (List ℕ)} {at : ℕ} (new : List Node) (after : List Cell) (out : List (List ℕ)) (ids : List ℕ) (n : Node) → IsGraph source → IsDistinct source → IsMarking source id 0 marks → Flattening source ns id marks cells table at → at ≤ id → id < length source → IsTrue (marked marks at) → slice_get source at ≡ Some n → Steps ns new cells after table n at ids → out ≡ table ++ ids ∷ [] → Flattening source new id marks after out (at + 1)
walk_marked {source} {ns} {id} {marks} {cells} {table} {at} new after out ids n graph distinct marking m l w y e s eo =
    let R : List (List ℕ) → Type 0 = λ xs. Flattening source new id marks after xs (at + 1) in
    let rest = marked_rest source id at marks l y in
    let below = graph.parts at n e in
    let part : (k : ℕ) → IsTrue (is_part n k) → (k < at) × IsTrue (marked marks k) = λ k q. (part_is_below at k n below q, marking.closed at k n (omega arith) y e q) in
    let before : (i : ℕ) → i < at → cells_at (table ++ ids ∷ []) i ≡ cells_at table i = λ i h. get_or_append_left table (ids ∷ []) [] i (omega (arith, m.size)) in
    let last : cells_at (table ++ ids ∷ []) at ≡ ids = get_or_push table ids [] at m.size in
    let inside : (i : ℕ) → i < at + 1 → i < length ns = λ i h. omega (arith, m.grows.longer) in
    let read : (env : ℕ → Value) → Reads env after → Reads env cells = λ env r. (reads_append env cells (entries_of n (next_number ns)) (let S : List Cell → Type 0 = λ xs. Reads env xs in subst S s.cells r)).0 in
    let added = s.adds.set m.set m.solid (λ k q. m.all k (part k q).0 (part k q).1) in
    let own : own_weight ns at ≡ own_weight source at = own_stays at graph m.grows (omega arith) in
    let many : length after ≡ length cells + length (entries_of n (next_number ns)) = ap length s.cells ∙ length-append cells (entries_of n (next_number ns)) in
    subst R (sym eo) (record {
      grows = lengthens_trans m.grows s.grows;
      size = length_push table ids ∙ ap (λ (x : ℕ). x + 1) m.size;
      fits = λ env f r. s.fits env (m.fits env f (read env r)) r;
      numbers = s.numbers ∙ omega (arith, m.numbers, many);
      shaped = λ i h z. let S : List ℕ → Type 0 = λ xs. HasShape new xs i in elim (cases_eq i at) [
        | inl q ↦ let T : ℕ → Type 0 = λ j. HasShape new (cells_at (table ++ ids ∷ []) j) j in let U : List ℕ → Type 0 = λ xs. HasShape new xs at in subst T (sym q) (subst U (sym last) s.shape)
        | inr d ↦ let k : i < at = omega arith in subst S (sym (before i k)) (shape_stays m.set s.grows m.solid (m.all i k z) (inside i h) (m.shaped i k z))
      ];
      is = λ env f r i h z. let S : List ℕ → Type 0 = λ xs. HasCells env new xs i in elim (cases_eq i at) [
        | inl q ↦
            let T : ℕ → Type 0 = λ j. HasCells env new (cells_at (table ++ ids ∷ []) j) j in
            let U : List ℕ → Type 0 = λ xs. HasCells env new xs at in
            subst T (sym q) (subst U (sym last) (s.is env (s.fits env (m.fits env f (read env r)) r) r (λ k p. m.is env f (read env r) k (part k p).0 (part k p).1)))
        | inr d ↦ let k : i < at = omega arith in subst S (sym (before i k)) (cells_stay (cells_at table i) env m.set s.grows m.solid (m.all i k z) (inside i h) (m.is env f (read env r) i k z))
      ];
      set = added.0;
      solid = added.1.solid;
      all = λ i h z. let S : List ℕ → Type 0 = λ xs. AllIn added.0 xs in elim (cases_eq i at) [
        | inl q ↦ let T : ℕ → Type 0 = λ j. AllIn added.0 (cells_at (table ++ ids ∷ []) j) in subst T (sym q) (subst S (sym last) added.1.all)
        | inr d ↦ let k : i < at = omega arith in subst S (sym (before i k)) (all_covered m.set added.0 (cells_at table i) added.1.covers (m.all i k z))
      ];
      weighs = omega (arith, added.1.weighs, m.weighs, rest, own);
      few = omega (arith, m.few, rest, many, entries_few source graph at n (next_number ns) e);
      entries = entries_step n graph distinct m.entries y e (s.cells ∙ ap (λ (x : ℕ). cells ++ entries_of n x) m.numbers);
      variables = let P : List Cell → Type 0 = λ xs. AddsCells source new xs in subst P (sym s.cells) (added_then m.grows s.grows m.variables s.variables);
      reached = λ i k t h f.
          let there : i < length source = slice_get_within source i (Variable k t) f in
          let now : slice_get new i ≡ Some (Variable k t) = node_stays ns new i s.grows (omega (arith, m.grows.longer)) ∙ node_stays source ns i m.grows there ∙ f in
          elim (added.1.variables i k t h now) [
            | inl q ↦ m.reached i k t q f
            | inr o ↦ elim o [
              | inl q ↦ ap (marked marks) q ∙ y
              | inr far ↦ absurd (omega (arith, far, there, m.grows.longer))
            ]
          ];
    })

-- ---- the step, as the code makes it

pub walk_step : {source ns : List Node} {id : ℕ} {marks : List Bool} {cells : List Cell} {table : List (List ℕ)} {at : ℕ} (new : List Node) (after : List Cell) (ms : List Bool) (ts out : List (List ℕ)) (ids : List ℕ)
    → IsGraph source → IsDistinct source → IsMarking source id 0 marks → Flattening source ns id marks cells table at → at ≤ id → id < length source → ms ≡ marks → ts ≡ table
    → (IsTrue (marked ms at) → (n : Node) → slice_get ns at ≡ Some n → Steps ns new cells after ts n at ids)
    → (marked ms at ≡ false → (new ≡ ns) × (after ≡ cells))
    → out ≡ table ++ ids ∷ [] → Flattening source new id marks after out (at + 1)
walk_step {source} {ns} {id} {marks} {cells} {table} {at} new after ms ts out ids graph distinct marking m l w em et steps other eo = elim (cases_Bool (marked ms at)) [
  | inl y ↦
      let n = get_or source at (Constant nothing) in
      let e : slice_get source at ≡ Some n = slice_get-get_or source at (Constant nothing) (omega arith) in
      let P : List (List ℕ) → Type 0 = λ xs. Steps ns new cells after xs n at ids in
      walk_marked new after out ids n graph distinct marking m l w (sym (ap (λ (xs : List Bool). marked xs at) em) ∙ y) e (subst P et (steps y n (node_stays source ns at m.grows (omega arith) ∙ e))) eo
  | inr y ↦
      let o = other y in
      walk_other new after out ids m l (sym (ap (λ (xs : List Bool). marked xs at) em) ∙ y) o.0 o.1 eo
]

pub walk_room : {source ns : List Node} {id : ℕ} {marks : List Bool} {cells : List Cell} {table : List (List ℕ)} {at : ℕ} → IsGraph source → IsMarking source id 0 marks → Flattening source ns id marks cells table at → at ≤ id → id < length source → IsTrue (marked marks at) → length cells + own_weight ns at ≤ term_weight source id
walk_room {source} {ns} {id} {marks} {cells} {table} {at} graph marking m l w y =
    omega (arith, m.few, marked_rest source id at marks l y, own_stays at graph m.grows (omega arith), weight_whole marking)

pub walk_few : {source ns : List Node} {id : ℕ} {marks : List Bool} {cells : List Cell} {table : List (List ℕ)} {at : ℕ} → IsMarking source id 0 marks → Flattening source ns id marks cells table at → length cells ≤ term_weight source id
walk_few marking m = omega (arith, m.few, weight_whole marking)

pub walk_parts : {source ns : List Node} {id : ℕ} {marks : List Bool} {cells : List Cell} {table : List (List ℕ)} {at : ℕ} → IsGraph source → IsMarking source id 0 marks → Flattening source ns id marks cells table at → at ≤ id → id < length source → IsTrue (marked marks at) → (n : Node) → slice_get ns at ≡ Some n → PartsShaped ns table n
walk_parts {source} {ns} {id} {marks} {cells} {table} {at} graph marking m l w y n e =
    let f : slice_get source at ≡ Some n = sym (node_stays source ns at m.grows (omega arith)) ∙ e in
    λ k q. m.shaped k (part_is_below at k n (graph.parts at n f) q) (marking.closed at k n (omega arith) y f q)

-- ---- what is reached is marked

reached_marked : {source : List Node} {id : ℕ} {marks : List Bool} → IsGraph source → IsMarking source id 0 marks → (i : ℕ) → Reaches source id i → (i < id + 1) × IsTrue (marked marks i)
reached_marked {source} {id} {marks} graph marking i Reaches.itself = (omega arith, marking.first)
reached_marked {source} {id} {marks} graph marking i (Reaches.part j k n r e q) =
    let h = reached_marked graph marking j r in
    (omega (arith, h.0, part_is_below j k n (graph.parts j n e) q), marking.closed j k n (omega arith) h.1 e q)

pub walk_entries : {source : List Node} {id : ℕ} {marks : List Bool} {cells : List Cell} {at : ℕ} → IsGraph source → IsMarking source id 0 marks → EntriesTo source marks at cells → id < at → HasEntries source id cells
walk_entries {source} {id} {marks} {cells} {at} graph marking m l = record {
  each = λ i k index width c r e h. let y = reached_marked graph marking i r in m.each i k index width c (omega (arith, y.0)) y.1 e h;
  only = λ p e h. let o = m.only p e h in (o.0, o.1, o.2, marking.only o.0 o.4, o.5, o.6);
  numbers = m.numbers;
  once = m.once;
}

-- ---- what a set holds weighs no less than what is reached from it

reached_inside : {ns : List Node} {set : List ℕ} {id : ℕ} → IsSolid ns set → Has set id → (i : ℕ) → Reaches ns id i → Has set i
reached_inside {ns} {set} {id} s h i Reaches.itself = h
reached_inside {ns} {set} {id} s h i (Reaches.part j k n r e q) = s.closed j k n (reached_inside s h j r) e q

pub walk_rowless : {ns : List Node} {set : List ℕ} {id : ℕ} → IsSolid ns set → Has set id → IsRowless ns id
walk_rowless {ns} {set} {id} s h = λ i r. s.plain i (reached_inside s h i r)

abbrev below_weight : List Node → List ℕ → ℕ → ℕ
below_weight ns [] n = 0
below_weight ns (x ∷ xs) n = (if ltb x n then own_weight ns x else 0) + below_weight ns xs n

part_more : (x n w : ℕ) → (if ltb x n then w else 0) ≤ (if ltb x (n + 1) then w else 0)
part_more x n w = elim (cases_lt x n) [
  | inl h ↦ omega (arith, cond-true (ltb x n) w 0 (lt-ltb x n h), cond-true (ltb x (n + 1)) w 0 (lt-ltb x (n + 1) (omega arith)))
  | inr h ↦ omega (arith, cond-false (ltb x n) w 0 (le-ltb x n h))
]

below_more : (ns : List Node) (set : List ℕ) (n : ℕ) → below_weight ns set n ≤ below_weight ns set (n + 1)
below_more ns [] n = omega arith
below_more ns (x ∷ xs) n = omega (arith, below_more ns xs n, part_more x n (own_weight ns x))

below_one : (ns : List Node) (set : List ℕ) (i : ℕ) → Has set i → below_weight ns set i + own_weight ns i ≤ below_weight ns set (i + 1)
below_one ns [] i h = absurd h
below_one ns (x ∷ xs) i (inl e) = omega (arith, below_more ns xs i, cond-false (ltb x i) (own_weight ns x) 0 (le-ltb x i (omega arith)), cond-true (ltb x (i + 1)) (own_weight ns x) 0 (lt-ltb x (i + 1) (omega arith)), ap (own_weight ns) e)
below_one ns (x ∷ xs) i (inr h) = omega (arith, below_one ns xs i h, part_more x i (own_weight ns x))

below_all : (ns : List Node) (set : List ℕ) (n : ℕ) → below_weight ns set n ≤ nodes_weight ns set
below_all ns [] n = omega arith
below_all ns (x ∷ xs) n = elim (cases_Bool (ltb x n)) [
  | inl y ↦ omega (arith, below_all ns xs n, cond-true (ltb x n) (own_weight ns x) 0 y)
  | inr y ↦ omega (arith, below_all ns xs n, cond-false (ltb x n) (own_weight ns x) 0 y)
]

parts_inside : (ns : List Node) (set : List ℕ) (i : ℕ) (wanted : ℕ → Bool) → IsSolid ns set → Has set i → ((k : ℕ) → IsTrue (wanted k) → Has set k) → (o : Option Node) → slice_get ns i ≡ o → (k : ℕ) → IsTrue (with_parts o wanted k) → Has set k
parts_inside ns set i wanted s y h None e k q = h k q
parts_inside ns set i wanted s y h (Some n) e k q = elim (or_cases (wanted k) (is_part n k) q) [ inl z ↦ h k z | inr z ↦ s.closed i k n y e z ]

reached_at_most : (ns : List Node) (set : List ℕ) → IsSolid ns set → (n : ℕ) (wanted : ℕ → Bool) → ((i : ℕ) → IsTrue (wanted i) → Has set i) → reached_weight ns n wanted ≤ below_weight ns set n
reached_at_most ns set s zero wanted h = omega arith
reached_at_most ns set s (suc i) wanted h = elim (cases_Bool (wanted i)) [
  | inl y ↦
      let more : (k : ℕ) → IsTrue (with_parts (slice_get ns i) wanted k) → Has set k = λ k q. parts_inside ns set i wanted s (h i y) h (slice_get ns i) refl k q in
      omega (arith, reached_at_most ns set s i (with_parts (slice_get ns i) wanted) more, below_one ns set i (h i y), cond-true (wanted i) (reached_weight ns i (with_parts (slice_get ns i) wanted) + own_weight ns i) (reached_weight ns i wanted) y, next)
  | inr y ↦ omega (arith, reached_at_most ns set s i wanted h, below_more ns set i, cond-false (wanted i) (reached_weight ns i (with_parts (slice_get ns i) wanted) + own_weight ns i) (reached_weight ns i wanted) y, next)
] where
  next : below_weight ns set (i + 1) ≡ below_weight ns set (suc i)
  next = ap (below_weight ns set) (add-one i)

pub term_at_most : {ns : List Node} {set : List ℕ} (id : ℕ) → IsSolid ns set → Has set id → term_weight ns id ≤ nodes_weight ns set
unfolding term_weight
term_at_most {ns} {set} id s h =
    let P : ℕ → Type 0 = λ i. Has set i in
    let r = reached_at_most ns set s (id + 1) (λ i. nat_eq i id) (λ i q. subst P (sym (eqb-true i id q)) h) in
    omega (arith, r, below_all ns set (id + 1))

-- ---- the end

pub record Walked (source ns : List Node) (id flat : ℕ) (cells : List Cell) : Type 0 where
  pub within : flat < length ns
  pub boolean : sort_at ns flat ≡ Some sort.Bool
  pub rowless : IsRowless ns flat
  pub entries : HasEntries source id cells
  pub fits : (env : ℕ → Value) → Fits env source → Reads env cells → Fits env ns
  pub value : (env : ℕ → Value) → Fits env source → Reads env cells → value_at env ns flat ≡ value_at env source id
  pub weight : term_weight ns flat ≤ 2 * term_weight source id
  pub variables : AddsCells source ns cells
  pub reaches : ReachesOnly source id ns flat cells

pub walk_all : {source ns : List Node} {id : ℕ} {marks : List Bool} {cells : List Cell} {table : List (List ℕ)} {at : ℕ} (flat : ℕ) (ts : List (List ℕ)) → IsGraph source → IsMarking source id 0 marks → Flattening source ns id marks cells table at → at ≡ id + 1 → id < length source → sort_at source id ≡ Some sort.Bool → ts ≡ table → flat ≡ get_or (cells_at ts id) 0 0 → Walked source ns id flat cells
walk_all {source} {ns} {id} {marks} {cells} {table} {at} flat ts graph marking m ea w boolean et ef =
    let shape = m.shaped id (omega arith) marking.first in
    let es : sort_at ns id ≡ Some sort.Bool = m.grows.sorts id w ∙ boolean in
    let size : length (cells_at table id) ≡ 1 = shape.size ∙ ap cells_in es in
    let first : flat ≡ get_or (cells_at table id) 0 0 = ef ∙ ap (λ (xs : List (List ℕ)). get_or (cells_at xs id) 0 0) et in
    let P : ℕ → Type 0 = λ i. Has m.set i in
    let inside : Has m.set flat = subst P (sym first) (all_at m.set (cells_at table id) 0 0 (m.all id (omega arith) marking.first) (omega arith)) in
    let none : weight_from source marks at (id + 1 - at) ≡ 0 = ap (weight_from source marks at) (minus id at ea) in
    record {
      within = m.solid.within flat inside;
      boolean = ap (sort_at ns) first ∙ shape.sorted 0 (omega arith) ∙ ap cell_sort es;
      rowless = walk_rowless m.solid inside;
      entries = walk_entries graph marking m.entries (omega arith);
      fits = m.fits;
      value = λ env f r.
          ap (value_at env ns) first
          ∙ m.is env f r id (omega arith) marking.first 0 (omega arith)
          ∙ ap (λ (v : Value). cell_of v 0) (m.grows.values env id w)
          ∙ own_cell source graph env f id 0 (ap is_plain boolean);
      weight = omega (arith, term_at_most flat m.solid inside, m.weighs, weight_whole marking, none);
      variables = m.variables;
      reaches = λ i k s r e. elim (m.variables.only i k s e) [
        | inl q ↦ inl (marking.only i (m.reached i k s (reached_inside m.solid inside i r) q), q)
        | inr c ↦ inr c
      ];
    } where
      minus : (id at : ℕ) → at ≡ id + 1 → id + 1 - at ≡ 0
      minus id at e = omega arith
