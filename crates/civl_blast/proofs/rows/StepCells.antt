-- The cells of a node, whatever it is.
use Rattle.std.proofs.Common.{◌≡◌, ℕ, zero, suc, ◌+◌, ◌*◌, ◌^◌, ◌≤◌, Bool, false, List, [], ◌∷◌, ◌++◌, length, refl, sym, ap, ◌∙◌, inr, arith, Some, IsTrue, append-nil}
use Rattle.std.proofs.Common.{leb}
use Rattle.std.proofs.lemmas.Bool.{false≢true, leb-true, and_parts}
use Rattle.civl_bits.specs.declared.value.Value.{Value}
use Rattle.civl_bits.specs.declared.value.Value.TheVariants as value
use Rattle.civl_tree.specs.declared.expr.Sort.TheVariants as sort
use Rattle.civl_tree.specs.rules.Exprs.{is_width, is_index}
use Rattle.civl_firing.specs.values.Values.{is_sort}
use Rattle.civl_terms.specs.declared.node.Node.{Node}
use Rattle.civl_terms.specs.declared.node.Node.TheVariants.{Constant, Variable, One as Once, Two as Twice, Pick, Get, Set, Fill, Slice, Widen, Join}
use Rattle.civl_terms.specs.Graphs.{sort_at}
use Rattle.civl_terms.specs.Weights.{own_weight}
use Rattle.civl_blast.specs.reach.Reaching.{is_plain}
use Rattle.civl_blast.specs.rows.Cells.{cell_of, cells_in, cell_sort, next_number}
use Rattle.civl_blast.specs.inner.rows.Making.{HasParts, IsOwn, Here, MakesCells}
use Rattle.civl_blast.specs.inner.rows.Expanding.{Expands, Steps, entries_of, is_variable}
use Rattle.civl_blast.specs.declared.rows.flat.Cell.{Cell}
use Rattle.civl_blast.proofs.rows.Growth.{longer, calm_fits}
use Rattle.civl_blast.proofs.rows.Solid.{takes_as}
use Rattle.civl_blast.proofs.rows.Blocks.{length-entries}
use Rattle.civl_blast.proofs.rows.Added.{none_added, row_added}
use Rattle.civl_blast.proofs.rows.Parts.{here_within, here_sort, here_value, here_weight}
use Rattle.civl_blast.proofs.rows.PlainCells.{leaf_made}

-- ---- bools and words without parts

pub bool_made : {old : List Node} {table : List (List ℕ)} {b : Bool} {at : ℕ} (ids : List ℕ) → Here old table (Constant (value.Bool b)) at → ids ≡ at ∷ [] → MakesCells old old table (Constant (value.Bool b)) at ids
bool_made {old} {table} {b} {at} ids h e = leaf_made table (Constant (value.Bool b)) at ids h (λ k q. absurd (false≢true q)) (ap is_plain (here_sort h)) e

pub word_made : {old : List Node} {table : List (List ℕ)} {w : ℕ × ℕ} {at : ℕ} (ids : List ℕ) → Here old table (Constant (value.Word w)) at → ids ≡ at ∷ [] → MakesCells old old table (Constant (value.Word w)) at ids
word_made {old} {table} {w} {at} ids h e = leaf_made table (Constant (value.Word w)) at ids h (λ k q. absurd (false≢true q)) (ap is_plain (here_sort h)) e

-- ---- no variable, no entries

no_entries : (n : Node) (first : ℕ) → is_variable n ≡ false → entries_of n first ≡ []
no_entries (Variable k s) first e = absurd (false≢true (sym e))
no_entries (Constant v) first e = refl
no_entries (Once op a) first e = refl
no_entries (Twice op a b) first e = refl
no_entries (Pick c a b) first e = refl
no_entries (Get a b) first e = refl
no_entries (Set c a b) first e = refl
no_entries (Fill i a) first e = refl
no_entries (Slice a i j) first e = refl
no_entries (Widen a w) first e = refl
no_entries (Join a b) first e = refl

steps_from : {old new : List Node} {table : List (List ℕ)} {n : Node} {at : ℕ} {ids : List ℕ} (before : List Cell) → MakesCells old new table n at ids → entries_of n (next_number old) ≡ [] → Steps old new before before table n at ids
steps_from {old} {new} before m e = record {
  grows = longer m.calm.grows;
  numbers = m.calm.numbers ∙ omega (arith, ap length e);
  cells = sym (append-nil before) ∙ ap (λ (xs : List Cell). before ++ xs) (sym e);
  fits = λ env f r. calm_fits m.calm env f;
  shape = m.shape;
  is = λ env f r. m.is env f;
  variables = none_added m.calm.grows e;
  adds = m.adds;
}

pub operation_steps : {old new : List Node} {table : List (List ℕ)} {n : Node} {at : ℕ} {ids : List ℕ} (before : List Cell) → is_variable n ≡ false → MakesCells old new table n at ids → Steps old new before before table n at ids
operation_steps {old} {new} {table} {n} before v m = steps_from before m (no_entries n (next_number old) v)

-- ---- variables

pub bool_steps : {old : List Node} {table : List (List ℕ)} {number at : ℕ} (before : List Cell) (ids : List ℕ) → Here old table (Variable number sort.Bool) at → ids ≡ at ∷ [] → Steps old old before before table (Variable number sort.Bool) at ids
bool_steps {old} {table} {number} {at} before ids h e =
    steps_from before (leaf_made table (Variable number sort.Bool) at ids h (λ k q. absurd (false≢true q)) (ap is_plain (here_sort h)) e) refl

pub word_steps : {old : List Node} {table : List (List ℕ)} {number width at : ℕ} (before : List Cell) (ids : List ℕ) → Here old table (Variable number (sort.Word width)) at → ids ≡ at ∷ [] → Steps old old before before table (Variable number (sort.Word width)) at ids
word_steps {old} {table} {number} {width} {at} before ids h e =
    steps_from before (leaf_made table (Variable number (sort.Word width)) at ids h (λ k q. absurd (false≢true q)) (ap is_plain (here_sort h)) e) refl

pub row_limits : {old : List Node} {table : List (List ℕ)} {number index width at : ℕ} → Here old table (Variable number (sort.Row index width)) at → IsTrue (is_sort (sort.Row index width))
row_limits {old} {table} {number} {index} {width} {at} h = h.graph.limits at (Variable number (sort.Row index width)) h.node

pub row_width : {old : List Node} {table : List (List ℕ)} {number index width at : ℕ} → Here old table (Variable number (sort.Row index width)) at → IsTrue (is_sort (sort.Word width))
row_width {old} {table} {number} {index} {width} h = (and_parts (is_index index) (is_width width) (row_limits h)).1

pub row_index : {old : List Node} {table : List (List ℕ)} {number index width at : ℕ} → Here old table (Variable number (sort.Row index width)) at → index ≤ 6
row_index {old} {table} {number} {index} {width} h =
    leb-true index 6 (and_parts (leb 1 index) (leb index 6) (and_parts (is_index index) (is_width width) (row_limits h)).0).1

pub one_bit : (n w : ℕ) → 1 ≤ w → n ≤ w * n
one_bit n zero h = absurd (omega arith)
one_bit n (suc w) h = grind arith

pub row_room : {old : List Node} {table : List (List ℕ)} {number index width at : ℕ} → Here old table (Variable number (sort.Row index width)) at → 2 ^ index ≤ own_weight old at
row_room {old} {table} {number} {index} {width} h =
    let w : 1 ≤ width = leb-true 1 width (and_parts (leb 1 width) (leb width 32) (row_width h)).0 in
    omega (arith, here_weight h, one_bit (2 ^ index) width w)

twice_at_least : (n w : ℕ) → n * w ≤ 2 * (w * n)
twice_at_least n w = grind arith

pub row_steps : {old new : List Node} {before after : List Cell} {table : List (List ℕ)} {number index width at : ℕ} {ids : List ℕ} → Here old table (Variable number (sort.Row index width)) at → Expands old new before after number index width (2 ^ index) ids → Steps old new before after table (Variable number (sort.Row index width)) at ids
row_steps {old} {new} {before} {after} {table} {number} {index} {width} {at} {ids} h m =
    let s = sort.Row index width in
    let es : sort_at new at ≡ Some s = m.grows.sorts at (here_within h) ∙ here_sort h in
    record {
      grows = m.grows;
      numbers = m.numbers ∙ ap (λ (n : ℕ). next_number old + n) (sym (length-entries number (next_number old) (2 ^ index)));
      cells = m.cells;
      fits = λ env f r. m.fits env f (f at number s h.node) r;
      shape = record { size = m.size ∙ ap cells_in (sym es); sorted = λ c l. m.sorted c l ∙ ap cell_sort (sym es) };
      is = λ env f r parts c l. m.is env f r c l ∙ ap (λ (v : Value). cell_of v c) (sym (m.grows.values env at (here_within h) ∙ here_value h env));
      variables = row_added number index width at h.graph h.node m.only m.each;
      adds = takes_as (HasParts table (Variable number s)) (IsOwn old at) ids (2 * own_weight old at) m.adds (λ i y. inr y) (λ u y. tt) (λ u t y c a. a) (omega (arith, here_weight h, twice_at_least (2 ^ index) width));
    }
