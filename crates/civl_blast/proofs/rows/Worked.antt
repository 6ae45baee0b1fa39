-- The worked graph.
use Rattle.std.proofs.Common.{◌≡◌, ℕ, zero, suc, ◌+◌, ◌^◌, ◌<◌, refl, sym, ap, ◌∙◌, arith, Some, None}
use Rattle.std.specs.Prelude.{slice_get}
use Rattle.std.proofs.lemmas.Bool.{false≢true}
use Rattle.std.proofs.lemmas.Option.{same_Some, none-some}
use Rattle.civl_bits.specs.declared.value.Value.{Value}
use Rattle.civl_bits.specs.declared.value.Value.TheVariants as value
use Rattle.civl_tree.specs.declared.expr.Sort.TheVariants as sort
use Rattle.civl_tree.specs.declared.expr.Two.TheVariants.{Eq}
use Rattle.civl_terms.specs.declared.node.Node.TheVariants.{Constant, Variable, Two as Twice, Get}
use Rattle.civl_terms.specs.Graphs.{sorts}
use Rattle.civl_blast.specs.reach.Reaching.{Reaches, IsRowless}
use Rattle.civl_blast.specs.rows.Cells.{cell_of, Reads, HasEntries}
use Rattle.civl_blast.specs.examples.Rows.{index_bits, cell_bits, pair, example, example_cells, example_array}
use Rattle.civl_blast.specs.declared.rows.flat.Cell.{Cell}
use Rattle.civl_blast.proofs.rows.Blocks.{entry}
use Rattle.civl_blast.proofs.rows.Entering.{row_variable}

pub worked_reaches : Reaches example 4 0
worked_reaches = Reaches.part 2 0 (Get 0 1) (Reaches.part 4 2 (Twice Eq 2 3) Reaches.itself refl refl) refl refl

pub worked_rows : IsRowless example 4 → ⊥
unfolding sorts
worked_rows h = absurd (false≢true (h 0 worked_reaches))

pub worked_reads : (env : ℕ → Value) → env 3 ≡ example_array → env 4 ≡ value.Word (cell_bits, 5) → env 5 ≡ value.Word (cell_bits, 9) → Reads env example_cells
worked_reads env e f g = (f ∙ ap (λ (v : Value). cell_of v 0) (sym e), (g ∙ ap (λ (v : Value). cell_of v 1) (sym e), tt))

the_row : (k index width : ℕ) → Variable 3 pair ≡ row_variable k index width → (3 ≡ k) × (index_bits ≡ index)
the_row k index width e = (cc, cc)

no_word : (k index width : ℕ) → Variable 1 (sort.Word index_bits) ≡ row_variable k index width → ⊥
no_word k index width e = cc

no_read : (k index width : ℕ) → Get 0 1 ≡ row_variable k index width → ⊥
no_read k index width e = cc

no_constant : (k index width : ℕ) → Constant (value.Word (cell_bits, 5)) ≡ row_variable k index width → ⊥
no_constant k index width e = cc

no_comparison : (k index width : ℕ) → Twice Eq 2 3 ≡ row_variable k index width → ⊥
no_comparison k index width e = cc

two_places : (c : ℕ) → c < 2 → (p : ℕ) × (slice_get example_cells p ≡ Some (entry 3 c (4 + p)))
two_places zero h = (0, refl)
two_places (suc zero) h = (1, refl)
two_places (suc (suc c)) h = absurd (omega arith)

found : (i k index width c : ℕ) → slice_get example i ≡ Some (row_variable k index width) → c < 2 ^ index → (p : ℕ) × (slice_get example_cells p ≡ Some (entry k c (4 + p)))
found zero k index width c e l =
    let r = the_row k index width (same_Some (Variable 3 pair) (row_variable k index width) e) in
    let x = two_places c (omega (arith, ap (λ (n : ℕ). 2 ^ n) r.1)) in
    (x.0, x.1 ∙ ap (λ (n : ℕ). Some (entry n c (4 + x.0))) r.0)
found (suc zero) k index width c e l = absurd (no_word k index width (same_Some (Variable 1 (sort.Word index_bits)) (row_variable k index width) e))
found (suc (suc zero)) k index width c e l = absurd (no_read k index width (same_Some (Get 0 1) (row_variable k index width) e))
found (suc (suc (suc zero))) k index width c e l = absurd (no_constant k index width (same_Some (Constant (value.Word (cell_bits, 5))) (row_variable k index width) e))
found (suc (suc (suc (suc zero)))) k index width c e l = absurd (no_comparison k index width (same_Some (Twice Eq 2 3) (row_variable k index width) e))
found (suc (suc (suc (suc (suc i))))) k index width c e l = absurd (nothing e) where
  nothing : None ≡ Some (row_variable k index width) → ⊥
  nothing q = cc

place_of : (p : ℕ) (e : Cell) → slice_get example_cells p ≡ Some e → (p < 2) × (entry 3 p (4 + p) ≡ e)
place_of zero e h = (omega arith, same_Some (entry 3 0 4) e h)
place_of (suc zero) e h = (omega arith, same_Some (entry 3 1 5) e h)
place_of (suc (suc p)) e h = absurd (none-some e h)

pub worked_entries : HasEntries example 4 example_cells
worked_entries = record {
  each = λ i k index width c r e l. found i k index width c e l;
  only = λ p e h.
      let x = place_of p e h in
      (0, index_bits, cell_bits, worked_reaches, ap (λ (n : ℕ). Some (row_variable n index_bits cell_bits)) (ap (λ (z : Cell). z.variable) x.1), omega (arith, x.0, ap (λ (z : Cell). z.cell) x.1));
  numbers = λ p e h. let x = place_of p e h in sym (ap (λ (z : Cell). z.number) x.1);
  once = λ p q d e h g v c.
      let x = place_of p d h in
      let y = place_of q e g in
      ap (λ (z : Cell). z.cell) x.1 ∙ c ∙ sym (ap (λ (z : Cell). z.cell) y.1);
}
