-- Clauses that stand for a term without rows stand for the term that was flattened.
use Rattle.std.specs.Prelude.{slice_get, nat_eq, if◌then◌else◌}
use Rattle.std.proofs.Common.{◌≡◌, ℕ, zero, suc, ◌+◌, ◌<◌, ◌≤◌, List, [], ◌∷◌, length, get_or, map, refl, sym, ◌∙◌, ap, subst, inl, inr, arith, Bool, false, Some}
use Rattle.std.proofs.lemmas.Bool.{true≢false, cases_eq, cond-true, cond-false, eq-eqb, ne_eqb}
use Rattle.std.proofs.lemmas.Option.{slice_get-get_or}
use Rattle.std.proofs.lemmas.List.Elements.{All-nil, All-cons, All-head, All-tail}
use Rattle.civl_bits.specs.declared.value.Value.{Value}
use Rattle.civl_bits.specs.declared.value.Value.TheVariants as value
use Rattle.civl_tree.specs.declared.expr.Sort.{Sort}
use Rattle.civl_firing.specs.values.Values.{HasSort, is_true}
use Rattle.civl_cnf.specs.ClauseSet.{ClauseSet}
use Rattle.civl_symbolic.specs.Symbolic.{Shows}
use Rattle.civl_terms.specs.declared.node.Node.{Node}
use Rattle.civl_terms.specs.declared.node.Node.TheVariants.{Variable}
use Rattle.civl_terms.specs.Graphs.{value_at, IsGraph, Fits}
use Rattle.civl_blast.proofs.reach.Deciding.{reached_variables_decide}
use Rattle.civl_blast.specs.rows.Cells.{cell_of, next_number, HasEntries}
use Rattle.civl_blast.specs.rows.Cells as cells
use Rattle.civl_blast.specs.declared.rows.flat.Cell.{Cell}
use Rattle.civl_blast.proofs.rows.Numbering.{next_is_above}
use Rattle.civl_blast.specs.declared.blasted.Place.{Place}
use Rattle.civl_blast.specs.Standing.{ShowAll, StandsFor}
use Rattle.civl_blast.specs.inner.Renaming.{place_of_cell, CountFrom, CountUp}

-- ---- the values of the variables that stand for cells

abbrev pub env_with : List Cell → (ℕ → Value) → ℕ → Value
env_with [] env k = env k
env_with (e ∷ es) env k = if nat_eq e.number k then cell_of (env e.variable) e.cell else env_with es env k

counts_on : (start : ℕ) (e : Cell) (es : List Cell) → CountFrom start (e ∷ es) → CountFrom (start + 1) es
counts_on start e es h p f q = let n = h (suc p) f q in omega arith

env_old : (start : ℕ) (es : List Cell) (env : ℕ → Value) (k : ℕ) → CountFrom start es → k < start → env_with es env k ≡ env k
env_old start [] env k h l = refl
env_old start (e ∷ es) env k h l =
    let first = h 0 e refl in
    cond-false (nat_eq e.number k) (cell_of (env e.variable) e.cell) (env_with es env k) (ne_eqb e.number k (λ q. absurd (omega arith)))
    ∙ env_old (start + 1) es env k (counts_on start e es h) (omega arith)

pub env_new : (start : ℕ) (es : List Cell) (env : ℕ → Value) → CountFrom start es → (p : ℕ) (e : Cell) → slice_get es p ≡ Some e → env_with es env e.number ≡ cell_of (env e.variable) e.cell
env_new start [] env h p e q = absurd cc
env_new start (c ∷ cs) env h zero e q =
    let same : c ≡ e = cc in
    cond-true (nat_eq c.number e.number) (cell_of (env c.variable) c.cell) (env_with cs env e.number) (eq-eqb c.number e.number (ap (λ (x : Cell). x.number) same)) ∙ ap (λ (x : Cell). cell_of (env x.variable) x.cell) same
env_new start (c ∷ cs) env h (suc p) e q =
    let first = h 0 c refl in
    let here = h (suc p) e q in
    cond-false (nat_eq c.number e.number) (cell_of (env c.variable) c.cell) (env_with cs env e.number) (ne_eqb c.number e.number (λ f. absurd (omega arith)))
    ∙ env_new (start + 1) cs env (counts_on start c cs h) p e q

-- ---- the cell with a number

pub place_other : (start : ℕ) (es : List Cell) (q : Place) → CountFrom start es → q.variable < start → place_of_cell es q ≡ q
place_other start [] q h l = refl
place_other start (e ∷ es) q h l =
    let first = h 0 e refl in
    cond-false (nat_eq e.number q.variable) (record { variable = e.variable; cell = e.cell; first = q.first }) (place_of_cell es q) (ne_eqb e.number q.variable (λ f. absurd (omega arith)))
    ∙ place_other (start + 1) es q (counts_on start e es h) (omega arith)

place_past : (start : ℕ) (es : List Cell) (q : Place) → CountFrom start es → start + length es ≤ q.variable → place_of_cell es q ≡ q
place_past start [] q h l = refl
place_past start (e ∷ es) q h l =
    let first = h 0 e refl in
    cond-false (nat_eq e.number q.variable) (record { variable = e.variable; cell = e.cell; first = q.first }) (place_of_cell es q) (ne_eqb e.number q.variable (λ f. absurd (omega arith)))
    ∙ place_past (start + 1) es q (counts_on start e es h) (omega arith)

place_found : (start : ℕ) (es : List Cell) (q : Place) (p : ℕ) (e : Cell) → CountFrom start es → slice_get es p ≡ Some e → q.variable ≡ start + p → place_of_cell es q ≡ record { variable = e.variable; cell = e.cell; first = q.first }
place_found start [] q p e h g v = absurd cc
place_found start (c ∷ cs) q zero e h g v =
    let first = h 0 c refl in
    let same : c ≡ e = cc in
    cond-true (nat_eq c.number q.variable) (record { variable = c.variable; cell = c.cell; first = q.first }) (place_of_cell cs q) (eq-eqb c.number q.variable (omega arith))
    ∙ ap (λ (x : Cell). record { variable = x.variable; cell = x.cell; first = q.first }) same
place_found start (c ∷ cs) q (suc p) e h g v =
    let first = h 0 c refl in
    cond-false (nat_eq c.number q.variable) (record { variable = c.variable; cell = c.cell; first = q.first }) (place_of_cell cs q) (ne_eqb c.number q.variable (λ f. absurd (omega arith)))
    ∙ place_found (start + 1) cs q p e (counts_on start c cs h) g (omega arith)

abbrev pub no_cell : Cell
no_cell = record { variable = 0; cell = 0; number = 0 }

pub place_of_entry : (start : ℕ) (es : List Cell) (q : Place) (p : ℕ) (e : Cell) → CountFrom start es → slice_get es p ≡ Some e → q.variable ≡ e.number → place_of_cell es q ≡ record { variable = e.variable; cell = e.cell; first = q.first }
place_of_entry start es q p e h g v = let number = h p e g in place_found start es q p e h g (omega arith)

-- ---- a place is found by its number, less that of the first cell

pub has_some : (n : ℕ) → nat_eq n 0 ≡ false → 0 < n
has_some zero h = absurd (true≢false h)
has_some (suc n) h = omega arith

pub place_of_none : (es : List Cell) (q : Place) → length es ≡ 0 → place_of_cell es q ≡ q
place_of_none [] q h = refl
place_of_none (e ∷ es) q h = absurd (omega arith)

pub place_before : (es : List Cell) (q : Place) (d : Cell) → CountUp es → 0 < length es → q.variable < (get_or es 0 d).number → place_of_cell es q ≡ q
place_before es q d h some l = let first = h.1 0 (get_or es 0 d) (slice_get-get_or es 0 d some) in place_other h.0 es q h.1 (omega arith)

pub place_behind : (es : List Cell) (q : Place) (d : Cell) (at : ℕ) → CountUp es → 0 < length es → q.variable ≡ (get_or es 0 d).number + at → length es ≤ at → place_of_cell es q ≡ q
place_behind es q d at h some v l = let first = h.1 0 (get_or es 0 d) (slice_get-get_or es 0 d some) in place_past h.0 es q h.1 (omega arith)

pub place_at_cell : (es : List Cell) (q : Place) (d : Cell) (at : ℕ) → CountUp es → q.variable ≡ (get_or es 0 d).number + at → at < length es → record { variable = (get_or es at d).variable; cell = (get_or es at d).cell; first = q.first } ≡ place_of_cell es q
place_at_cell es q d at h v l =
    let first = h.1 0 (get_or es 0 d) (slice_get-get_or es 0 d (omega arith)) in
    sym (place_found h.0 es q at (get_or es at d) h.1 (slice_get-get_or es at d l) (omega arith))

cells_read : (env : ℕ → Value) (es : List Cell) → ((p : ℕ) (e : Cell) → slice_get es p ≡ Some e → env e.number ≡ cell_of (env e.variable) e.cell) → cells.Reads env es
cells_read env [] h = tt
cells_read env (e ∷ es) h = (h 0 e refl, cells_read env es (λ p f q. h (suc p) f q))

-- ---- places

cell_again : (x : Value) (c d : ℕ) → cell_of (cell_of x c) d ≡ cell_of x c
cell_again (value.Bool b) c d = refl
cell_again (value.Word w) c d = refl
cell_again (value.Row r) c d = refl

pub first_same : (es : List Cell) (q : Place) → (place_of_cell es q).first ≡ q.first
first_same [] q = refl
first_same (e ∷ es) q = elim (cases_eq e.number q.variable) [
  | inl y ↦ ap (λ (p : Place). p.first) (cond-true (nat_eq e.number q.variable) (record { variable = e.variable; cell = e.cell; first = q.first }) (place_of_cell es q) (eq-eqb e.number q.variable y))
  | inr n ↦ ap (λ (p : Place). p.first) (cond-false (nat_eq e.number q.variable) (record { variable = e.variable; cell = e.cell; first = q.first }) (place_of_cell es q) (ne_eqb e.number q.variable n)) ∙ first_same es q
]

cell_same : (es : List Cell) (env : ℕ → Value) (q : Place) → cell_of (env (place_of_cell es q).variable) (place_of_cell es q).cell ≡ cell_of (env_with es env q.variable) q.cell
cell_same [] env q = refl
cell_same (e ∷ es) env q =
    let at : Place → Value = λ p. cell_of (env p.variable) p.cell in
    elim (cases_eq e.number q.variable) [
      | inl y ↦
          ap at (cond-true (nat_eq e.number q.variable) (record { variable = e.variable; cell = e.cell; first = q.first }) (place_of_cell es q) (eq-eqb e.number q.variable y))
          ∙ sym (cell_again (env e.variable) e.cell q.cell)
          ∙ sym (ap (λ x. cell_of x q.cell) (cond-true (nat_eq e.number q.variable) (cell_of (env e.variable) e.cell) (env_with es env q.variable) (eq-eqb e.number q.variable y)))
      | inr n ↦
          ap at (cond-false (nat_eq e.number q.variable) (record { variable = e.variable; cell = e.cell; first = q.first }) (place_of_cell es q) (ne_eqb e.number q.variable n))
          ∙ cell_same es env q
          ∙ sym (ap (λ x. cell_of x q.cell) (cond-false (nat_eq e.number q.variable) (cell_of (env e.variable) e.cell) (env_with es env q.variable) (ne_eqb e.number q.variable n)))
    ]

reads_flat : (v : ℕ → Bool) (es : List Cell) (env : ℕ → Value) (places : List Place) → ShowAll v (map (place_of_cell es) places) env → ShowAll v places (env_with es env)
reads_flat v es env [] h = All-nil (λ p. Shows v p.first (cell_of (env_with es env p.variable) p.cell))
reads_flat v es env (q ∷ qs) h =
    let head = All-head (λ p. Shows v p.first (cell_of (env p.variable) p.cell)) (place_of_cell es q) (map (place_of_cell es) qs) h in
    let tail = All-tail (λ p. Shows v p.first (cell_of (env p.variable) p.cell)) (place_of_cell es q) (map (place_of_cell es) qs) h in
    let P : Value → Type 0 = λ x. Shows v q.first x in
    let Q : ℕ → Type 0 = λ f. Shows v f (cell_of (env (place_of_cell es q).variable) (place_of_cell es q).cell) in
    All-cons (λ p. Shows v p.first (cell_of (env_with es env p.variable) p.cell)) q qs (subst P (cell_same es env q) (subst Q (first_same es q) head)) (reads_flat v es env qs tail)

reads_cells : (v : ℕ → Bool) (es : List Cell) (env : ℕ → Value) (places : List Place) → ShowAll v places (env_with es env) → ShowAll v (map (place_of_cell es) places) env
reads_cells v es env [] h = All-nil (λ p. Shows v p.first (cell_of (env p.variable) p.cell))
reads_cells v es env (q ∷ qs) h =
    let head = All-head (λ p. Shows v p.first (cell_of (env_with es env p.variable) p.cell)) q qs h in
    let tail = All-tail (λ p. Shows v p.first (cell_of (env_with es env p.variable) p.cell)) q qs h in
    let P : Value → Type 0 = λ x. Shows v q.first x in
    let Q : ℕ → Type 0 = λ f. Shows v f (cell_of (env (place_of_cell es q).variable) (place_of_cell es q).cell) in
    All-cons (λ p. Shows v p.first (cell_of (env p.variable) p.cell)) (place_of_cell es q) (map (place_of_cell es) qs) (subst Q (sym (first_same es q)) (subst P (sym (cell_same es env q)) head)) (reads_cells v es env qs tail)

-- ---- together

-- values of the old graph's variables, with those of the cells
pub record IsCelled (old new : List Node) (id flat : ℕ) (es : List Cell) (env : ℕ → Value) : Type 0 where
  pub fits : Fits (env_with es env) new
  pub value : value_at (env_with es env) new flat ≡ value_at env old id

pub celled : {old new : List Node} {id flat : ℕ} {es : List Cell} → IsGraph old → HasEntries old id es → ((env : ℕ → Value) → Fits env old → cells.Reads env es → Fits env new) → ((env : ℕ → Value) → Fits env old → cells.Reads env es → value_at env new flat ≡ value_at env old id) → (env : ℕ → Value) → Fits env old → IsCelled old new id flat es env
celled {old} {new} {id} {flat} {es} graph entries fits_new value env fits =
    let same : (i k : ℕ) (s : Sort) → slice_get old i ≡ Some (Variable k s) → env_with es env k ≡ env k = λ i k s e. let above = next_is_above old i (Variable k s) e in env_old (next_number old) es env k entries.numbers (omega arith) in
    let fits_old : Fits (env_with es env) old = λ i k s e. let P : Value → Type 0 = λ x. HasSort x s in subst P (sym (same i k s e)) (fits i k s e) in
    let read : cells.Reads (env_with es env) es = cells_read (env_with es env) es (λ p e q.
    let row = entries.only p e q in
    env_new (next_number old) es env entries.numbers p e q ∙ ap (λ x. cell_of x e.cell) (sym (same row.0 e.variable _ row.4))) in
    record {
      fits = fits_new (env_with es env) fits_old read;
      value = value (env_with es env) fits_old read ∙ reached_variables_decide old graph id (env_with es env) env (λ i k s r e. same i k s e);
    }

pub stands_for_cells : {old : List Node} (new : List Node) {id : ℕ} (flat : ℕ) {es : List Cell} {set : ClauseSet} {places : List Place} → IsGraph old → HasEntries old id es → ((env : ℕ → Value) → Fits env old → cells.Reads env es → Fits env new) → ((env : ℕ → Value) → Fits env old → cells.Reads env es → value_at env new flat ≡ value_at env old id) → StandsFor new flat set places → StandsFor old id set (map (place_of_cell es) places)
stands_for_cells {old} new {id} flat {es} {set} {places} graph entries fits_new value s = record {
  gates = s.gates;
  output = s.output;
  clauses = s.clauses;
  some = λ env fits.
      let c = celled graph entries fits_new value env fits in
      let v = s.some (env_with es env) c.fits in
      (v.0, v.1, reads_cells v.0 es env places v.2);
  one = λ env fits v w hv hw rv rw_.
      let c = celled graph entries fits_new value env fits in
      s.one (env_with es env) c.fits v w hv hw (reads_flat v es env places rv) (reads_flat w es env places rw_);
  is = λ env fits v hv rv.
      let c = celled graph entries fits_new value env fits in
      s.is (env_with es env) c.fits v hv (reads_flat v es env places rv) ∙ ap is_true c.value;
}
