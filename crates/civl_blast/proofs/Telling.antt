-- What clauses that stand for a term tell.
use Rattle.std.specs.Prelude.{All}
use Rattle.std.proofs.Common.{◌≡◌, ℕ, List, [], ◌∷◌, ◌++◌, refl, sym, ◌∙◌, subst, Bool, true, false, ◌&&◌, ◌||◌}
use Rattle.std.proofs.lemmas.Bool.{and_from}
use Rattle.std.proofs.lemmas.List.Elements.{All-nil, All-cons, All-head, All-tail}
use Rattle.civl_bits.specs.declared.value.Value.{Value}
use Rattle.civl_symbolic.specs.Symbolic.{Shows}
use Rattle.civl_blast.specs.rows.Cells.{cell_of}
use Rattle.civl_blast.specs.declared.blasted.Place.{Place}
use Rattle.civl_blast.specs.Standing.{ShowAll}
use Rattle.civl_cnf.specs.Literal.{truth_of}
use Rattle.civl_cnf.specs.ClauseSet.{Satisfies}
use Rattle.civl_cnf.proofs.Satisfying.{all_true, Satisfies-from_all_true, all_true-from_Satisfies}
use Rattle.civl_cnf.proofs.Extending.{Satisfies-parts, all_true-append}
use Rattle.civl_blast.specs.Laws.{BitsGiveValues, PlacesDecide, SatisfiableWhereTrue}

unit_table : (b : Bool) → ((b || false) && true) ≡ b
unit_table true = refl
unit_table false = refl

pub bits_give_values : BitsGiveValues
bits_give_values ns id set places gives s v h =
    let parts = Satisfies-parts v s.gates ((s.output ∷ []) ∷ []) (subst (Satisfies v) s.clauses h) in
    let on : truth_of v s.output ≡ true = sym (unit_table (truth_of v s.output)) ∙ all_true-from_Satisfies v ((s.output ∷ []) ∷ []) parts.1 in
    let read = gives v in
    (read.0, read.1, read.2, sym (s.is read.0 read.1 v parts.0 read.2) ∙ on)

pub satisfiable_where_true : SatisfiableWhereTrue
satisfiable_where_true ns id set places gives s = (
  λ m. let r = bits_give_values ns id set places gives s m.0 m.1 in (r.0, r.1, r.3),
  λ m.
      let w = s.some m.0 m.1 in
      let on : truth_of w.0 s.output ≡ true = s.is m.0 m.1 w.0 w.1 w.2 ∙ m.2 in
      let unit : all_true w.0 ((s.output ∷ []) ∷ []) ≡ true = unit_table (truth_of w.0 s.output) ∙ on in
      let all : all_true w.0 (s.gates ++ (s.output ∷ []) ∷ []) ≡ true = all_true-append w.0 s.gates ((s.output ∷ []) ∷ []) ∙ and_from (all_true w.0 s.gates) (all_true w.0 ((s.output ∷ []) ∷ [])) (all_true-from_Satisfies w.0 s.gates w.1) unit in
      (w.0, subst (Satisfies w.0) (sym s.clauses) (Satisfies-from_all_true w.0 (s.gates ++ (s.output ∷ []) ∷ []) all)),
)

same_reads : (v : ℕ → Bool) (env other : ℕ → Value) (places : List Place) → All (λ (p : Place). cell_of (env p.variable) p.cell ≡ cell_of (other p.variable) p.cell) places → ShowAll v places env → ShowAll v places other
same_reads v env other [] same h = All-nil (λ p. Shows v p.first (cell_of (other p.variable) p.cell))
same_reads v env other (q ∷ qs) same h =
    let Same : Place → Type 0 = λ p. cell_of (env p.variable) p.cell ≡ cell_of (other p.variable) p.cell in
    let Shown : Place → Type 0 = λ p. Shows v p.first (cell_of (env p.variable) p.cell) in
    let P : Value → Type 0 = λ x. Shows v q.first x in
    All-cons (λ p. Shows v p.first (cell_of (other p.variable) p.cell)) q qs (subst P (All-head Same q qs same) (All-head Shown q qs h)) (same_reads v env other qs (All-tail Same q qs same) (All-tail Shown q qs h))

pub places_decide : PlacesDecide
places_decide ns id set places s env other fits fits_other same =
    let w = s.some env fits in
    sym (s.is env fits w.0 w.1 w.2) ∙ s.is other fits_other w.0 w.1 (same_reads w.0 env other places same w.2)
