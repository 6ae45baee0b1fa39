-- The clauses of a term stand for it.
use Rattle.std.specs.Prelude.{IsTrue, slice_get, All}
use Rattle.std.proofs.Common.{◌≡◌, ℕ, ◌+◌, ◌*◌, ◌<◌, List, ap₂, refl, [], ◌∷◌, ◌++◌, length, sym, ◌∙◌, ap, subst, arith, Bool, Some, length-append}
use Rattle.std.proofs.lemmas.Bool.{false≢true}
use Rattle.std.proofs.lemmas.List.Elements.{All-nil}
use Rattle.std.proofs.lemmas.Option.{slice_get-get_or, get_or_from_slice_get, slice_get_within}
use Rattle.civl_bits.specs.declared.value.Value.{Value}
use Rattle.civl_tree.specs.declared.expr.Sort.{Sort}
use Rattle.civl_tree.specs.declared.expr.Sort.TheVariants as sort
use Rattle.civl_tree.specs.rules.StoreSize.{bits_of}
use Rattle.civl_cnf.specs.Literal.{Literal}
use Rattle.civl_cnf.specs.ClauseSet.{ClauseSet, SatisfiesClause}
use Rattle.civl_terms.specs.declared.node.Node.{Node}
use Rattle.civl_terms.specs.Graphs.{IsGraph, IsDistinct}
use Rattle.civl_terms.specs.Weights.{term_weight}
use Rattle.civl_blast.specs.reach.Reaching.{Reaches, is_plain, IsRowless}
use Rattle.civl_blast.specs.reach.Marks.{marked, IsMarking}
use Rattle.civl_blast.specs.rows.Cells.{cells_in}
use Rattle.civl_blast.specs.declared.blasted.Place.{Place}
use Rattle.civl_blast.specs.Standing.{cell_bits, IsPlaced, ShowAll, HasPlaces, StandsFor, GivesValues, IsSmall}
use Rattle.civl_blast.specs.inner.Steps.{input_bits, inputs_before, places_before, IsCircuit}
use Rattle.civl_blast.proofs.Reading.{marked_within, values_read, values_are_read, values_fit}
use Rattle.civl_blast.proofs.Weighing.{inputs_next, inputs_less}
use Rattle.civl_blast.proofs.Laying.{variable_plain, places_all, no_place, place_at, ArePlain, inputs_from_places, places_from_inputs, inputs_agree, input_values, values_show, inputs_kept}

-- what the term reaches is marked
reached_marked : {ns : List Node} {id : ℕ} {marks : List Bool} → IsMarking ns id 0 marks → (i : ℕ) → Reaches ns id i → IsTrue (marked marks i)
reached_marked m _ Reaches.itself = m.first
reached_marked m _ (Reaches.part i k n r e p) = m.closed i k n (omega arith) (reached_marked m i r) e p

one_cell : (s : Sort) (c : ℕ) → IsTrue (is_plain (Some s)) → c < cells_in (Some s) → c ≡ 0
one_cell sort.Bool c p h = omega arith
one_cell (sort.Word w) c p h = omega arith
one_cell (sort.Row i w) c p h = absurd (false≢true p)

one_cell_bits : (s : Sort) → IsTrue (is_plain (Some s)) → (0 < cells_in (Some s)) × (cell_bits s ≡ bits_of s)
one_cell_bits sort.Bool p = (omega arith, refl)
one_cell_bits (sort.Word w) p = (omega arith, refl)
one_cell_bits (sort.Row i w) p = absurd (false≢true p)

pub placed : {ns : List Node} {id inputs : ℕ} {marks : List Bool} {gates : ClauseSet} {output : Literal} (count : ℕ) (places : List Place) → IsGraph ns → IsRowless ns id → IsMarking ns id 0 marks → IsCircuit ns id marks inputs gates output → inputs ≡ inputs_before ns marks (id + 1) → places ≡ places_before ns marks (id + 1) → count ≡ gates.variables → HasPlaces ns id count places
placed {ns} {id} {inputs} {marks} count places graph rowless m circuit ei ep ec = record {
  each = λ i k c s r e h.
      let mark = reached_marked m i r in
      let q = place_at ns marks (id + 1) i k s (omega (arith, marked_within marks i mark, m.size)) mark e in
      let none : c ≡ 0 = one_cell s c (variable_plain graph rowless i k s r e) h in
      (q.0, inputs_before ns marks i, ap (λ ps. slice_get ps q.0) ep ∙ slice_get-get_or (places_before ns marks (id + 1)) q.0 no_place q.1.within ∙ ap (λ (p : Place). Some p) (q.1.is ∙ ap (λ (n : ℕ). record { variable = k; cell = n; first = inputs_before ns marks i }) (sym none)));
  only = λ p e h.
      let P : Place → Type 0 = IsPlaced ns id count in
      let all : All P (places_before ns marks (id + 1)) = places_all P ns marks (id + 1) (λ i k s l mark f.
      let plain = variable_plain graph rowless i k s (m.only i mark) f in
      let cell = one_cell_bits s plain in
      let bits : input_bits (marked marks i) (slice_get ns i) ≡ bits_of s = ap₂ input_bits mark f in
      (i, s, m.only i mark, f, cell.0, omega (arith, inputs_next ns marks i, bits, inputs_less ns marks (i + 1) (id + 1) (omega arith), circuit.extends.variables, ei, ec, cell.1))) in
      let at : slice_get (places_before ns marks (id + 1)) p ≡ Some e = ap (λ ps. slice_get ps p) (sym ep) ∙ h in
      subst P (get_or_from_slice_get (places_before ns marks (id + 1)) p e e at) (all p e (slice_get_within (places_before ns marks (id + 1)) p e at));
}

all_plain : {ns : List Node} {id : ℕ} {marks : List Bool} → IsGraph ns → IsRowless ns id → IsMarking ns id 0 marks → (n : ℕ) → ArePlain ns marks n
all_plain graph rowless m n i k s h mark e = variable_plain graph rowless i k s (m.only i mark) e

pub stands : {ns : List Node} {id inputs : ℕ} {marks : List Bool} {gates : ClauseSet} {output : Literal} (set : ClauseSet) (places : List Place) → IsGraph ns → IsRowless ns id → IsMarking ns id 0 marks → IsCircuit ns id marks inputs gates output → inputs ≡ inputs_before ns marks (id + 1) → places ≡ places_before ns marks (id + 1) → set ≡ record { variables = gates.variables; clauses = gates.clauses ++ (output ∷ []) ∷ [] } → StandsFor ns id set places
stands {ns} {id} {inputs} {marks} {gates} {output} set places graph rowless m circuit ei ep es =
    let size : set.variables ≡ gates.variables = ap (λ (s : ClauseSet). s.variables) es in
    record {
      gates = gates.clauses;
      output = output;
      clauses = ap (λ (s : ClauseSet). s.clauses) es;
      some = λ env fits.
          let plain = all_plain graph rowless m (id + 1) in
          let v : ℕ → Bool = input_values ns marks env (id + 1) in
          let shows = values_show ns marks env (id + 1) plain (λ i k s h mark e. fits i k s e) in
          let w = circuit.extends.some v (All-nil (SatisfiesClause v)) in
          let shows_w = inputs_kept ns marks v w.0 env (id + 1) (λ x h. w.1 x (omega (arith, ei))) shows in
          let P : List Place → Type 0 = λ ps. ShowAll w.0 ps env in
          (w.0, w.2, subst P (sym ep) (places_from_inputs ns marks w.0 env (id + 1) plain shows_w));
      one = λ env fits v w hv hw rv rw_.
          let P : (ℕ → Bool) → List Place → Type 0 = λ u ps. ShowAll u ps env in
          let shows_v = inputs_from_places graph rowless m v env fits (subst (P v) ep rv) in
          let shows_w = inputs_from_places graph rowless m w env fits (subst (P w) ep rw_) in
          let same = circuit.extends.one v w hv hw (λ x h. inputs_agree ns marks v w env (id + 1) shows_v shows_w x (omega (arith, ei))) in
          λ x h. same x (omega (arith, size));
      is = λ env fits v hv rv.
          let P : List Place → Type 0 = λ ps. ShowAll v ps env in
          circuit.is v env hv (inputs_from_places graph rowless m v env fits (subst P ep rv));
    }

pub gives_values : {ns : List Node} {id : ℕ} {marks : List Bool} (places : List Place) → IsGraph ns → IsDistinct ns → IsRowless ns id → IsMarking ns id 0 marks → places ≡ places_before ns marks (id + 1) → GivesValues ns places
gives_values {ns} {id} {marks} places graph distinct rowless m ep v =
    let env : ℕ → Value = values_read ns marks v (id + 1) in
    let plain = all_plain graph rowless m (id + 1) in
    let shows = values_are_read ns marks v graph distinct (id + 1) plain in
    let P : List Place → Type 0 = λ ps. ShowAll v ps env in
    (env, values_fit ns marks v graph distinct (id + 1) (omega (arith, m.size)) plain, subst P (sym ep) (places_from_inputs ns marks v env (id + 1) plain shows))

pub small : {ns : List Node} {id inputs : ℕ} {marks : List Bool} {gates : ClauseSet} {output : Literal} (set : ClauseSet) → IsCircuit ns id marks inputs gates output → set ≡ record { variables = gates.variables; clauses = gates.clauses ++ (output ∷ []) ∷ [] } → IsSmall set (2 * term_weight ns id + 2)
small {ns} {id} {inputs} {marks} {gates} {output} set circuit es = record {
  variables = omega (arith, circuit.variables, ap (λ (s : ClauseSet). s.variables) es);
  clauses = omega (arith, ap (λ (s : ClauseSet). s.variables) es, ap (λ (s : ClauseSet). length s.clauses) es, length-append gates.clauses ((output ∷ []) ∷ []), ap length circuit.extends.clauses, circuit.extends.few);
}
