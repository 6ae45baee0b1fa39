use Rattle.std.specs.Prelude.{◌≡◌, slice_index_or, slice_set, drop, All, length, Some}
use Rattle.std.proofs.Common.{◌+◌, ◌<◌, ◌∙◌, ℕ, List, sym, ap, subst, arith}
use Rattle.std.proofs.lemmas.List.Elements.{All-get_or}
use Rattle.civl_tree.specs.declared.expr.Sort.{Sort}
use Rattle.civl_firing.specs.values.Operators.{nothing}
use Rattle.civl_terms.specs.Graphs.{listed}
use Rattle.civl_blast.specs.rows.Cells.{cells_in}
use Rattle.civl_blast.specs.Standing.{cell_bits}
use Rattle.civl_bits.specs.declared.value.Value.{Value}
use Rattle.civl_firing.specs.values.Values.{HaveSorts}
use Rattle.civl_cnf.specs.ClauseSet.{assignment}
use Rattle.civl_blast.specs.declared.blasted.Place.{Place}
use Rattle.civl_verdicts.specs.models.Reading.{IsCellPlace, AreRead, with_cell}
use Rattle.civl_verdicts.specs.inner.models.Zeros.{zeros_of}
use Rattle.civl_verdicts.proofs.models.Placing.{within_values, sort_here, same_default, placed, sorts_stay}
use Rattle.civl_verdicts.proofs.models.ReadingAll.{read_all, read_next, read_none, zeros_have, are_read}
use Rattle.civl_verdicts.proofs.models.reading.read_back.Goals as goal

pub loop-place-init : goal.loop-place-init
loop-place-init c = (subst (λ (vs : List Value). HaveSorts vs c.args.sorts.now) (sym c.in_ok-values.ensures) (zeros_have c.args.sorts.now c.requires.limits), ap (read_all (assignment c.args.bits.now) c.args.places.now) c.in_ok-values.ensures)

is_place : (sorts : List Sort) (count : ℕ) (places : List Place) (i : ℕ) (d : Place) → All (IsCellPlace sorts count) places → i < length places → IsCellPlace sorts count (slice_index_or places i d)
is_place sorts count places i d h l = All-get_or (IsCellPlace sorts count) places i d l h

pub index-requires : goal.index-requires
index-requires c =
    let d : Place = record { variable = 0; cell = 0; first = 0 } in
    let q = slice_index_or c.args.places.now c.loop-place.place-index d in
    let p = is_place c.args.sorts.now (length c.args.bits.now) c.args.places.now c.loop-place.place-index d c.requires.places (omega arith) in
    let l : q.variable < length c.loop-place.values.items = within_values c.loop-place.values.items c.args.sorts.now q.variable p.sort c.loop-place.invariant.0 p.there in
    omega (arith, l)

pub index_mut-requires : goal.index_mut-requires
index_mut-requires c =
    let d : Place = record { variable = 0; cell = 0; first = 0 } in
    let q = slice_index_or c.args.places.now c.loop-place.place-index d in
    let p = is_place c.args.sorts.now (length c.args.bits.now) c.args.places.now c.loop-place.place-index d c.requires.places (omega arith) in
    let l : q.variable < length c.loop-place.values.items = within_values c.loop-place.values.items c.args.sorts.now q.variable p.sort c.loop-place.invariant.0 p.there in
    omega (arith, l)

pub with_cell-value-requires-clause-cell : goal.with_cell-value-requires-clause-cell
with_cell-value-requires-clause-cell c =
    let d : Place = record { variable = 0; cell = 0; first = 0 } in
    let q = slice_index_or c.args.places.now c.loop-place.place-index d in
    let p = is_place c.args.sorts.now (length c.args.bits.now) c.args.places.now c.loop-place.place-index d c.requires.places (omega arith) in
    let e = sort_here c.loop-place.values.items c.args.sorts.now q.variable p.sort _ _ c.loop-place.invariant.0 p.there c.index.ensures in
    subst (λ (s : Sort). q.cell < cells_in (Some s)) (sym e) p.cell

pub with_cell-value-requires-clause-within : goal.with_cell-value-requires-clause-within
with_cell-value-requires-clause-within c =
    let d : Place = record { variable = 0; cell = 0; first = 0 } in
    let q = slice_index_or c.args.places.now c.loop-place.place-index d in
    let p = is_place c.args.sorts.now (length c.args.bits.now) c.args.places.now c.loop-place.place-index d c.requires.places (omega arith) in
    let e = sort_here c.loop-place.values.items c.args.sorts.now q.variable p.sort _ _ c.loop-place.invariant.0 p.there c.index.ensures in
    omega (arith, p.room, ap cell_bits e)

pub loop-place-preserved : goal.loop-place-preserved
loop-place-preserved c =
    let d : Place = record { variable = 0; cell = 0; first = 0 } in
    let ps = c.args.places.now in
    let i = c.loop-place.place-index in
    let q = slice_index_or ps i d in
    let v = assignment c.args.bits.now in
    let vs = c.loop-place.values.items in
    let p = is_place c.args.sorts.now (length c.args.bits.now) ps i d c.requires.places (omega arith) in
    let is : c.with_cell-value.result ≡ with_cell v q.first (listed vs q.variable) q.cell =
    c.with_cell-value.ensures ∙ ap (λ (x : Value). with_cell v q.first x q.cell) (c.index.ensures ∙ same_default vs q.variable _ nothing (within_values vs c.args.sorts.now _ p.sort c.loop-place.invariant.0 p.there)) in
    let new : slice_set vs q.variable c.with_cell-value.result ≡ placed v q vs = ap (slice_set vs q.variable) is in (
      subst (λ (xs : List Value). HaveSorts xs c.args.sorts.now) (sym new) (sorts_stay v c.args.sorts.now (length c.args.bits.now) q vs p c.loop-place.invariant.0),
      ap (read_all v (drop (i + 1) ps)) new ∙ sym (read_next v ps i d vs (omega arith)) ∙ c.loop-place.invariant.1,
    )

pub returns : goal.returns
returns c =
    let v = assignment c.args.bits.now in
    let all = are_read c.args.sorts.now (length c.args.bits.now) c.args.places.now v c.requires.limits c.requires.places in
    let end : c.loop-place.values.items ≡ read_all v c.args.places.now (zeros_of c.args.sorts.now) = sym (read_none v c.args.places.now c.loop-place.place-index c.loop-place.values.items (omega arith)) ∙ c.loop-place.invariant.1 in
    subst (AreRead c.args.sorts.now c.args.places.now v) (sym (c.from_vec.ensures ∙ end)) all
