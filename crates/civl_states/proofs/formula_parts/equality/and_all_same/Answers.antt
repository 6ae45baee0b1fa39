use Rattle.std.specs.Prelude.{◌&&◌, ℕ, IsSome, Option, List, take, slice_index_or}
use Rattle.std.proofs.Common.{◌∙◌, sym, ap, ap₂, refl, subst, arith}
use Rattle.std.proofs.lemmas.List.{take_all}
use Rattle.civl_bits.specs.Value.{same_value}
use Rattle.civl_firing.specs.values.Weights.{bits_in}
use Rattle.civl_tree.specs.declared.expr.Sort.{Sort}
use Rattle.civl_terms.specs.Graphs.{value_at}
use Rattle.civl_terms.proofs.Growing.{grows_trans}
use Rattle.civl_actions.specs.Actions.{values_at}
use Rattle.civl_conditions.specs.Values.{same_values}
use Rattle.civl_states.specs.formula_parts.Said.{IsSaid}
use Rattle.civl_states.proofs.formula_parts.Saying.{sort_stays, said_stays, test_as}
use Rattle.civl_states.proofs.formula_parts.Listing.{alike_stay, alike_at, alike_long, same_more, bits_next}
use Rattle.civl_states.proofs.formula_parts.equality.and_all_same.Goals as goal

pub and_same-requires-clause-sort : goal.and_same-requires-clause-sort
and_same-requires-clause-sort c =
    let a = alike_stay c.args.terms.now c.loop-at.terms c.args.xs.now c.args.ys.now c.loop-at.invariant.0 c.requires.alike in
    let s = alike_at c.loop-at.terms c.args.xs.now c.args.ys.now a.sorts c.loop-at.at a.first a.second (omega arith) in
    subst (λ (o : Option Sort). IsSome o) (sym s.2) refl

pub and_same-requires-clause-alike : goal.and_same-requires-clause-alike
and_same-requires-clause-alike c =
    let a = alike_stay c.args.terms.now c.loop-at.terms c.args.xs.now c.args.ys.now c.loop-at.invariant.0 c.requires.alike in
    let s = alike_at c.loop-at.terms c.args.xs.now c.args.ys.now a.sorts c.loop-at.at a.first a.second (omega arith) in
    s.3 ∙ sym s.2

pub returns-in_err-id-clause-grows : goal.returns-in_err-id-clause-grows
returns-in_err-id-clause-grows c = grows_trans _ _ _ c.loop-at.invariant.0 c.in_err-id.ensures.grows

pub loop-at-preserved : goal.loop-at-preserved
loop-at-preserved c =
    let o = c.args.terms.now in
    let m = c.loop-at.terms in
    let xs = c.args.xs.now in
    let ys = c.args.ys.now in
    let k = c.loop-at.at in
    let r = c.requires.alike in
    let s = alike_at o xs ys r.sorts k r.first r.second (omega arith) in
    let x = slice_index_or xs k 0 in
    let y = slice_index_or ys k 0 in
    let said_x : IsSaid o x s.0 (λ env. value_at env o x) = record { sorted = s.2; is = λ env fits. refl } in
    let said_y : IsSaid o y s.0 (λ env. value_at env o y) = record { sorted = s.3; is = λ env fits. refl } in
    let g = c.loop-at.invariant.0 in (
      grows_trans _ _ _ g c.in_ok-id.ensures.grows,
      c.in_ok-id.ensures.sorted,
      omega (arith, c.loop-at.invariant.2, c.in_ok-id.ensures.weighs, bits_next o xs k (omega arith), ap bits_in (sort_stays o m x s.0 g s.2 ∙ sym s.2)),
      λ h t.
          test_as _ c.in_ok-id.id (λ env. (h env && same_values (values_at env o (take k xs)) (values_at env o (take k ys))) && same_value (value_at env o x) (value_at env o y)) _
          (λ env. same_more (value_at env o) xs ys k (h env) (alike_long o xs ys r.sorts r.first r.second) (omega arith))
          (c.in_ok-id.ensures.test s.0 _ (λ env. value_at env o x) (λ env. value_at env o y) (c.loop-at.invariant.3 h t) (said_stays o m x s.0 _ g said_x) (said_stays o m y s.0 _ g said_y)),
    )

pub returns-clause-test : goal.returns-clause-test
returns-clause-test c = λ h t.
    let o = c.args.terms.now in
    let xs = c.args.xs.now in
    let ys = c.args.ys.now in
    let k = c.loop-at.at in
    let r = c.requires.alike in
    let n = alike_long o xs ys r.sorts r.first r.second in
    test_as _ c.loop-at.id _ _ (λ env. ap₂ (λ (us vs : List ℕ). h env && same_values (values_at env o us) (values_at env o vs)) (take_all k xs (omega arith)) (take_all k ys (omega (arith, n)))) (c.loop-at.invariant.3 h t)
