use Rattle.std.proofs.Common.{◌≡◌, ◌∙◌, ap, arith, get_or}
use Rattle.std.proofs.lemmas.List.{get_or_default}
use Rattle.civl_cnf.specs.Literal.{Literal}
use Rattle.civl_propagation.proofs.Trails.{some_lit}
use Rattle.civl_cdcl.proofs.Lessons.{known_next}
use Rattle.civl_cdcl.proofs.teaching.all_seen.Goals as goal

pub place_in-place-requires : goal.place_in-place-requires
place_in-place-requires c =
    let l = c.lit-item.result in
    let at = c.loop-lit.lit-index in
    let clause = c.args.clause.now in
    let is : c.variable-variable.result ≡ (get_or clause at some_lit).variable = c.variable-variable.ensures.is ∙ ap (λ (m : Literal). m.variable) (c.lit-item.is ∙ get_or_default clause at l some_lit c.loop-lit-test.true) in
    let low = c.requires.clause at some_lit c.loop-lit-test.true in
    omega (arith, c.requires.places)

pub is_known-requires : goal.is_known-requires
is_known-requires c =
    let l = c.lit-item.result in
    let at = c.loop-lit.lit-index in
    let clause = c.args.clause.now in
    let is : c.variable-variable.result ≡ (get_or clause at some_lit).variable = c.variable-variable.ensures.is ∙ ap (λ (m : Literal). m.variable) (c.lit-item.is ∙ get_or_default clause at l some_lit c.loop-lit-test.true) in
    let low = c.requires.clause at some_lit c.loop-lit-test.true in
    omega arith

pub loop-lit-preserved : goal.loop-lit-preserved
loop-lit-preserved c =
    let l = c.lit-item.result in
    let at = c.loop-lit.lit-index in
    let clause = c.args.clause.now in
    let is : c.variable-variable.result ≡ (get_or clause at some_lit).variable = c.variable-variable.ensures.is ∙ ap (λ (m : Literal). m.variable) (c.lit-item.is ∙ get_or_default clause at l some_lit c.loop-lit-test.true) in
    known_next c.args.places.now c.args.root c.args.seen.now c.args.besides clause at c.variable-variable.result c.place_in-place.result c.loop-lit-test.true is c.place_in-place.ensures c.loop-lit.invariant (c.is_known.ensures c.if-not-is_known.false)
