use Rattle.std.proofs.Common.{◌≡◌, ◌∙◌, ap, arith, get_or}
use Rattle.std.proofs.lemmas.List.{get_or_default}
use Rattle.civl_cnf.specs.Literal.{Literal}
use Rattle.civl_propagation.proofs.Trails.{some_lit}
use Rattle.civl_cdcl.proofs.Analysing.{sees_none, sees_next, sees_all}
use Rattle.civl_cdcl.proofs.analysis.see.Goals as goal

pub loop-lit-init : goal.loop-lit-init
loop-lit-init c = record { sees = sees_none c.args.places.now c.args.root c.args.seen.now c.args.clause.now; found = c.requires.found }

pub place_in-place-requires : goal.place_in-place-requires
place_in-place-requires c =
    let l = c.lit-item.result in
    let at = c.loop-lit.lit-index in
    let clause = c.args.clause.now in
    let is : c.variable-variable.result ≡ (get_or clause at some_lit).variable = c.variable-variable.ensures.is ∙ ap (λ (m : Literal). m.variable) (c.lit-item.is ∙ get_or_default clause at l some_lit c.loop-lit-test.true) in
    let low = c.requires.clause at some_lit c.loop-lit-test.true in
    omega (arith, c.requires.places)

pub see_one-requires-clause-variable : goal.see_one-requires-clause-variable
see_one-requires-clause-variable c =
    let l = c.lit-item.result in
    let at = c.loop-lit.lit-index in
    let clause = c.args.clause.now in
    let is : c.variable-variable.result ≡ (get_or clause at some_lit).variable = c.variable-variable.ensures.is ∙ ap (λ (m : Literal). m.variable) (c.lit-item.is ∙ get_or_default clause at l some_lit c.loop-lit-test.true) in
    let low = c.requires.clause at some_lit c.loop-lit-test.true in
    omega (arith, c.loop-lit.invariant.sees.size)

pub loop-lit-preserved : goal.loop-lit-preserved
loop-lit-preserved c =
    let l = c.lit-item.result in
    let at = c.loop-lit.lit-index in
    let clause = c.args.clause.now in
    let is : c.variable-variable.result ≡ (get_or clause at some_lit).variable = c.variable-variable.ensures.is ∙ ap (λ (m : Literal). m.variable) (c.lit-item.is ∙ get_or_default clause at l some_lit c.loop-lit-test.true) in
    record {
      sees = sees_next c.args.places.now c.args.root c.place_in-place.result c.variable-variable.result c.args.seen.now c.loop-lit.seen c.see_one.new.seen clause at some_lit c.loop-lit-test.true is c.place_in-place.ensures c.loop-lit.invariant.sees c.in_ok-see_one.ensures.sees;
      found = c.in_ok-see_one.ensures.found;
    }

pub returns-clause-sees : goal.returns-clause-sees
returns-clause-sees c = sees_all c.args.places.now c.args.root c.args.seen.now c.loop-lit.seen c.args.clause.now c.loop-lit.lit-index c.loop-lit-test.false c.loop-lit.invariant.sees
