use Rattle.std.specs.Prelude.{true}
use Rattle.std.proofs.Common.{ap₂, arith}
use Rattle.civl_conditions.specs.Values.{same_values}
use Rattle.civl_states.proofs.formula_parts.Saying.{constant_test, test_where}
use Rattle.civl_states.proofs.formula_parts.Listing.{alike_stay, values_stay, bits_stay}
use Rattle.civl_states.proofs.formula_parts.equality.all_same.Goals as goal

pub and_all_same-requires-clause-alike : goal.and_all_same-requires-clause-alike
and_all_same-requires-clause-alike c = alike_stay c.args.terms.now c.constant.new.self c.args.xs.now c.args.ys.now c.in_ok-truth.ensures.grows c.requires

pub returns-clause-test : goal.returns-clause-test
returns-clause-test c =
    let o = c.args.terms.now in
    let m = c.constant.new.self in
    let g = c.in_ok-truth.ensures.grows in
    let r = c.requires in
    test_where _ c.in_ok-id.id _ _ (λ env fits. ap₂ same_values (values_stay o m c.args.xs.now r.sorts env g r.first) (values_stay o m c.args.ys.now r.sorts env g r.second))
    (c.in_ok-id.ensures.test (λ env. true) (constant_test o m c.in_ok-truth.truth true c.in_ok-truth.ensures.built))

pub returns-clause-weighs : goal.returns-clause-weighs
returns-clause-weighs c = omega (arith, c.in_ok-id.ensures.weighs, c.in_ok-truth.ensures.built.weighs, bits_stay c.args.terms.now c.constant.new.self c.args.xs.now c.requires.sorts c.in_ok-truth.ensures.grows c.requires.first)
