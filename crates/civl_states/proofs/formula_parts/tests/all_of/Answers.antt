use Rattle.std.proofs.Common.{true}
use Rattle.civl_states.proofs.formula_parts.Saying.{sort_stays, constant_test, tests_stay}
use Rattle.civl_tree.specs.declared.expr.Sort.TheVariants.{Bool as Truth}
use Rattle.civl_states.proofs.formula_parts.tests.all_of.Goals as goal

pub returns-clause-test : goal.returns-clause-test
returns-clause-test c = λ fs h. c.in_ok-id.ensures.test (λ env. true) fs (constant_test c.args.terms.now c.constant.new.self c.in_ok-truth.truth true c.in_ok-truth.ensures.built) (tests_stay c.args.terms.now c.constant.new.self c.args.tests.now fs c.in_ok-truth.ensures.grows h)

pub all_with-requires-clause-tests : goal.all_with-requires-clause-tests
all_with-requires-clause-tests c = λ k d l. sort_stays c.args.terms.now c.constant.new.self _ Truth c.in_ok-truth.ensures.grows (c.requires k d l)
