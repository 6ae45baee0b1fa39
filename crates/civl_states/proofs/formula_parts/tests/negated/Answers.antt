use Rattle.std.proofs.Common.{◌∙◌, ap}
use Rattle.civl_tree.specs.declared.expr.Sort.TheVariants.{Bool as Truth}
use Rattle.civl_tree.specs.declared.expr.One.TheVariants.{Not}
use Rattle.civl_tree.specs.rules.Sorts.{one_sort}
use Rattle.civl_actions.proofs.Staying.{sorted_within}
use Rattle.civl_states.proofs.formula_parts.Saying.{not_test}
use Rattle.civl_states.proofs.formula_parts.tests.negated.Goals as goal

pub one-requires-clause-a : goal.one-requires-clause-a
one-requires-clause-a c = sorted_within c.args.terms.now c.args.a Truth c.requires

pub returns-clause-test : goal.returns-clause-test
returns-clause-test c = λ f t. not_test c.args.terms.now c.one.new.self c.args.a c.in_ok-id.id f c.in_ok-id.ensures.grows c.in_ok-id.ensures.built t

pub returns-clause-sorted : goal.returns-clause-sorted
returns-clause-sorted c = c.in_ok-id.ensures.built.sorted ∙ ap (one_sort Not) c.requires
