use Rattle.std.proofs.Common.{◌∙◌}
use Rattle.civl_tree.specs.declared.expr.Sort.TheVariants.{Bool as Truth}
use Rattle.civl_actions.proofs.Staying.{sorted_within}
use Rattle.civl_states.proofs.formula_parts.Saying.{and_test, and_sorted}
use Rattle.civl_states.proofs.formula_parts.tests.both.Goals as goal

pub two-requires-clause-a : goal.two-requires-clause-a
two-requires-clause-a c = sorted_within c.args.terms.now c.args.a Truth c.requires.a

pub two-requires-clause-b : goal.two-requires-clause-b
two-requires-clause-b c = sorted_within c.args.terms.now c.args.b Truth c.requires.b

pub returns-clause-test : goal.returns-clause-test
returns-clause-test c = λ f g s t. and_test c.args.terms.now c.two.new.self c.args.a c.args.b c.in_ok-id.id f g c.in_ok-id.ensures.grows c.in_ok-id.ensures.built s t

pub returns-clause-sorted : goal.returns-clause-sorted
returns-clause-sorted c = c.in_ok-id.ensures.built.sorted ∙ and_sorted c.args.terms.now c.args.a c.args.b c.requires.a c.requires.b
