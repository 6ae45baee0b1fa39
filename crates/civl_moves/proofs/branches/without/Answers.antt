use Rattle.civl_tree.specs.declared.expr.Sort.TheVariants.{Bool as Truth}
use Rattle.civl_states.proofs.formula_parts.Saying.{sort_stays, test_stays}
use Rattle.civl_moves.proofs.branches.without.Goals as goal

pub both-requires-clause-a : goal.both-requires-clause-a
both-requires-clause-a c = sort_stays c.args.terms.now c.negated.new.terms c.args.a Truth c.in_ok-opposite.ensures.grows c.requires.a

pub returns-clause-test : goal.returns-clause-test
returns-clause-test c = λ f g s t. c.in_ok-id.ensures.test f _ (test_stays c.args.terms.now c.negated.new.terms c.args.a f c.in_ok-opposite.ensures.grows s) (c.in_ok-opposite.ensures.test g t)
