use Rattle.civl_tree.specs.declared.expr.Sort.TheVariants.{Bool as Truth}
use Rattle.civl_bits.specs.Value.{same_value}
use Rattle.civl_states.proofs.formula_parts.Saying.{sort_stays, test_stays}
use Rattle.civl_states.proofs.formula_parts.equality.and_same.Goals as goal

pub both-requires-clause-a : goal.both-requires-clause-a
both-requires-clause-a c = sort_stays c.args.terms.now c.same.new.terms c.args.test Truth c.in_ok-equal.ensures.grows c.requires.test

pub returns-clause-test : goal.returns-clause-test
returns-clause-test c = λ s h f g t p q.
    c.in_ok-id.ensures.test h (λ env. same_value (f env) (g env)) (test_stays c.args.terms.now c.same.new.terms c.args.test h c.in_ok-equal.ensures.grows t) (c.in_ok-equal.ensures.test s f g p q)
