use Rattle.civl_tree.specs.declared.expr.Sort.TheVariants.{Bool as Truth}
use Rattle.civl_terms.proofs.Growing.{grows_trans}
use Rattle.civl_states.proofs.formula_parts.Saying.{sort_stays, test_stays}
use Rattle.civl_moves.proofs.plain.still_once.Goals as goal

pub implied-requires-clause-a : goal.implied-requires-clause-a
implied-requires-clause-a c = sort_stays c.args.terms.now c.negated.new.terms c.args.live Truth c.in_ok-open.ensures.grows c.requires.live

pub both-requires-clause-a : goal.both-requires-clause-a
both-requires-clause-a c = sort_stays c.args.terms.now c.implied.new.terms c.args.once Truth (grows_trans _ _ _ c.in_ok-open.ensures.grows c.in_ok-kept.ensures.grows) c.requires.once

pub returns-clause-test : goal.returns-clause-test
returns-clause-test c = λ o l d p q r.
    c.in_ok-id.ensures.test o _ (test_stays c.args.terms.now c.implied.new.terms c.args.once o (grows_trans _ _ _ c.in_ok-open.ensures.grows c.in_ok-kept.ensures.grows) p)
    (c.in_ok-kept.ensures.test l _ (test_stays c.args.terms.now c.negated.new.terms c.args.live l c.in_ok-open.ensures.grows q) (c.in_ok-open.ensures.test d r))
