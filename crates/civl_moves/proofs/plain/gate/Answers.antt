use Rattle.civl_tree.specs.declared.expr.Sort.TheVariants.{Bool as Truth}
use Rattle.civl_terms.proofs.Growing.{grows_trans}
use Rattle.civl_states.proofs.formula_parts.Saying.{sort_stays, test_stays}
use Rattle.civl_moves.proofs.plain.gate.Goals as goal

pub both-requires-clause-a : goal.both-requires-clause-a
both-requires-clause-a c = sort_stays c.args.terms.now c.implied.new.terms c.args.safe Truth c.in_ok-reached.ensures.grows c.requires.safe

pub both-requires-2-clause-a : goal.both-requires-2-clause-a
both-requires-2-clause-a c = sort_stays c.args.terms.now c.both.new.terms c.args.live Truth (grows_trans _ _ _ c.in_ok-reached.ensures.grows c.in_ok-safe.ensures.grows) c.requires.live

pub both-requires-2-clause-b : goal.both-requires-2-clause-b
both-requires-2-clause-b c = sort_stays c.args.terms.now c.both.new.terms c.args.test Truth (grows_trans _ _ _ c.in_ok-reached.ensures.grows c.in_ok-safe.ensures.grows) c.requires.test

pub returns-clause-live : goal.returns-clause-live
returns-clause-live c = λ l t p q.
    let g = grows_trans _ _ _ c.in_ok-reached.ensures.grows c.in_ok-safe.ensures.grows in
    c.in_ok-live.ensures.test l t (test_stays c.args.terms.now c.both.new.terms c.args.live l g p) (test_stays c.args.terms.now c.both.new.terms c.args.test t g q)

pub returns-clause-safe : goal.returns-clause-safe
returns-clause-safe c = λ l s t p q r.
    test_stays c.both.new.terms c.both-2.new.terms c.in_ok-safe.safe _ c.in_ok-live.ensures.grows
    (c.in_ok-safe.ensures.test s _ (test_stays c.args.terms.now c.implied.new.terms c.args.safe s c.in_ok-reached.ensures.grows q) (c.in_ok-reached.ensures.test l t p r))
