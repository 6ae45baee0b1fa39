use Rattle.civl_tree.specs.declared.expr.Sort.TheVariants.{Bool as Truth}
use Rattle.civl_terms.proofs.Growing.{grows_trans}
use Rattle.civl_conditions.specs.Movers.{apart}
use Rattle.civl_states.proofs.formula_parts.Saying.{sort_stays, test_stays}
use Rattle.civl_states.proofs.formula_parts.Listing.{sorts_stay, said_stay}
use Rattle.civl_states.proofs.Runs.{ready_stays, invoked_stays}
use Rattle.civl_movers.specs.Runs.{invoke}
use Rattle.civl_movers.specs.Settings.{kind_fails}
use Rattle.civl_movers.proofs.violations.pair_at.Goals as goal

pub kind_fails-requires-clause-globals : goal.kind_fails-requires-clause-globals
kind_fails-requires-clause-globals c = sorts_stay _ _ _ _ c.in_ok-apart.ensures.grows c.requires.globals

pub kind_fails-requires-clause-x : goal.kind_fails-requires-clause-x
kind_fails-requires-clause-x c = ready_stays _ _ _ _ c.in_ok-apart.ensures.grows c.requires.x

pub kind_fails-requires-clause-y : goal.kind_fails-requires-clause-y
kind_fails-requires-clause-y c = ready_stays _ _ _ _ c.in_ok-apart.ensures.grows c.requires.y

pub both-requires-clause-a : goal.both-requires-clause-a
both-requires-clause-a c = sort_stays _ _ _ Truth c.in_ok-fails.ensures.grows c.in_ok-apart.ensures.sorted

pub returns-clause-tells : goal.returns-clause-tells
returns-clause-tells c = λ a b g i e j d s x y.
    let p = c.args.program.now in
    let w = c.in_ok-apart.ensures.grows in
    c.in_ok-id.ensures.test (λ env. apart p (g env) (invoke a (i env) (e env)) (invoke b (j env) (d env))) (λ env. kind_fails p c.args.number c.args.step (g env) (invoke a (i env) (e env)) (invoke b (j env) (d env)))
    (test_stays _ _ _ (λ env. apart p (g env) (invoke a (i env) (e env)) (invoke b (j env) (d env))) c.in_ok-fails.ensures.grows (c.in_ok-apart.ensures.tells a b g i e j d s x y))
    (c.in_ok-fails.ensures.tells a b g i e j d (said_stay _ _ _ _ _ w s) (invoked_stays _ _ _ _ a i e w x) (invoked_stays _ _ _ _ b j d w y))

pub returns-clause-grows : goal.returns-clause-grows
returns-clause-grows c = grows_trans _ _ _ c.in_ok-apart.ensures.grows (grows_trans _ _ _ c.in_ok-fails.ensures.grows c.in_ok-id.ensures.grows)

pub returns-in_err-fails-clause-grows : goal.returns-in_err-fails-clause-grows
returns-in_err-fails-clause-grows c = grows_trans _ _ _ c.in_ok-apart.ensures.grows c.in_err-fails.ensures.grows

pub returns-in_err-id-clause-grows : goal.returns-in_err-id-clause-grows
returns-in_err-id-clause-grows c = grows_trans _ _ _ c.in_ok-apart.ensures.grows (grows_trans _ _ _ c.in_ok-fails.ensures.grows c.in_err-id.ensures.grows)
