use Rattle.std.specs.Prelude.{◌^◌}
use Rattle.std.proofs.Common.{[], arith}
use Rattle.civl_terms.proofs.Growing.{grows_trans}
use Rattle.civl_conditions.specs.Permissions.{in_store}
use Rattle.civl_conditions.specs.Weights.{linear_globals}
use Rattle.civl_states.proofs.formula_parts.Listing.{sorts_stay, said_stay}
use Rattle.civl_states.proofs.Runs.{ready_stays, invoked_stays}
use Rattle.civl_states.proofs.Picking.{none_counted, first_counted, first_weighs}
use Rattle.civl_states.proofs.items.incoming.Goals as goal

pub global_items-requires-clause-globals : goal.global_items-requires-clause-globals
global_items-requires-clause-globals c = sorts_stay _ _ _ _ c.in_ok-none.ensures.grows c.requires.globals

pub global_items-requires-clause-carried : goal.global_items-requires-clause-carried
global_items-requires-clause-carried c = c.in_ok-none.ensures.sorted (2 ^ c.args.program.now.permissions)

pub input_items-requires-clause-x : goal.input_items-requires-clause-x
input_items-requires-clause-x c = ready_stays _ _ _ _ (grows_trans _ _ _ c.in_ok-none.ensures.grows c.in_ok-stored.ensures.grows) c.requires.x

pub returns-clause-carried : goal.returns-clause-carried
returns-clause-carried c = λ a g i e s x.
    let p = c.args.program.now in
    let w = c.in_ok-none.ensures.grows in
    c.in_ok-all.ensures.carried a (λ env. in_store p (g env)) i e
    (c.in_ok-stored.ensures.carried (λ env. []) g (c.in_ok-none.ensures.carried (2 ^ p.permissions)) (said_stay _ _ _ _ _ w s))
    (invoked_stays _ _ _ _ a i e (grows_trans _ _ _ w c.in_ok-stored.ensures.grows) x)

pub returns-clause-number : goal.returns-clause-number
returns-clause-number c = λ a e.
    c.in_ok-all.ensures.number a (linear_globals c.args.program.now) e
    (first_counted c.in_ok-stored.stored.mask (linear_globals c.args.program.now) (c.in_ok-stored.ensures.number 0 (none_counted c.in_ok-none.none.mask c.in_ok-none.ensures.none)))

pub returns-clause-weighs : goal.returns-clause-weighs
returns-clause-weighs c = λ a e.
    let p = c.args.program.now in
    let counted = none_counted c.in_ok-none.none.mask c.in_ok-none.ensures.none in
    let stored = first_counted c.in_ok-stored.stored.mask (linear_globals p) (c.in_ok-stored.ensures.number 0 counted) in
    omega (arith, c.in_ok-none.ensures.weighs, c.in_ok-stored.ensures.weighs 0 counted, c.in_ok-all.ensures.weighs a (linear_globals p) e stored, first_weighs (2 ^ p.permissions) (linear_globals p))

pub returns-clause-grows : goal.returns-clause-grows
returns-clause-grows c = grows_trans _ _ _ c.in_ok-none.ensures.grows (grows_trans _ _ _ c.in_ok-stored.ensures.grows c.in_ok-all.ensures.grows)

pub returns-in_err-stored-clause-grows : goal.returns-in_err-stored-clause-grows
returns-in_err-stored-clause-grows c = grows_trans _ _ _ c.in_ok-none.ensures.grows c.in_err-stored.ensures.grows

pub returns-in_err-all-clause-grows : goal.returns-in_err-all-clause-grows
returns-in_err-all-clause-grows c = grows_trans _ _ _ c.in_ok-none.ensures.grows (grows_trans _ _ _ c.in_ok-stored.ensures.grows c.in_err-all.ensures.grows)
