use Rattle.std.specs.Prelude.{◌^◌}
use Rattle.std.proofs.Common.{[], arith}
use Rattle.civl_terms.proofs.Growing.{grows_trans}
use Rattle.civl_conditions.specs.Permissions.{in_store}
use Rattle.civl_conditions.specs.Weights.{linear_globals, initial_items}
use Rattle.civl_states.proofs.formula_parts.Listing.{sorts_stay, said_stay}
use Rattle.civl_states.proofs.Picking.{none_counted, first_counted, first_weighs, items_small, permissions_some}
use Rattle.civl_movers.proofs.interfere.initials.permissions_apart.Goals as goal

pub global_items-requires-clause-globals : goal.global_items-requires-clause-globals
global_items-requires-clause-globals c = sorts_stay _ _ _ _ c.in_ok-none.ensures.grows c.requires.globals

pub global_items-requires-clause-carried : goal.global_items-requires-clause-carried
global_items-requires-clause-carried c = c.in_ok-none.ensures.sorted (2 ^ c.args.program.now.permissions)

pub with_threads-requires-clause-globals : goal.with_threads-requires-clause-globals
with_threads-requires-clause-globals c = sorts_stay _ _ _ _ (grows_trans _ _ _ c.in_ok-none.ensures.grows c.in_ok-stored.ensures.grows) c.requires.globals

pub returns-clause-tells : goal.returns-clause-tells
returns-clause-tells c = λ g s.
    let p = c.args.program.now in
    let w = c.in_ok-none.ensures.grows in
    (c.in_ok-all.ensures.carried (λ env. in_store p (g env)) g
    (c.in_ok-stored.ensures.carried (λ env. []) g (c.in_ok-none.ensures.carried (2 ^ p.permissions)) (said_stay _ _ _ _ _ w s))
    (said_stay _ _ _ _ _ (grows_trans _ _ _ w c.in_ok-stored.ensures.grows) s)).apart

pub returns-clause-weighs : goal.returns-clause-weighs
returns-clause-weighs c =
    let p = c.args.program.now in
    let counted = none_counted c.in_ok-none.none.mask c.in_ok-none.ensures.none in
    let stored = first_counted c.in_ok-stored.stored.mask (linear_globals p) (c.in_ok-stored.ensures.number 0 counted) in
    omega (
      arith,
      c.in_ok-none.ensures.weighs,
      c.in_ok-stored.ensures.weighs 0 counted,
      c.in_ok-all.ensures.weighs (linear_globals p) stored,
      first_weighs (2 ^ p.permissions) (linear_globals p),
      items_small p (initial_items p) (permissions_some p c.requires.rules),
    )

pub returns-clause-grows : goal.returns-clause-grows
returns-clause-grows c = grows_trans _ _ _ c.in_ok-none.ensures.grows (grows_trans _ _ _ c.in_ok-stored.ensures.grows c.in_ok-all.ensures.grows)

pub returns-in_err-stored-clause-grows : goal.returns-in_err-stored-clause-grows
returns-in_err-stored-clause-grows c = grows_trans _ _ _ c.in_ok-none.ensures.grows c.in_err-stored.ensures.grows

pub returns-in_err-all-clause-grows : goal.returns-in_err-all-clause-grows
returns-in_err-all-clause-grows c = grows_trans _ _ _ c.in_ok-none.ensures.grows (grows_trans _ _ _ c.in_ok-stored.ensures.grows c.in_err-all.ensures.grows)
