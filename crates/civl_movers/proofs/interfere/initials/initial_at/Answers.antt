use Rattle.std.proofs.Common.{◌∙◌, ℕ, List, sym, subst, arith}
use Rattle.civl_tree.specs.declared.expr.Sort.TheVariants.{Bool as Truth}
use Rattle.civl_meaning.specs.Permissions.{pairwise_disjoint}
use Rattle.civl_meaning.specs.Initial.{initial_permissions}
use Rattle.civl_terms.proofs.Growing.{grows_trans}
use Rattle.civl_conditions.specs.Invariants.{holds_of_globals}
use Rattle.civl_states.proofs.formula_parts.Saying.{sort_stays, test_stays}
use Rattle.civl_states.proofs.formula_parts.Listing.{sorts_stay, said_stay}
use Rattle.civl_states.specs.Stores.{AreStore}
use Rattle.civl_states.proofs.Typed.{init_typed}
use Rattle.civl_movers.proofs.interfere.initials.initial_at.Goals as goal

pub global_note-requires-clause-typed : goal.global_note-requires-clause-typed
global_note-requires-clause-typed c = (init_typed c.args.program.now c.requires.rules).typed

pub permissions_apart-requires-clause-globals : goal.permissions_apart-requires-clause-globals
permissions_apart-requires-clause-globals c = sorts_stay _ _ _ _ c.in_ok-init.ensures.grows c.requires.globals

pub both-requires-clause-a : goal.both-requires-clause-a
both-requires-clause-a c = sort_stays _ _ _ Truth c.in_ok-apart.ensures.grows (c.in_ok-init.ensures.sorted ∙ (init_typed c.args.program.now c.requires.rules).sorted)

pub returns-clause-tells : goal.returns-clause-tells
returns-clause-tells c = λ g s.
    let p = c.args.program.now in
    let o = c.args.terms.now in
    c.in_ok-id.ensures.test (λ env. holds_of_globals p (g env) p.init) (λ env. pairwise_disjoint (initial_permissions p (g env)))
    (test_stays _ _ _ (λ env. holds_of_globals p (g env) p.init) c.in_ok-apart.ensures.grows
    (c.in_ok-init.ensures.note.holds g (init_typed p c.requires.rules).sorted (subst (λ (ids : List ℕ). AreStore o p ids g) (sym c.as_slice.ensures) s)))
    (c.in_ok-apart.ensures.tells g (said_stay _ _ _ _ _ c.in_ok-init.ensures.grows s))

pub returns-clause-weighs : goal.returns-clause-weighs
returns-clause-weighs c = omega (arith, c.in_ok-init.ensures.weighs, c.in_ok-apart.ensures.weighs, c.in_ok-id.ensures.weighs)

pub returns-clause-grows : goal.returns-clause-grows
returns-clause-grows c = grows_trans _ _ _ c.in_ok-init.ensures.grows (grows_trans _ _ _ c.in_ok-apart.ensures.grows c.in_ok-id.ensures.grows)

pub returns-in_err-apart-clause-grows : goal.returns-in_err-apart-clause-grows
returns-in_err-apart-clause-grows c = grows_trans _ _ _ c.in_ok-init.ensures.grows c.in_err-apart.ensures.grows

pub returns-in_err-id-clause-grows : goal.returns-in_err-id-clause-grows
returns-in_err-id-clause-grows c = grows_trans _ _ _ c.in_ok-init.ensures.grows (grows_trans _ _ _ c.in_ok-apart.ensures.grows c.in_err-id.ensures.grows)
