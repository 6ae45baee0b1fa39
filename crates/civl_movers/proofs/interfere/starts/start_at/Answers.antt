use Rattle.std.proofs.Common.{ℕ, List, sym, subst, arith}
use Rattle.civl_tree.specs.declared.expr.Sort.TheVariants.{Bool as Truth}
use Rattle.civl_tree.specs.rules.Scopes.{global_scope}
use Rattle.civl_terms.proofs.Growing.{grows_trans}
use Rattle.civl_conditions.specs.Invariants.{meets_init, invariant_lost}
use Rattle.civl_states.proofs.formula_parts.Saying.{sort_stays, test_stays}
use Rattle.civl_states.proofs.formula_parts.Listing.{sorts_stay, said_stay}
use Rattle.civl_states.specs.Stores.{AreGlobals, AreStore}
use Rattle.civl_states.proofs.Weighing.{weighs_some}
use Rattle.civl_movers.proofs.interfere.starts.start_at.Goals as goal

pub lost_at-requires-clause-globals : goal.lost_at-requires-clause-globals
lost_at-requires-clause-globals c =
    subst (λ (ids : List ℕ). AreGlobals c.initial_at.new.terms c.args.program.now ids) (sym c.as_slice.ensures) (sorts_stay _ _ _ _ c.in_ok-initial.ensures.grows c.requires.globals)

pub both-requires-clause-a : goal.both-requires-clause-a
both-requires-clause-a c = sort_stays _ _ _ Truth c.in_ok-lost.ensures.grows c.in_ok-initial.ensures.sorted

pub returns-clause-tells : goal.returns-clause-tells
returns-clause-tells c = λ g s.
    let p = c.args.program.now in
    c.in_ok-id.ensures.test (λ env. meets_init p (g env)) (λ env. invariant_lost p c.args.step c.args.place (g env))
    (test_stays _ _ _ (λ env. meets_init p (g env)) c.in_ok-lost.ensures.grows (c.in_ok-initial.ensures.tells g s))
    (c.in_ok-lost.ensures.tells g (subst (λ (ids : List ℕ). AreStore c.initial_at.new.terms p ids g) (sym c.as_slice.ensures) (said_stay _ _ _ _ _ c.in_ok-initial.ensures.grows s)))

pub returns-clause-grows : goal.returns-clause-grows
returns-clause-grows c = grows_trans _ _ _ c.in_ok-initial.ensures.grows (grows_trans _ _ _ c.in_ok-lost.ensures.grows c.in_ok-id.ensures.grows)

pub returns-in_err-lost-clause-grows : goal.returns-in_err-lost-clause-grows
returns-in_err-lost-clause-grows c = grows_trans _ _ _ c.in_ok-initial.ensures.grows c.in_err-lost.ensures.grows

pub returns-in_err-id-clause-grows : goal.returns-in_err-id-clause-grows
returns-in_err-id-clause-grows c = grows_trans _ _ _ c.in_ok-initial.ensures.grows (grows_trans _ _ _ c.in_ok-lost.ensures.grows c.in_err-id.ensures.grows)

pub returns-clause-weighs : goal.returns-clause-weighs
returns-clause-weighs c =
    omega (arith, c.in_ok-initial.ensures.weighs, c.in_ok-lost.ensures.weighs, c.in_ok-id.ensures.weighs, weighs_some (global_scope c.args.program.now) c.args.program.now.init)
