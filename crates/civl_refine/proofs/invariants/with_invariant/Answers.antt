use Rattle.std.proofs.Common.{true, sym, ap, subst}
use Rattle.std.specs.Prelude.{Bool, List, ℕ, ◌&&◌, if◌then◌else◌}
use Rattle.std.proofs.lemmas.Bool.{eq-eqb}
use Rattle.civl_tree.specs.declared.expr.Sort.TheVariants.{Bool as Truth}
use Rattle.civl_terms.proofs.Growing.{grows_trans}
use Rattle.civl_states.specs.formula_parts.Said.{Env}
use Rattle.civl_states.specs.formula_parts.Lists.{AreSaid}
use Rattle.civl_states.proofs.formula_parts.Saying.{sort_stays, test_stays, test_as}
use Rattle.civl_conditions.specs.Invariants.{holds_of_globals}
use Rattle.civl_states.specs.Stores.{global_sorts}
use Rattle.civl_refine.proofs.invariants.with_invariant.Goals as goal

pub both-requires-clause-a : goal.both-requires-clause-a
both-requires-clause-a c = sort_stays _ _ _ Truth c.in_ok-holds.ensures.grows c.requires.test

pub returns-in_err-id-clause-grows : goal.returns-in_err-id-clause-grows
returns-in_err-id-clause-grows c = grows_trans _ _ _ c.in_ok-holds.ensures.grows c.in_err-id.ensures.grows

pub returns-then-invariant-step-clause-test : goal.returns-then-invariant-step-clause-test
returns-then-invariant-step-clause-test c = λ f g t s.
    let p = c.args.program.now in
    let i = c.args.invariant.now in
    let h : Env → Bool = λ env. holds_of_globals p (g env) i.expr in
    test_as _ _ (λ env. f env && h env) _ (λ env. ap (λ b. f env && (if b then h env else true)) (sym (eq-eqb i.step c.args.step c.if-invariant-step.true)))
    (c.in_ok-id.ensures.test f h (test_stays _ _ _ f c.in_ok-holds.ensures.grows t)
    (c.in_ok-holds.ensures.note.holds g c.requires.truth (subst (λ (xs : List ℕ). AreSaid c.args.terms.now xs (global_sorts p) (λ env. (g env).values)) (sym c.as_slice.ensures) s)))

pub returns-then-invariant-step-clause-grows : goal.returns-then-invariant-step-clause-grows
returns-then-invariant-step-clause-grows c = grows_trans _ _ _ c.in_ok-holds.ensures.grows c.in_ok-id.ensures.grows
