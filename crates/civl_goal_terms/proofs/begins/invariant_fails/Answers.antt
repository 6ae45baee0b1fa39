use Rattle.std.specs.Prelude.{◌<◌, ◌^◌, ◌&&◌, not, length, List}
use Rattle.std.proofs.Common.{◌∙◌, sym, ap, subst, arith}
use Rattle.civl_tree.specs.declared.expr.Sort.{Sort}
use Rattle.civl_firing.specs.declared.store.Store.{Store}
use Rattle.civl_terms.proofs.Growing.{lengthens_trans, lengthened}
use Rattle.civl_conditions.specs.Invariants.{meets_init}
use Rattle.civl_states.specs.formula_parts.Given.{given, bits_of_sorts, AreVariablesOf}
use Rattle.civl_states.proofs.formula_parts.Giving.{variables_kept}
use Rattle.civl_states.proofs.formula_parts.Saying.{test_as}
use Rattle.civl_states.specs.Stores.{global_sorts}
use Rattle.civl_states.proofs.Limits.{AreSorts, global_sorts_are}
use Rattle.civl_states.proofs.Formulas.{formula_of}
use Rattle.civl_movers.proofs.interfere.Starting.{all_sorts, all_stand, sorts_few, all_store}
use Rattle.civl_goals.specs.declared.goal.Goal.TheVariants as named
use Rattle.civl_goals.specs.Outlines.{invariant_holds}
use Rattle.civl_goals.specs.Failed.{failed}
use Rattle.civl_goal_terms.specs.Formulas.{sorts_of}
use Rattle.civl_goal_terms.proofs.Beginning.{invariant_sorts, invariant_is, invariant_weighs}
use Rattle.civl_goal_terms.proofs.begins.invariant_fails.Goals as goal

pub store-requires-clause-rules : goal.store-requires-clause-rules
store-requires-clause-rules c = c.requires.layered.rules

pub store-requires-clause-stand : goal.store-requires-clause-stand
store-requires-clause-stand c = all_stand c.args.program.now c.args.sorts.now (c.requires.sorts ∙ invariant_sorts c.args.program.now)

pub store-requires-clause-small : goal.store-requires-clause-small
store-requires-clause-small c =
    let p = c.args.program.now in
    subst (λ (ss : List Sort). length ss < 2 ^ 32) (sym (c.requires.sorts ∙ invariant_sorts c.args.program.now)) (sorts_few p c.requires.layered.rules)

pub store-requires-clause-limits : goal.store-requires-clause-limits
store-requires-clause-limits c =
    let p = c.args.program.now in
    subst AreSorts (sym (c.requires.sorts ∙ invariant_sorts c.args.program.now)) (global_sorts_are p c.requires.layered.rules)

pub returns-in_err-id-clause-lengthens : goal.returns-in_err-id-clause-lengthens
returns-in_err-id-clause-lengthens c = lengthens_trans _ _ _ c.in_ok-globals.ensures.lengthens (lengthened _ _ c.in_err-id.ensures.grows)

pub returns-clause-lengthens : goal.returns-clause-lengthens
returns-clause-lengthens c = lengthens_trans _ _ _ c.in_ok-globals.ensures.lengthens (lengthened _ _ c.in_ok-id.ensures.grows)

pub returns-clause-says : goal.returns-clause-says
returns-clause-says c =
    let p = c.args.program.now in
    let o = c.args.outline.now in
    let n1 = c.store.new.terms in
    let n2 = c.invariant_at.new.terms in
    let sorts = sorts_of p named.Invariant in
    let same = invariant_sorts p in
    formula_of n2 c.in_ok-id.id sorts (failed p o named.Invariant)
    (variables_kept n1 n2 sorts c.in_ok-id.ensures.grows (subst (AreVariablesOf n1) c.requires.sorts c.in_ok-globals.ensures.variables))
    (test_as n2 c.in_ok-id.id _ _
    (λ env.
    ap (λ (g : Store). meets_init p g && not (invariant_holds p o g)) (all_store p env)
    ∙ (invariant_is p o (given env 0 (length (global_sorts p))) ∙ ap (λ (ss : List Sort). failed p o named.Invariant (given env 0 (length ss))) (sym same)))
    (c.in_ok-id.ensures.tells _ c.in_ok-globals.ensures.store))

pub returns-clause-weighs : goal.returns-clause-weighs
returns-clause-weighs c =
    let p = c.args.program.now in
    omega (arith, c.in_ok-globals.ensures.weighs, c.in_ok-id.ensures.weighs, ap bits_of_sorts (all_sorts p), invariant_weighs p c.args.outline.now)
