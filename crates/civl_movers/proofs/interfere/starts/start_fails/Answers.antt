use Rattle.std.specs.Prelude.{◌<◌, ◌^◌, length, List}
use Rattle.std.proofs.Common.{◌∙◌, sym, ap, subst, arith}
use Rattle.civl_tree.specs.declared.expr.Sort.{Sort}
use Rattle.civl_firing.specs.declared.store.Store.{Store}
use Rattle.civl_terms.proofs.Growing.{lengthens_trans, lengthened}
use Rattle.civl_conditions.specs.declared.condition.Condition.TheVariants.{Start}
use Rattle.civl_conditions.specs.Invariants.{start_fails}
use Rattle.civl_conditions.specs.Violated.{violated}
use Rattle.civl_states.specs.formula_parts.Given.{given, bits_of_sorts, AreVariablesOf}
use Rattle.civl_states.proofs.formula_parts.Giving.{variables_kept}
use Rattle.civl_states.proofs.formula_parts.Saying.{test_as}
use Rattle.civl_states.specs.Stores.{global_sorts}
use Rattle.civl_states.specs.Formulas.{sorts_of}
use Rattle.civl_states.proofs.Limits.{AreSorts, global_sorts_are}
use Rattle.civl_states.proofs.Variables.{start_sorts}
use Rattle.civl_states.proofs.Formulas.{formula_of}
use Rattle.civl_movers.proofs.interfere.Starting.{all_sorts, all_stand, sorts_few, all_store, start_is, start_weighs}
use Rattle.civl_movers.proofs.interfere.starts.start_fails.Goals as goal

pub store-requires-clause-stand : goal.store-requires-clause-stand
store-requires-clause-stand c = all_stand c.args.program.now c.args.sorts.now (c.requires.sorts ∙ start_sorts c.args.program.now c.args.step c.args.place)

pub store-requires-clause-small : goal.store-requires-clause-small
store-requires-clause-small c =
    let p = c.args.program.now in
    subst (λ (ss : List Sort). length ss < 2 ^ 32) (sym (c.requires.sorts ∙ start_sorts p c.args.step c.args.place)) (sorts_few p c.requires.rules)

pub store-requires-clause-limits : goal.store-requires-clause-limits
store-requires-clause-limits c =
    let p = c.args.program.now in
    subst AreSorts (sym (c.requires.sorts ∙ start_sorts p c.args.step c.args.place)) (global_sorts_are p c.requires.rules)

pub returns-in_err-id-clause-lengthens : goal.returns-in_err-id-clause-lengthens
returns-in_err-id-clause-lengthens c = lengthens_trans _ _ _ c.in_ok-globals.ensures.lengthens (lengthened _ _ c.in_err-id.ensures.grows)

pub returns-clause-lengthens : goal.returns-clause-lengthens
returns-clause-lengthens c = lengthens_trans _ _ _ c.in_ok-globals.ensures.lengthens (lengthened _ _ c.in_ok-id.ensures.grows)

pub returns-clause-says : goal.returns-clause-says
returns-clause-says c =
    let p = c.args.program.now in
    let k = c.args.step in
    let i = c.args.place in
    let n1 = c.store.new.terms in
    let n2 = c.start_at.new.terms in
    let sorts = sorts_of p (Start k i) in
    let same = start_sorts p k i in
    formula_of n2 c.in_ok-id.id sorts (violated p (Start k i))
    (variables_kept n1 n2 sorts c.in_ok-id.ensures.grows (subst (AreVariablesOf n1) c.requires.sorts c.in_ok-globals.ensures.variables))
    (test_as n2 c.in_ok-id.id _ _
    (λ env. ap (λ (g : Store). start_fails p k i g) (all_store p env) ∙ start_is p k i (given env 0 (length (global_sorts p))) ∙ ap (λ (ss : List Sort). violated p (Start k i) (given env 0 (length ss))) (sym same))
    (c.in_ok-id.ensures.tells _ c.in_ok-globals.ensures.store))

pub returns-clause-weighs : goal.returns-clause-weighs
returns-clause-weighs c =
    let p = c.args.program.now in
    omega (arith, c.in_ok-globals.ensures.weighs, c.in_ok-id.ensures.weighs, ap bits_of_sorts (all_sorts p), start_weighs p c.args.step c.args.place)
