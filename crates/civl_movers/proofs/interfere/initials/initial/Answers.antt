use Rattle.std.specs.Prelude.{◌+◌, ◌*◌, ◌≤◌}
use Rattle.std.proofs.Common.{◌∙◌, sym, ap, subst, arith}
use Rattle.civl_tree.specs.declared.program.Program.{Program}
use Rattle.civl_tree.specs.rules.Scopes.{global_scope}
use Rattle.civl_firing.specs.declared.store.Store.{Store}
use Rattle.civl_terms.specs.Weights.{graph_weight}
use Rattle.civl_terms.proofs.Growing.{lengthens_trans, lengthened}
use Rattle.civl_conditions.specs.Invariants.{meets_init}
use Rattle.civl_conditions.specs.Weights.{initial_weight}
use Rattle.civl_states.specs.formula_parts.Given.{bits_of_sorts, AreVariablesOf}
use Rattle.civl_states.proofs.formula_parts.Giving.{variables_kept}
use Rattle.civl_states.proofs.formula_parts.Saying.{test_as}
use Rattle.civl_states.specs.Stores.{global_sorts}
use Rattle.civl_states.specs.Formulas.{IsFormula}
use Rattle.civl_states.proofs.Limits.{AreSorts, global_sorts_are}
use Rattle.civl_states.proofs.Formulas.{formula_of}
use Rattle.civl_states.proofs.Weighing.{weighs_some}
use Rattle.civl_movers.proofs.interfere.Starting.{all_sorts, all_stand, all_store, all_bits}
use Rattle.civl_movers.proofs.interfere.initials.initial.Goals as goal

pub store-requires-clause-stand : goal.store-requires-clause-stand
store-requires-clause-stand c = all_stand c.program-program.result.now c.as_slice.result.now (c.as_slice.ensures.value ∙ c.in_ok-sorts.ensures)

pub store-requires-clause-limits : goal.store-requires-clause-limits
store-requires-clause-limits c =
    subst AreSorts (sym (c.as_slice.ensures.value ∙ c.in_ok-sorts.ensures)) (global_sorts_are c.program-program.result.now c.program-program.ensures.keeps.rules)

pub returns-in_err-id-clause-lengthens : goal.returns-in_err-id-clause-lengthens
returns-in_err-id-clause-lengthens c = lengthens_trans _ _ _ c.in_ok-globals.ensures.lengthens (lengthened _ _ c.in_err-id.ensures.grows)

pub returns-clause-lengthens : goal.returns-clause-lengthens
returns-clause-lengthens c = lengthens_trans _ _ _ c.in_ok-globals.ensures.lengthens (lengthened _ _ c.in_ok-id.ensures.grows)

pub returns-clause-says : goal.returns-clause-says
returns-clause-says c =
    let p = c.program-program.result.now in
    let n1 = c.store.new.terms in
    let n2 = c.initial_at.new.terms in
    let sorts = c.as_slice.ensures.value ∙ c.in_ok-sorts.ensures in
    subst (λ (q : Program). IsFormula n2 c.in_ok-id.id (global_sorts q) (λ values. meets_init q (record { values = values }))) c.program-program.ensures.same
    (formula_of n2 c.in_ok-id.id (global_sorts p) (λ values. meets_init p (record { values = values }))
    (variables_kept n1 n2 (global_sorts p) c.in_ok-id.ensures.grows (subst (AreVariablesOf n1) sorts c.in_ok-globals.ensures.variables))
    (test_as n2 c.in_ok-id.id _ _ (λ env. ap (λ (g : Store). meets_init p g) (all_store p env)) (c.in_ok-id.ensures.tells _ c.in_ok-globals.ensures.store)))

pub returns-clause-weighs : goal.returns-clause-weighs
unfolding initial_weight
returns-clause-weighs c =
    let p = c.program-program.result.now in
    subst (λ (q : Program). graph_weight c.initial_at.new.terms ≤ graph_weight c.args.terms.now + 4 * initial_weight q) c.program-program.ensures.same
    (omega (arith, c.in_ok-globals.ensures.weighs, c.in_ok-id.ensures.weighs, ap bits_of_sorts (all_sorts p), all_bits p, weighs_some (global_scope p) p.init))
