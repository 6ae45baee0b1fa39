use Rattle.std.specs.Prelude.{◌-◌, length}
use Rattle.std.proofs.Common.{◌∙◌, refl, sym, ap, subst, arith}
use Rattle.std.proofs.lemmas.List.{length-map}
use Rattle.civl_tree.proofs.Lists.{get_there}
use Rattle.civl_terms.proofs.Growing.{lengthens_trans, lengthened}
use Rattle.civl_conditions.specs.declared.condition.Condition.TheVariants.{Fire}
use Rattle.civl_conditions.specs.Violated.{violated}
use Rattle.civl_states.specs.formula_parts.Given.{bits_of_sorts, AreVariablesOf}
use Rattle.civl_states.proofs.formula_parts.Giving.{bits-append, variables_kept}
use Rattle.civl_states.proofs.formula_parts.Saying.{test_as}
use Rattle.civl_states.specs.declared.stores.Existing.TheVariants.{Layer}
use Rattle.civl_states.specs.Existing.{existing_sorts}
use Rattle.civl_states.specs.Runs.{param_sorts}
use Rattle.civl_states.specs.Formulas.{sorts_of}
use Rattle.civl_states.proofs.Given.{stand_counted}
use Rattle.civl_states.proofs.Limits.{action_few}
use Rattle.civl_states.proofs.Variables.{fire_sorts}
use Rattle.civl_states.proofs.Formulas.{formula_of}
use Rattle.civl_states.proofs.Weighing.{gate_weighs, guard_weighs}
use Rattle.civl_movers.specs.Settings.{lower_count}
use Rattle.civl_movers.proofs.Arranging.{fire_is, fire_weighs}
use Rattle.civl_movers.proofs.Pairing.{lower_after, params_said, fire_front, fire_tail, fire_small, fire_limits, fire_long}
use Rattle.civl_movers.proofs.violations.fire_fails.Goals as goal

pub store-requires-clause-stand : goal.store-requires-clause-stand
store-requires-clause-stand c =
    let p = c.args.program.now in
    let t = get_there p.actions c.args.action c.requires.action in
    fire_front p c.requires.rules c.args.sorts.now c.args.step c.args.action t.0 t.1 c.requires.sorts c.lower.result c.lower.ensures

pub store-requires-clause-small : goal.store-requires-clause-small
store-requires-clause-small c =
    let p = c.args.program.now in
    let t = get_there p.actions c.args.action c.requires.action in
    fire_small p c.requires.rules c.args.sorts.now c.args.step c.args.action t.0 t.1 c.requires.sorts

pub store-requires-clause-limits : goal.store-requires-clause-limits
store-requires-clause-limits c =
    let p = c.args.program.now in
    let t = get_there p.actions c.args.action c.requires.action in
    fire_limits p c.requires.rules c.args.sorts.now c.args.step c.args.action t.0 t.1 c.requires.sorts

pub overflow_cast-count : goal.overflow_cast-count
overflow_cast-count c = omega (arith, c.len-count.ensures, action_few c.args.program.now c.requires.rules c.args.action c.get.result.now c.get.ensures)

pub variables-requires-clause-within : goal.variables-requires-clause-within
variables-requires-clause-within c =
    let p = c.args.program.now in
    let long = fire_long p c.requires.rules c.args.sorts.now c.args.step c.args.action c.get.result.now c.get.ensures c.requires.sorts in
    omega (arith, c.len-count.ensures, c.count_lower-first.ensures, long)

pub variables-requires-clause-small : goal.variables-requires-clause-small
variables-requires-clause-small c =
    let p = c.args.program.now in
    let long = fire_long p c.requires.rules c.args.sorts.now c.args.step c.args.action c.get.result.now c.get.ensures c.requires.sorts in
    omega (arith, c.len-count.ensures, c.count_lower-first.ensures, long, fire_small p c.requires.rules c.args.sorts.now c.args.step c.args.action c.get.result.now c.get.ensures c.requires.sorts)

pub variables-requires-clause-limits : goal.variables-requires-clause-limits
variables-requires-clause-limits c =
    fire_limits c.args.program.now c.requires.rules c.args.sorts.now c.args.step c.args.action c.get.result.now c.get.ensures c.requires.sorts

pub returns-in_err-inputs-clause-lengthens : goal.returns-in_err-inputs-clause-lengthens
returns-in_err-inputs-clause-lengthens c = lengthens_trans _ _ _ c.in_ok-globals.ensures.lengthens c.in_err-inputs.ensures.lengthens

pub waits-requires-clause-globals : goal.waits-requires-clause-globals
waits-requires-clause-globals c =
    (lower_after c.store.new.terms c.variables.new.terms c.args.program.now c.args.step c.lower.result c.in_ok-globals.globals c.lower.ensures c.in_ok-inputs.ensures.lengthens c.in_ok-globals.ensures.store).sorted

pub waits-requires-clause-inputs : goal.waits-requires-clause-inputs
waits-requires-clause-inputs c =
    let p = c.args.program.now in
    let a = c.get.result.now in
    let s = c.args.sorts.now in
    record {
      action = a;
      is = c.get.ensures;
      sorted = (params_said c.variables.new.terms s a c.in_ok-inputs.inputs c.count_lower-first.result c.len-count.result (lower_count p c.args.step) c.count_lower-first.ensures c.len-count.ensures
          (fire_tail p c.requires.rules s c.args.step c.args.action a c.get.ensures c.requires.sorts (lower_count p c.args.step) refl) c.in_ok-inputs.ensures.said).sorted;
    }

pub returns-in_err-id-clause-lengthens : goal.returns-in_err-id-clause-lengthens
returns-in_err-id-clause-lengthens c = lengthens_trans _ _ _ c.in_ok-globals.ensures.lengthens (lengthens_trans _ _ _ c.in_ok-inputs.ensures.lengthens (lengthened _ _ c.in_err-id.ensures.grows))

pub returns-clause-lengthens : goal.returns-clause-lengthens
returns-clause-lengthens c = lengthens_trans _ _ _ c.in_ok-globals.ensures.lengthens (lengthens_trans _ _ _ c.in_ok-inputs.ensures.lengthens (lengthened _ _ c.in_ok-id.ensures.grows))

pub returns-clause-says : goal.returns-clause-says
returns-clause-says c =
    let p = c.args.program.now in
    let k = c.args.step in
    let s = c.args.sorts.now in
    let n2 = c.variables.new.terms in
    let n3 = c.waits.new.terms in
    let a = c.get.result.now in
    let sorts = sorts_of p (Fire k c.args.action) in
    let long = fire_long p c.requires.rules sorts k c.args.action a c.get.ensures refl in
    let globals = lower_after c.store.new.terms n2 p k c.lower.result c.in_ok-globals.globals c.lower.ensures c.in_ok-inputs.ensures.lengthens c.in_ok-globals.ensures.store in
    let inputs = params_said n2 s a c.in_ok-inputs.inputs c.count_lower-first.result c.len-count.result (lower_count p k) c.count_lower-first.ensures c.len-count.ensures
    (fire_tail p c.requires.rules s k c.args.action a c.get.ensures c.requires.sorts (lower_count p k) refl) c.in_ok-inputs.ensures.said in
    formula_of n3 c.in_ok-id.id sorts (violated p (Fire k c.args.action))
    (variables_kept n2 n3 sorts c.in_ok-id.ensures.grows (subst (AreVariablesOf n2) c.requires.sorts c.in_ok-inputs.ensures.variables))
    (test_as n3 c.in_ok-id.id _ _ (λ env. fire_is p k c.args.action a c.get.ensures env (length sorts) (omega (arith, long)))
    (c.in_ok-id.ensures.tells a _ _ globals c.get.ensures inputs))

pub returns-clause-weighs : goal.returns-clause-weighs
returns-clause-weighs c =
    let p = c.args.program.now in
    let k = c.args.step in
    let s = c.args.sorts.now in
    let a = c.get.result.now in
    let group = stand_counted s c.count_lower-first.result (param_sorts a) c.len-count.result (length-map a.params (λ q. q.sort) ∙ sym c.len-count.ensures)
    (fire_tail p c.requires.rules s k c.args.action a c.get.ensures c.requires.sorts c.count_lower-first.result c.count_lower-first.ensures) in
    omega (
      arith,
      c.in_ok-globals.ensures.weighs,
      ap (λ w. bits_of_sorts (existing_sorts w p)) c.lower.ensures,
      c.in_ok-inputs.ensures.weighs,
      ap bits_of_sorts group,
      c.in_ok-id.ensures.weighs a c.get.ensures,
      fire_weighs p k c.args.action a c.get.ensures,
      ap bits_of_sorts (fire_sorts p k c.args.action a c.get.ensures),
      bits-append (existing_sorts (Layer (k - 1)) p) (param_sorts a),
      gate_weighs p a,
      guard_weighs p a,
    )
