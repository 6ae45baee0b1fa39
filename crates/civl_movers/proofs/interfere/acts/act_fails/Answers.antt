use Rattle.std.specs.Prelude.{◌+◌, ℕ, length, slice_get}
use Rattle.std.proofs.Common.{◌≡◌, Some, refl, sym, ap, subst, arith}
use Rattle.civl_tree.proofs.Lists.{get_there}
use Rattle.civl_terms.proofs.Growing.{lengthens_trans, lengthened}
use Rattle.civl_conditions.specs.declared.condition.Condition.TheVariants.{Act}
use Rattle.civl_conditions.specs.declared.condition.Target.TheVariants as target
use Rattle.civl_conditions.specs.Violated.{violated}
use Rattle.civl_states.specs.formula_parts.Given.{given, bits_of_sorts, AreVariablesOf}
use Rattle.civl_states.proofs.formula_parts.Giving.{bits-append, variables_kept}
use Rattle.civl_states.proofs.formula_parts.Saying.{test_as}
use Rattle.civl_states.proofs.formula_parts.Listing.{sorts_after, said_after}
use Rattle.civl_states.specs.declared.stores.Existing.TheVariants.{Near}
use Rattle.civl_states.specs.Existing.{existing_sorts}
use Rattle.civl_states.specs.Runs.{instance_sorts, IsInvoked}
use Rattle.civl_states.specs.Formulas.{sorts_of}
use Rattle.civl_states.proofs.Variables.{existing_few}
use Rattle.civl_states.proofs.Formulas.{formula_of}
use Rattle.civl_states.proofs.Weighing.{gate_weighs, guard_weighs}
use Rattle.civl_movers.proofs.interfere.Telling.{acts_are, acts_weigh, act_front, act_tail, act_small, act_limits, act_long, act_view}
use Rattle.civl_movers.proofs.interfere.acts.act_fails.Goals as goal

pub store-requires-clause-stand : goal.store-requires-clause-stand
store-requires-clause-stand c =
    let p = c.args.program.now in
    let t = get_there p.actions c.args.action c.requires.action in
    act_front p c.args.step c.args.action c.args.place t.0 t.1 c.requires.rules c.args.sorts.now c.requires.sorts

pub store-requires-clause-small : goal.store-requires-clause-small
store-requires-clause-small c =
    let p = c.args.program.now in
    let t = get_there p.actions c.args.action c.requires.action in
    act_small p c.args.step c.args.action c.args.place t.0 t.1 c.requires.rules c.args.sorts.now c.requires.sorts

pub store-requires-clause-limits : goal.store-requires-clause-limits
store-requires-clause-limits c =
    let p = c.args.program.now in
    let t = get_there p.actions c.args.action c.requires.action in
    act_limits p c.args.step c.args.action c.args.place t.0 t.1 c.requires.rules c.args.sorts.now c.requires.sorts

pub overflow_cast-first : goal.overflow_cast-first
overflow_cast-first c = omega (arith, c.existing_count-first.ensures, existing_few c.args.program.now c.requires.rules (Near c.args.step))

pub invocation-requires-clause-stand : goal.invocation-requires-clause-stand
invocation-requires-clause-stand c = λ a at.
    act_tail c.args.program.now c.args.step c.args.action c.args.place a at c.requires.rules c.args.sorts.now c.requires.sorts c.existing_count-first.result c.existing_count-first.ensures

pub invocation-requires-clause-small : goal.invocation-requires-clause-small
invocation-requires-clause-small c =
    let p = c.args.program.now in
    let t = get_there p.actions c.args.action c.requires.action in
    act_small p c.args.step c.args.action c.args.place t.0 t.1 c.requires.rules c.args.sorts.now c.requires.sorts

pub invocation-requires-clause-limits : goal.invocation-requires-clause-limits
invocation-requires-clause-limits c =
    let p = c.args.program.now in
    let t = get_there p.actions c.args.action c.requires.action in
    act_limits p c.args.step c.args.action c.args.place t.0 t.1 c.requires.rules c.args.sorts.now c.requires.sorts

pub act_at-requires-clause-globals : goal.act_at-requires-clause-globals
act_at-requires-clause-globals c = sorts_after _ _ _ _ c.in_ok-x.ensures.lengthens c.in_ok-globals.ensures.store.sorted

pub returns-in_err-x-clause-lengthens : goal.returns-in_err-x-clause-lengthens
returns-in_err-x-clause-lengthens c = lengthens_trans _ _ _ c.in_ok-globals.ensures.lengthens c.in_err-x.ensures.lengthens

pub returns-in_err-id-clause-lengthens : goal.returns-in_err-id-clause-lengthens
returns-in_err-id-clause-lengthens c = lengthens_trans _ _ _ c.in_ok-globals.ensures.lengthens (lengthens_trans _ _ _ c.in_ok-x.ensures.lengthens (lengthened _ _ c.in_err-id.ensures.grows))

pub returns-clause-lengthens : goal.returns-clause-lengthens
returns-clause-lengthens c = lengthens_trans _ _ _ c.in_ok-globals.ensures.lengthens (lengthens_trans _ _ _ c.in_ok-x.ensures.lengthens (lengthened _ _ c.in_ok-id.ensures.grows))

pub returns-clause-says : goal.returns-clause-says
returns-clause-says c =
    let p = c.args.program.now in
    let k = c.args.step in
    let i = c.args.place in
    let n1 = c.store.new.terms in
    let n2 = c.invocation.new.terms in
    let n3 = c.act_at.new.terms in
    let t = get_there p.actions c.args.action c.requires.action in
    let a = t.0 in
    let sorts = sorts_of p (Act k c.args.action (target.Invariant i)) in
    let long = act_long p k c.args.action i a t.1 c.requires.rules sorts refl in
    let globals = said_after n1 n2 _ _ _ c.in_ok-x.ensures.lengthens c.in_ok-globals.ensures.store in
    let x = subst (λ (n : ℕ). IsInvoked n2 p c.in_ok-x.x a (λ env. given env n (length a.params)) (λ env. given env (n + length a.params) (length a.choices))) c.existing_count-first.ensures (c.in_ok-x.ensures.invoked a t.1) in
    formula_of n3 c.in_ok-id.id sorts (violated p (Act k c.args.action (target.Invariant i)))
    (variables_kept n2 n3 sorts c.in_ok-id.ensures.grows (subst (AreVariablesOf n2) c.requires.sorts c.in_ok-x.ensures.variables))
    (test_as n3 c.in_ok-id.id _ _ (λ env. acts_are p k c.args.action i a t.1 env (length sorts) (omega (arith, long)))
    (c.in_ok-id.ensures.tells a _ _ _ globals x))

pub returns-clause-weighs : goal.returns-clause-weighs
returns-clause-weighs c =
    let p = c.args.program.now in
    let k = c.args.step in
    let i = c.args.place in
    let t = get_there p.actions c.args.action c.requires.action in
    let a = t.0 in
    let at = subst (λ n. slice_get p.actions n ≡ Some a) (sym c.in_ok-x.ensures.is) t.1 in
    omega (
      arith,
      c.in_ok-globals.ensures.weighs,
      c.in_ok-x.ensures.weighs a t.1,
      c.in_ok-id.ensures.weighs a at,
      acts_weigh p k c.args.action i a t.1,
      ap bits_of_sorts (act_view p k c.args.action i a t.1 c.requires.rules (sorts_of p (Act k c.args.action (target.Invariant i))) refl),
      bits-append (existing_sorts (Near k) p) (instance_sorts a),
      gate_weighs p a,
      guard_weighs p a,
    )
