use Rattle.std.specs.Prelude.{◌<◌, ◌≤◌, ◌+◌, ◌*◌, ℕ, length, slice_get, List}
use Rattle.std.proofs.Common.{◌≡◌, ◌∙◌, ◌++◌, Some, refl, sym, ap, subst, arith}
use Rattle.civl_tree.specs.declared.expr.Sort.{Sort}
use Rattle.civl_tree.specs.declared.program.Program.{Program}
use Rattle.civl_tree.proofs.Lists.{get_there}
use Rattle.civl_terms.proofs.Growing.{lengthens_trans, lengthened}
use Rattle.civl_conditions.specs.declared.condition.Condition.TheVariants.{Act}
use Rattle.civl_conditions.specs.declared.condition.Target.TheVariants as target
use Rattle.civl_conditions.specs.paths.Seen.{exists_near}
use Rattle.civl_conditions.specs.Targets.{Other, act_fails}
use Rattle.civl_conditions.specs.Values.{store_of, instance_count}
use Rattle.civl_conditions.specs.Violated.{violated}
use Rattle.civl_conditions.specs.Weights.{lin, linear_globals, linear_inputs, weights_of, global_weight}
use Rattle.civl_conditions.specs.Steps.{step_invariants}
use Rattle.civl_firing.specs.values.ActionWeights.{action_weight}
use Rattle.civl_terms.specs.Weights.{graph_weight}
use Rattle.civl_states.specs.formula_parts.Said.{Env}
use Rattle.civl_states.specs.formula_parts.Given.{given, bits_of_sorts, AreVariablesOf}
use Rattle.civl_states.proofs.formula_parts.Giving.{variables_kept}
use Rattle.civl_states.proofs.formula_parts.Saying.{test_as}
use Rattle.civl_states.proofs.formula_parts.Listing.{sorts_after, said_after}
use Rattle.civl_states.specs.declared.stores.Existing.TheVariants.{Near}
use Rattle.civl_states.specs.Existing.{existing_sorts}
use Rattle.civl_states.specs.Runs.{instance_sorts, IsInvoked}
use Rattle.civl_states.specs.Formulas.{sorts_of, IsViolation}
use Rattle.civl_states.proofs.Variables.{existing_few}
use Rattle.civl_states.proofs.Formulas.{formula_of}
use Rattle.civl_states.proofs.Weighing.{gate_weighs, guard_weighs}
use Rattle.civl_states.specs.Groups.{StandFrom}
use Rattle.civl_refine.specs.inner.steadiness.Kept.{IsTarget, CanKeep, other_at, words_count, kept_weight}
use Rattle.civl_refine.specs.inner.steadiness.Making.{others_from}
use Rattle.civl_refine.proofs.steadiness.Aiming.{frame_after, other_after, weight_same, items_same}
use Rattle.civl_refine.proofs.steadiness.Ending.{act_is}
use Rattle.civl_refine.proofs.steadiness.Arranged.{near_count_of, rules_of, acts_are, acts_weigh, act_ends, act_front, act_tail, act_limits, act_from, act_long, act_bits, yield_some}
use Rattle.civl_refine.proofs.steadiness.violations.act_fails.Goals as goal

pub kept_of-requires-clause-end : goal.kept_of-requires-clause-end
kept_of-requires-clause-end c =
    let p = c.args.src.now in
    let y = target.Yield c.args.number c.args.place in
    let t = get_there p.actions c.args.action c.requires.action in
    record { front = existing_sorts (Near c.args.step) p ++ instance_sorts t.0; is = act_ends p c.args.step c.args.action y t.0 t.1 (rules_of c.program-program.result.now p c.program-program.ensures.keeps c.program-program.ensures.same) c.args.sorts.now c.requires.sorts }

pub kept_of-requires-clause-limits : goal.kept_of-requires-clause-limits
kept_of-requires-clause-limits c =
    let p = c.args.src.now in
    let y = target.Yield c.args.number c.args.place in
    let t = get_there p.actions c.args.action c.requires.action in
    act_limits p c.args.step c.args.action y t.0 t.1 (rules_of c.program-program.result.now p c.program-program.ensures.keeps c.program-program.ensures.same) c.args.sorts.now c.requires.sorts c.requires.there

pub store-requires-clause-stand : goal.store-requires-clause-stand
store-requires-clause-stand c =
    let p = c.args.src.now in
    let y = target.Yield c.args.number c.args.place in
    let t = get_there p.actions c.args.action c.requires.action in
    subst (λ (o : Program). StandFrom c.args.sorts.now 0 (existing_sorts (Near c.args.step) o)) (sym c.program-program.ensures.same)
    (act_front p c.args.step c.args.action y t.0 t.1 (rules_of c.program-program.result.now p c.program-program.ensures.keeps c.program-program.ensures.same) c.args.sorts.now c.requires.sorts)

pub store-requires-clause-limits : goal.store-requires-clause-limits
store-requires-clause-limits c =
    let p = c.args.src.now in
    let y = target.Yield c.args.number c.args.place in
    let t = get_there p.actions c.args.action c.requires.action in
    act_limits p c.args.step c.args.action y t.0 t.1 (rules_of c.program-program.result.now p c.program-program.ensures.keeps c.program-program.ensures.same) c.args.sorts.now c.requires.sorts c.requires.there

pub overflow_cast-first : goal.overflow_cast-first
overflow_cast-first c = omega (arith, c.existing_count-first.ensures, existing_few c.program-program.result.now c.program-program.ensures.keeps.rules (Near c.args.step))

pub invocation-requires-clause-stand : goal.invocation-requires-clause-stand
invocation-requires-clause-stand c = λ a at.
    let p = c.args.src.now in
    let y = target.Yield c.args.number c.args.place in
    let there = subst (λ (o : Program). slice_get o.actions c.args.action ≡ Some a) c.program-program.ensures.same at in
    let first = c.existing_count-first.ensures ∙ ap (λ (o : Program). near_count_of o c.args.step) c.program-program.ensures.same in
    act_tail p c.args.step c.args.action y a there (rules_of c.program-program.result.now p c.program-program.ensures.keeps c.program-program.ensures.same) c.args.sorts.now c.requires.sorts c.existing_count-first.result first

pub invocation-requires-clause-limits : goal.invocation-requires-clause-limits
invocation-requires-clause-limits c =
    let p = c.args.src.now in
    let y = target.Yield c.args.number c.args.place in
    let t = get_there p.actions c.args.action c.requires.action in
    act_limits p c.args.step c.args.action y t.0 t.1 (rules_of c.program-program.result.now p c.program-program.ensures.keeps c.program-program.ensures.same) c.args.sorts.now c.requires.sorts c.requires.there

pub returns-in_err-globals-clause-lengthens : goal.returns-in_err-globals-clause-lengthens
returns-in_err-globals-clause-lengthens c = lengthens_trans _ _ _ c.in_ok-kept.ensures.lengthens c.in_err-globals.ensures.lengthens

pub returns-in_err-x-clause-lengthens : goal.returns-in_err-x-clause-lengthens
returns-in_err-x-clause-lengthens c = lengthens_trans _ _ _ c.in_ok-kept.ensures.lengthens (lengthens_trans _ _ _ c.in_ok-globals.ensures.lengthens c.in_err-x.ensures.lengthens)

pub act_loses-requires-clause-globals : goal.act_loses-requires-clause-globals
act_loses-requires-clause-globals c = sorts_after _ _ _ _ c.in_ok-x.ensures.lengthens c.in_ok-globals.ensures.store.sorted

pub act_loses-requires-clause-kept : goal.act_loses-requires-clause-kept
act_loses-requires-clause-kept c =
    subst (λ (o : Program). CanKeep c.invocation.new.terms o c.in_ok-kept.kept) (sym c.program-program.ensures.same)
    (frame_after _ _ c.args.src.now c.in_ok-kept.kept (lengthens_trans _ _ _ c.in_ok-globals.ensures.lengthens c.in_ok-x.ensures.lengthens) c.in_ok-kept.ensures.can)

pub returns-in_err-id-clause-lengthens : goal.returns-in_err-id-clause-lengthens
returns-in_err-id-clause-lengthens c =
    lengthens_trans _ _ _ c.in_ok-kept.ensures.lengthens (lengthens_trans _ _ _ c.in_ok-globals.ensures.lengthens (lengthens_trans _ _ _ c.in_ok-x.ensures.lengthens (lengthened _ _ c.in_err-id.ensures.grows)))

pub returns-clause-lengthens : goal.returns-clause-lengthens
returns-clause-lengthens c =
    lengthens_trans _ _ _ c.in_ok-kept.ensures.lengthens (lengthens_trans _ _ _ c.in_ok-globals.ensures.lengthens (lengthens_trans _ _ _ c.in_ok-x.ensures.lengthens (lengthened _ _ c.in_ok-id.ensures.grows)))

pub returns-clause-says : goal.returns-clause-says
returns-clause-says c =
    let p = c.program-program.result.now in
    let same = c.program-program.ensures.same in
    let keeps = c.program-program.ensures.keeps.rules in
    let k = c.args.step in
    let x = c.args.action in
    let y = target.Yield c.args.number c.args.place in
    let kept = c.in_ok-kept.kept in
    let n2 = c.store.new.terms in
    let n3 = c.invocation.new.terms in
    let n4 = c.act_loses.new.terms in
    let is = subst (λ (o : Program). IsTarget o y kept) (sym same) c.in_ok-kept.ensures.is in
    let t = get_there p.actions x (subst (λ (o : Program). x < length o.actions) (sym same) c.requires.action) in
    let a = t.0 in
    let sorts = sorts_of p (Act k x y) in
    let wanted : c.args.sorts.now ≡ sorts = c.requires.sorts ∙ ap (λ (o : Program). sorts_of o (Act k x y)) (sym same) in
    let n = length sorts in
    let from : others_from c.args.sorts.now c.args.src.now y ≡ near_count_of p k + instance_count a = ap (λ (o : Program). others_from c.args.sorts.now o y) (sym same) ∙ act_from p k x y a t.1 keeps c.args.sorts.now wanted in
    let o : Env → Other = λ env. other_at kept (given env 0 n) (others_from c.args.sorts.now c.args.src.now y) in
    let globals = said_after n2 n3 _ _ _ c.in_ok-x.ensures.lengthens c.in_ok-globals.ensures.store in
    let called = subst (λ (m : ℕ). IsInvoked n3 p c.in_ok-x.x a (λ env. given env m (length a.params)) (λ env. given env (m + length a.params) (length a.choices))) c.existing_count-first.ensures (c.in_ok-x.ensures.invoked a t.1) in
    let says = other_after _ n3 kept o (lengthens_trans _ _ _ c.in_ok-globals.ensures.lengthens c.in_ok-x.ensures.lengthens) (c.in_ok-kept.ensures.says n (omega (arith, ap (λ (ss : List Sort). length ss) wanted))) in
    subst (λ (q : Program). IsViolation n4 c.in_ok-id.id q (Act k x y)) same
    (formula_of n4 c.in_ok-id.id sorts (violated p (Act k x y))
    (variables_kept n3 n4 sorts c.in_ok-id.ensures.grows (subst (AreVariablesOf n3) wanted c.in_ok-x.ensures.variables))
    (test_as n4 c.in_ok-id.id _ _
    (λ env.
    act_is p k y kept is (given env 0 n) (others_from c.args.sorts.now c.args.src.now y) (store_of (exists_near k) p (given env 0 (near_count_of p k))) (record { action = a; inputs = given env (near_count_of p k) (length a.params); chosen = given env (near_count_of p k + length a.params) (length a.choices) })
    ∙ ap (λ (m : ℕ). act_fails p k (store_of (exists_near k) p (given env 0 (near_count_of p k))) (record { action = a; inputs = given env (near_count_of p k) (length a.params); chosen = given env (near_count_of p k + length a.params) (length a.choices) }) y (given env 0 n) m) from
    ∙ acts_are p k x y a t.1 env n (act_long p k x y a t.1 keeps sorts refl))
    (c.in_ok-id.ensures.tells a _ _ _ o globals called says)))

pub returns-clause-weighs : goal.returns-clause-weighs
returns-clause-weighs c =
    let p = c.program-program.result.now in
    let q = c.args.src.now in
    let same = c.program-program.ensures.same in
    let keeps = rules_of p q c.program-program.ensures.keeps same in
    let k = c.args.step in
    let x = c.args.action in
    let y = target.Yield c.args.number c.args.place in
    let kept = c.in_ok-kept.kept in
    let is = c.in_ok-kept.ensures.is in
    let t = get_there q.actions x c.requires.action in
    let a = t.0 in
    let here = subst (λ (o : Program). slice_get o.actions x ≡ Some a) (sym same) t.1 in
    let at = subst (λ (m : ℕ). slice_get p.actions m ≡ Some a) (sym c.in_ok-x.ensures.is) here in
    let n1 = c.kept_of.new.terms in
    let n2 = c.store.new.terms in
    let n3 = c.invocation.new.terms in
    let n4 = c.act_loses.new.terms in
    let globals = subst (λ (o : Program). graph_weight n2 ≤ graph_weight n1 + bits_of_sorts (existing_sorts (Near k) o)) same c.in_ok-globals.ensures.weighs in
    let act = subst (λ (o : Program). graph_weight n4 ≤ graph_weight n3 + action_weight o a + 2 * weights_of (global_weight o) (step_invariants o k) + 4 * lin o (linear_globals o + linear_inputs a.params + words_count kept) + 2 * kept_weight o k kept + 7) same (c.in_ok-id.ensures.weighs a at) in
    omega (
      arith,
      c.in_ok-kept.ensures.weighs,
      globals,
      c.in_ok-x.ensures.weighs a here,
      act,
      weight_same q k y kept is,
      ap (λ (n : ℕ). lin q (linear_globals q + linear_inputs a.params + n)) (items_same q y kept is),
      yield_some q k c.args.number c.args.place kept is,
      acts_weigh q k x y a t.1,
      act_bits q k x y a t.1 keeps c.args.sorts.now c.requires.sorts,
      ap bits_of_sorts c.requires.sorts,
      gate_weighs q a,
      guard_weighs q a,
    )
