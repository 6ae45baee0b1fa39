use Rattle.std.specs.Prelude.{◌+◌, ◌-◌, ◌*◌, ◌^◌, length, filter, slice_get}
use Rattle.std.proofs.Common.{◌≡◌, Some, refl, sym, ap, subst, arith}
use Rattle.civl_tree.proofs.Lists.{get_there}
use Rattle.civl_terms.proofs.Growing.{lengthens_same, lengthens_trans, lengthened}
use Rattle.civl_linear.specs.Modes.{is_lent, is_given}
use Rattle.civl_conditions.specs.declared.condition.Condition.TheVariants.{Keep}
use Rattle.civl_conditions.specs.Violated.{violated}
use Rattle.civl_conditions.specs.Weights.{lin, linear_globals}
use Rattle.civl_states.specs.formula_parts.Given.{bits_of_sorts, AreVariablesOf}
use Rattle.civl_states.proofs.formula_parts.Giving.{bits-append, variables_kept}
use Rattle.civl_states.proofs.formula_parts.Saying.{test_as}
use Rattle.civl_states.specs.declared.stores.Existing.TheVariants.{Layer}
use Rattle.civl_states.specs.Existing.{existing_sorts}
use Rattle.civl_states.specs.Runs.{instance_sorts}
use Rattle.civl_states.specs.Formulas.{sorts_of}
use Rattle.civl_states.proofs.Variables.{keep_sorts}
use Rattle.civl_states.proofs.Formulas.{formula_of}
use Rattle.civl_movers.specs.Items.{number_going}
use Rattle.civl_movers.specs.Settings.{lower_count}
use Rattle.civl_movers.proofs.Losing.{outs_given}
use Rattle.civl_movers.proofs.Arranging.{keep_is, keep_weighs, action_weighs}
use Rattle.civl_movers.proofs.Pairing.{lower_after, from_after, keep_front, keep_tail, keep_small, keep_limits, keep_long}
use Rattle.civl_movers.proofs.violations.keep_fails.Goals as goal

pub store-requires-clause-stand : goal.store-requires-clause-stand
store-requires-clause-stand c =
    let p = c.args.program.now in
    let t = get_there p.actions c.args.action c.requires.action in
    keep_front p c.requires.rules c.args.sorts.now c.args.step c.args.action t.0 t.1 c.requires.sorts c.lower.result c.lower.ensures

pub store-requires-clause-small : goal.store-requires-clause-small
store-requires-clause-small c =
    let p = c.args.program.now in
    let t = get_there p.actions c.args.action c.requires.action in
    keep_small p c.requires.rules c.args.sorts.now c.args.step c.args.action t.0 t.1 c.requires.sorts

pub store-requires-clause-limits : goal.store-requires-clause-limits
store-requires-clause-limits c =
    let p = c.args.program.now in
    let t = get_there p.actions c.args.action c.requires.action in
    keep_limits p c.requires.rules c.args.sorts.now c.args.step c.args.action t.0 t.1 c.requires.sorts

pub invocation-requires-clause-stand : goal.invocation-requires-clause-stand
invocation-requires-clause-stand c = λ a at.
    keep_tail c.args.program.now c.requires.rules c.args.sorts.now c.args.step c.args.action a at c.requires.sorts c.count_lower-first.result c.count_lower-first.ensures

pub invocation-requires-clause-small : goal.invocation-requires-clause-small
invocation-requires-clause-small c =
    let p = c.args.program.now in
    let t = get_there p.actions c.args.action c.requires.action in
    keep_small p c.requires.rules c.args.sorts.now c.args.step c.args.action t.0 t.1 c.requires.sorts

pub invocation-requires-clause-limits : goal.invocation-requires-clause-limits
invocation-requires-clause-limits c =
    let p = c.args.program.now in
    let t = get_there p.actions c.args.action c.requires.action in
    keep_limits p c.requires.rules c.args.sorts.now c.args.step c.args.action t.0 t.1 c.requires.sorts

pub loses-requires-clause-globals : goal.loses-requires-clause-globals
loses-requires-clause-globals c =
    (lower_after c.store.new.terms c.invocation.new.terms c.args.program.now c.args.step c.lower.result c.in_ok-globals.globals c.lower.ensures c.in_ok-x.ensures.lengthens c.in_ok-globals.ensures.store).sorted

pub returns-in_err-x-clause-lengthens : goal.returns-in_err-x-clause-lengthens
returns-in_err-x-clause-lengthens c = lengthens_trans _ _ _ c.in_ok-globals.ensures.lengthens c.in_err-x.ensures.lengthens

pub returns-in_err-id-clause-lengthens : goal.returns-in_err-id-clause-lengthens
returns-in_err-id-clause-lengthens c = lengthens_trans _ _ _ c.in_ok-globals.ensures.lengthens (lengthens_trans _ _ _ c.in_ok-x.ensures.lengthens (lengthened _ _ c.in_err-id.ensures.grows))

pub returns-clause-lengthens : goal.returns-clause-lengthens
returns-clause-lengthens c = lengthens_trans _ _ _ c.in_ok-globals.ensures.lengthens (lengthens_trans _ _ _ c.in_ok-x.ensures.lengthens (lengthened _ _ c.in_ok-id.ensures.grows))

pub returns-clause-says : goal.returns-clause-says
returns-clause-says c =
    let p = c.args.program.now in
    let k = c.args.step in
    let n2 = c.invocation.new.terms in
    let n3 = c.loses.new.terms in
    let t = get_there p.actions c.args.action c.requires.action in
    let a = t.0 in
    let sorts = sorts_of p (Keep k c.args.action) in
    let long = keep_long p c.requires.rules sorts k c.args.action a t.1 refl in
    let globals = lower_after c.store.new.terms n2 p k c.lower.result c.in_ok-globals.globals c.lower.ensures c.in_ok-x.ensures.lengthens c.in_ok-globals.ensures.store in
    let x = from_after n2 n2 p c.args.action c.count_lower-first.result (lower_count p k) c.in_ok-x.x c.count_lower-first.ensures (lengthens_same n2) c.in_ok-x.ensures.is c.in_ok-x.ensures.ready c.in_ok-x.ensures.invoked in
    formula_of n3 c.in_ok-id.id sorts (violated p (Keep k c.args.action))
    (variables_kept n2 n3 sorts c.in_ok-id.ensures.grows (subst (AreVariablesOf n2) c.requires.sorts c.in_ok-x.ensures.variables))
    (test_as n3 c.in_ok-id.id _ _ (λ env. keep_is p k c.args.action a t.1 env (length sorts) (omega (arith, long)))
    (c.in_ok-id.ensures.tells a _ _ _ globals (x.says a t.1)))

pub returns-clause-weighs : goal.returns-clause-weighs
returns-clause-weighs c = λ modes.
    let p = c.args.program.now in
    let k = c.args.step in
    let t = get_there p.actions c.args.action c.requires.action in
    let a = t.0 in
    let at = subst (λ n. slice_get p.actions n ≡ Some a) (sym c.in_ok-x.ensures.is) t.1 in
    let outs = outs_given a.outs (modes c.args.action a t.1) in
    let going = number_going p a in
    let same : going ≡ linear_globals p + length (filter (λ q. is_lent q.mode) a.params) + length (filter (λ q. is_given q.mode) a.outs) = omega (arith, outs) in
    omega (
      arith,
      c.in_ok-globals.ensures.weighs,
      ap (λ w. bits_of_sorts (existing_sorts w p)) c.lower.ensures,
      c.in_ok-x.ensures.weighs a t.1,
      c.in_ok-id.ensures.weighs a at,
      keep_weighs p k c.args.action a t.1,
      ap bits_of_sorts (keep_sorts p k c.args.action a t.1),
      bits-append (existing_sorts (Layer (k - 1)) p) (instance_sorts a),
      action_weighs p a,
      ap (lin p) same,
      ap (λ n. n * 2 ^ p.permissions) same,
    )
