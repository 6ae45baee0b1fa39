use Rattle.std.specs.Prelude.{◌-◌, length, slice_get}
use Rattle.std.proofs.Common.{◌≡◌, Some, refl, sym, ap, subst, arith}
use Rattle.civl_tree.proofs.Lists.{get_there}
use Rattle.civl_terms.proofs.Growing.{lengthens_trans, lengthened}
use Rattle.civl_conditions.specs.declared.condition.Condition.TheVariants.{Pair}
use Rattle.civl_conditions.specs.Violated.{violated}
use Rattle.civl_states.specs.formula_parts.Given.{bits_of_sorts, AreVariablesOf}
use Rattle.civl_states.proofs.formula_parts.Giving.{variables_kept}
use Rattle.civl_states.proofs.formula_parts.Saying.{test_as}
use Rattle.civl_states.specs.Runs.{out_sorts}
use Rattle.civl_states.specs.Same.{layer_sorts}
use Rattle.civl_states.specs.Formulas.{sorts_of}
use Rattle.civl_states.specs.declared.stores.Existing.TheVariants.{Layer}
use Rattle.civl_states.proofs.Limits.{out_sorts_are}
use Rattle.civl_states.proofs.Variables.{existing_are}
use Rattle.civl_states.proofs.Formulas.{formula_of}
use Rattle.civl_movers.proofs.Arranging.{pair_is, pair_weighs, action_weighs, same_bits, outs_same, globals_same}
use Rattle.civl_movers.proofs.Pairing.{pair_long}
use Rattle.civl_movers.proofs.violations.pair_fails.Goals as goal

pub pair_at-requires-clause-y : goal.pair_at-requires-clause-y
pair_at-requires-clause-y c =
    let t = get_there c.args.program.now.actions c.args.x c.requires.x in
    (c.in_ok-found.ensures.is.second t.0 t.1).ready

pub returns-in_err-id-clause-lengthens : goal.returns-in_err-id-clause-lengthens
returns-in_err-id-clause-lengthens c = lengthens_trans _ _ _ c.in_ok-found.ensures.lengthens (lengthened _ _ c.in_err-id.ensures.grows)

pub returns-clause-lengthens : goal.returns-clause-lengthens
returns-clause-lengthens c = lengthens_trans _ _ _ c.in_ok-found.ensures.lengthens (lengthened _ _ c.in_ok-id.ensures.grows)

pub returns-clause-says : goal.returns-clause-says
returns-clause-says c =
    let p = c.args.program.now in
    let k = c.args.step in
    let n1 = c.paired.new.terms in
    let n2 = c.pair_at.new.terms in
    let t = get_there p.actions c.args.x c.requires.x in
    let u = get_there p.actions c.args.y c.requires.y in
    let sorts = sorts_of p (Pair c.args.number k c.args.x c.args.y) in
    let long = pair_long p c.requires.rules sorts k c.args.x t.0 t.1 c.args.number c.args.y u.0 u.1 refl in
    let h = c.in_ok-found.ensures.is in
    let second = h.second t.0 t.1 in
    formula_of n2 c.in_ok-id.id sorts (violated p (Pair c.args.number k c.args.x c.args.y))
    (variables_kept n1 n2 sorts c.in_ok-id.ensures.grows (subst (AreVariablesOf n1) c.requires.sorts c.in_ok-found.ensures.variables))
    (test_as n2 c.in_ok-id.id _ _ (λ env. pair_is p k c.args.x t.0 t.1 env (length sorts) c.args.number c.args.y u.0 u.1 (omega (arith, long)))
    (c.in_ok-id.ensures.tells t.0 u.0 _ _ _ _ _ h.globals (h.first.says t.0 t.1) (second.says u.0 u.1)))

pub returns-clause-weighs : goal.returns-clause-weighs
returns-clause-weighs c =
    let p = c.args.program.now in
    let k = c.args.step in
    let t = get_there p.actions c.args.x c.requires.x in
    let u = get_there p.actions c.args.y c.requires.y in
    let h = c.in_ok-found.ensures.is in
    let second = h.second t.0 t.1 in
    let at = subst (λ n. slice_get p.actions n ≡ Some t.0) (sym h.first.is) t.1 in
    let bt = subst (λ n. slice_get p.actions n ≡ Some u.0) (sym second.is) u.1 in
    omega (
      arith,
      c.in_ok-found.ensures.weighs,
      ap bits_of_sorts c.requires.sorts,
      c.in_ok-id.ensures.weighs t.0 u.0 at bt,
      pair_weighs p k c.args.x t.0 t.1 c.args.number c.args.y u.0 u.1,
      action_weighs p t.0,
      action_weighs p u.0,
      same_bits (layer_sorts p (k - 1)) (existing_are p c.requires.rules (Layer (k - 1))),
      same_bits (out_sorts t.0) (out_sorts_are p c.requires.rules c.args.x t.0 t.1),
      same_bits (out_sorts u.0) (out_sorts_are p c.requires.rules c.args.y u.0 u.1),
      globals_same p (k - 1),
      outs_same t.0,
      outs_same u.0,
    )
