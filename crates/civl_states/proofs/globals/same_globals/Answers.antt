use Rattle.std.specs.Prelude.{◌+◌, ℕ, List, length}
use Rattle.std.proofs.Common.{◌∙◌, sym, ap, subst, arith}
use Rattle.civl_conditions.specs.footprints.Agreement.{exists_at}
use Rattle.civl_states.specs.formula_parts.Said.{IsTest}
use Rattle.civl_states.specs.formula_parts.Lists.{AreAlike, bits_at}
use Rattle.civl_actions.specs.Actions.{values_at}
use Rattle.civl_conditions.specs.Values.{same_values}
use Rattle.civl_states.specs.Items.{picked}
use Rattle.civl_states.proofs.Choosing.{picked_alike, tells_same, layer_weighs}
use Rattle.civl_states.proofs.globals.same_globals.Goals as goal

pub all_same-requires : goal.all_same-requires
all_same-requires c =
    let p = c.args.program.now in
    let a = c.as_slice.ensures.value ∙ c.in_ok-there.ensures in
    let b = c.as_slice-2.ensures.value ∙ c.in_ok-back.ensures in
    subst (λ (ys : List ℕ). AreAlike c.args.terms.now c.as_slice.result.now ys) (sym b) (subst (λ (xs : List ℕ). AreAlike c.args.terms.now xs (picked (exists_at c.args.layer) p.globals c.args.back.now)) (sym a) (picked_alike c.args.terms.now p c.args.layer c.args.there.now c.args.back.now c.requires.there c.requires.back))

pub returns-clause-tells : goal.returns-clause-tells
returns-clause-tells c =
    let p = c.args.program.now in
    let o = c.args.terms.now in
    let a = c.as_slice.ensures.value ∙ c.in_ok-there.ensures in
    let b = c.as_slice-2.ensures.value ∙ c.in_ok-back.ensures in
    tells_same o c.all_same.new.terms p c.args.layer c.args.there.now c.args.back.now c.in_ok-id.id c.in_ok-id.ensures.grows
    (subst (λ (ys : List ℕ). IsTest c.all_same.new.terms c.in_ok-id.id (λ env. same_values (values_at env o (picked (exists_at c.args.layer) p.globals c.args.there.now)) (values_at env o ys))) b
    (subst (λ (xs : List ℕ). IsTest c.all_same.new.terms c.in_ok-id.id (λ env. same_values (values_at env o xs) (values_at env o c.as_slice-2.result.now))) a c.in_ok-id.ensures.test))

pub returns-clause-weighs : goal.returns-clause-weighs
returns-clause-weighs c =
    let o = c.args.terms.now in
    let a = c.as_slice.ensures.value ∙ c.in_ok-there.ensures in
    omega (arith, c.in_ok-id.ensures.weighs, layer_weighs o c.args.program.now c.args.layer c.args.there.now c.requires.there, ap (λ (xs : List ℕ). bits_at o xs + length xs) a)
