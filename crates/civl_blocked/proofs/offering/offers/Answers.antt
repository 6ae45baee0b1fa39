use Rattle.std.proofs.Common.{◌≤◌, ◌∙◌, List, map, length, arith, sym, ap}
use Rattle.std.specs.Prelude.{option_copied}
use Rattle.std.proofs.lemmas.List.{take_all}
use Rattle.civl_tree.specs.declared.action.Choice.{Choice}
use Rattle.civl_firing.specs.declared.scope.Scope.{Scope}
use Rattle.civl_firing.specs.Eval.{value_of}
use Rattle.civl_firing.specs.Settings.{scope_in}
use Rattle.civl_blocked.specs.inner.Offering.{offers_in}
use Rattle.civl_blocked.proofs.offering.offers.Goals as goal

pub returns-after-loop-choice : goal.returns-after-loop-choice
returns-after-loop-choice c =
    let a = c.in-Some.action.now in
    let past : length c.as_slice-choice-items.result.now ≤ c.loop-choice.choice-index = omega arith in
    c.loop-choice.invariant
    ∙ (ap (λ (l : List Choice). map (λ x. value_of (scope_in c.at_gate-setting.result) x.offer) l) (take_all c.loop-choice.choice-index c.as_slice-choice-items.result.now past ∙ c.as_slice-choice-items.ensures)
    ∙ (ap (λ (s : Scope). map (λ x. value_of s x.offer) a.choices) c.at_gate-setting.ensures
    ∙ sym (ap (λ o. offers_in c.args.plain.now.program.globals c.args.store.now (option_copied o) c.args.inputs.now) c.in-Some.is)))
