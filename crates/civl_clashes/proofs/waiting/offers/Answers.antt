use Rattle.std.proofs.Common.{◌≤◌, ◌∙◌, List, map, length, arith, ap}
use Rattle.std.proofs.lemmas.List.{take_all}
use Rattle.civl_tree.specs.declared.action.Choice.{Choice}
use Rattle.civl_firing.specs.declared.scope.Scope.{Scope}
use Rattle.civl_firing.specs.Eval.{value_of}
use Rattle.civl_firing.specs.Settings.{scope_in}
use Rattle.civl_clashes.proofs.waiting.offers.Goals as goal

pub returns : goal.returns
returns c =
    let past : length c.as_slice-choice-items.result.now ≤ c.loop-choice.choice-index = omega arith in
    c.from_vec.ensures
    ∙ (c.loop-choice.invariant
    ∙ (ap (λ (l : List Choice). map (λ x. value_of (scope_in c.at_gate-setting.result) x.offer) l) (take_all c.loop-choice.choice-index c.as_slice-choice-items.result.now past ∙ c.as_slice-choice-items.ensures)
    ∙ ap (λ (s : Scope). map (λ x. value_of s x.offer) c.args.call.now.action.now.choices) c.at_gate-setting.ensures))
