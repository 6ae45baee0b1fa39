use Rattle.std.specs.Prelude.{length, get_or, List}
use Rattle.std.proofs.Common.{◌≡◌, ◌∙◌, refl, ap, subst, arith}
use Rattle.civl_conditions.specs.declared.condition.Condition.TheVariants.{Start}
use Rattle.civl_conditions.specs.declared.condition.Condition.{Condition}
use Rattle.civl_verdicts.specs.Surveys.{IsFound}
use Rattle.civl_verdicts.proofs.judging.Lightness.{conditions_are_light}
use Rattle.civl_verdicts.proofs.decisions.Rounds.{asked_more, asked_as}
use Rattle.civl_verdicts.proofs.judging.Verdicts.{here_in}
use Rattle.civl_verdicts.proofs.judging.Surveys.{found_more}
use Rattle.civl_verdicts.proofs.judging.surveying.find_each.Goals as goal

pub loop-condition-init : goal.loop-condition-init
loop-condition-init g c = (rw c.new-findings.ensures.items tt, refl)

pub find-requires-clause-light : goal.find-requires-clause-light
find-requires-clause-light g c =
    conditions_are_light c.args.src.now c.requires.light c.loop-condition.condition-index _
    (here_in c.args.src.now c.as_slice-condition-items.result.now c.loop-condition.condition-index (Start 0 0) (c.as_slice-condition-items.ensures ∙ c.requires.listed) (omega arith))

pub loop-condition-preserved : goal.loop-condition-preserved
loop-condition-preserved g c =
    let i = c.loop-condition.condition-index in
    let l = ap length c.as_slice-condition-items.ensures in (
      found_more c.args.src.now c.args.budget c.args.list.now i (Start 0 0) _ _ c.in_ok-found.found (omega (arith, l)) c.loop-condition.invariant.0
          (subst (λ (cs : List Condition). IsFound c.args.src.now c.args.budget (get_or cs i (Start 0 0)) c.in_ok-found.found) c.as_slice-condition-items.ensures c.in_ok-found.ensures.found) c.in_ok-push.ensures.items,
      asked_more _ c.args.budget _ _ _ i c.loop-condition.invariant.1 c.in_ok-found.ensures.asked,
    )

pub returns-clause-asked : goal.returns-clause-asked
returns-clause-asked g c =
    let l = ap length c.as_slice-condition-items.ensures in
    let end : c.loop-condition.condition-index ≡ length c.args.list.now = omega (arith, l, c.loop-condition.auto.condition-index-end) in
    asked_as _ c.args.budget _ _ _ _ end c.loop-condition.invariant.1
