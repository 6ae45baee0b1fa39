use Rattle.std.specs.Prelude.{length}
use Rattle.std.proofs.Common.{◌+◌, ◌∙◌, refl, ap, subst, arith}
use Rattle.civl_conditions.specs.declared.condition.Condition.TheVariants.{Start}
use Rattle.civl_verdicts.specs.Formulas.{violation_formula}
use Rattle.civl_verdicts.specs.decisions.Decided.{IsDecided}
use Rattle.civl_verdicts.proofs.judging.Lightness.{conditions_are_light}
use Rattle.civl_verdicts.proofs.decisions.Rounds.{asked_more}
use Rattle.civl_verdicts.proofs.judging.Verdicts.{none_before, one_more, all_hold, here_in, reached, violates}
use Rattle.civl_verdicts.proofs.judging.verifying.judge_conditions.Goals as goal

pub loop-condition-init : goal.loop-condition-init
loop-condition-init g c = (none_before c.args.src.now, refl)

pub decide_violation-requires-clause-light : goal.decide_violation-requires-clause-light
decide_violation-requires-clause-light g c =
    conditions_are_light c.args.src.now c.requires.light c.loop-condition.condition-index _ (here_in c.args.src.now c.as_slice-condition-items.result.now c.loop-condition.condition-index (Start 0 0) (c.as_slice-condition-items.ensures ∙ c.requires.listed) (omega arith))

pub returns-in-At-clause-verdict : goal.returns-in-At-clause-verdict
returns-in-At-clause-verdict g c =
    let i = c.loop-condition.condition-index in (
      (i, reached c.args.src.now c.as_slice-condition-items.result.now i (Start 0 0) c.requires.initial (c.as_slice-condition-items.ensures ∙ c.requires.listed) (omega arith) c.loop-condition.invariant.0),
      violates c.args.src.now c.args.budget _ c.in-At.values (subst (IsDecided c.args.budget (violation_formula c.args.src.now _)) c.in-At.is c.in_ok-decide_violation.ensures.decided),
    )

pub returns-in-At-clause-searched : goal.returns-in-At-clause-searched
returns-in-At-clause-searched g c =
    let i = c.loop-condition.condition-index in (
      i + 1,
      (i, reached c.args.src.now c.as_slice-condition-items.result.now i (Start 0 0) c.requires.initial (c.as_slice-condition-items.ensures ∙ c.requires.listed) (omega arith) c.loop-condition.invariant.0, omega arith),
      asked_more _ c.args.budget _ _ _ i c.loop-condition.invariant.1 c.in_ok-decide_violation.ensures.asked,
    )

pub returns-in-Spent-clause-verdict : goal.returns-in-Spent-clause-verdict
returns-in-Spent-clause-verdict g c =
    let i = c.loop-condition.condition-index in (
      (i, reached c.args.src.now c.as_slice-condition-items.result.now i (Start 0 0) c.requires.initial (c.as_slice-condition-items.ensures ∙ c.requires.listed) (omega arith) c.loop-condition.invariant.0),
      subst (IsDecided c.args.budget (violation_formula c.args.src.now _)) c.in-Spent.is c.in_ok-decide_violation.ensures.decided,
    )

pub returns-in-Spent-clause-searched : goal.returns-in-Spent-clause-searched
returns-in-Spent-clause-searched g c =
    let i = c.loop-condition.condition-index in (
      i + 1,
      (i, reached c.args.src.now c.as_slice-condition-items.result.now i (Start 0 0) c.requires.initial (c.as_slice-condition-items.ensures ∙ c.requires.listed) (omega arith) c.loop-condition.invariant.0, omega arith),
      asked_more _ c.args.budget _ _ _ i c.loop-condition.invariant.1 c.in_ok-decide_violation.ensures.asked,
    )

pub loop-condition-preserved : goal.loop-condition-preserved
loop-condition-preserved g c =
    let i = c.loop-condition.condition-index in (
      one_more c.args.src.now i _ c.loop-condition.invariant.0 (here_in c.args.src.now c.as_slice-condition-items.result.now i (Start 0 0) (c.as_slice-condition-items.ensures ∙ c.requires.listed) (omega arith))
          (subst (IsDecided c.args.budget (violation_formula c.args.src.now _)) c.in-Never.is c.in_ok-decide_violation.ensures.decided),
      asked_more _ c.args.budget _ _ _ i c.loop-condition.invariant.1 c.in_ok-decide_violation.ensures.asked,
    )

pub returns-clause-verdict : goal.returns-clause-verdict
returns-clause-verdict g c =
    let listed = c.as_slice-condition-items.ensures ∙ c.requires.listed in
    (c.requires.initial, all_hold c.args.src.now c.loop-condition.condition-index c.loop-condition.invariant.0 (omega (arith, ap length listed)), c.len.ensures ∙ ap length c.requires.listed)
