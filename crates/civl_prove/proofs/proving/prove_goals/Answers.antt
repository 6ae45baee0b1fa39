use Rattle.std.specs.Prelude.{length}
use Rattle.std.proofs.Common.{◌+◌, ◌∙◌, refl, ap, subst, arith}
use Rattle.civl_goals.specs.declared.goal.Goal.TheVariants.{Invariant}
use Rattle.civl_verdicts.specs.decisions.Decided.{IsDecided}
use Rattle.civl_verdicts.proofs.decisions.Rounds.{asked_more}
use Rattle.civl_prove.specs.Proved.{goal_formula}
use Rattle.civl_prove.proofs.Reaching.{none_before, one_more, up_to, here_in, reached, fails, goals_are_light}
use Rattle.civl_prove.proofs.proving.prove_goals.Goals as goal

pub loop-goal-init : goal.loop-goal-init
loop-goal-init g c = (none_before c.args.src.now c.args.outline.now, refl)

pub decide_goal-requires-clause-light : goal.decide_goal-requires-clause-light
decide_goal-requires-clause-light g c =
    goals_are_light c.args.src.now c.args.outline.now c.requires.light c.loop-goal.goal-index _
    (here_in c.args.src.now c.args.outline.now c.as_slice-goal-items.result.now c.loop-goal.goal-index Invariant (c.as_slice-goal-items.ensures ∙ c.requires.listed) (omega arith))

pub returns-in-At-clause-proved : goal.returns-in-At-clause-proved
returns-in-At-clause-proved g c =
    let i = c.loop-goal.goal-index in (
      (i, reached c.args.src.now c.args.outline.now c.as_slice-goal-items.result.now i Invariant (c.as_slice-goal-items.ensures ∙ c.requires.listed) (omega arith) c.loop-goal.invariant.0),
      fails c.args.src.now c.args.outline.now c.args.budget _ c.in-At.values (subst (IsDecided c.args.budget (goal_formula c.args.src.now c.args.outline.now _)) c.in-At.is c.in_ok-decide_goal.ensures.decided),
    )

pub returns-in-At-clause-searched : goal.returns-in-At-clause-searched
returns-in-At-clause-searched g c =
    let i = c.loop-goal.goal-index in (
      i + 1,
      (i, reached c.args.src.now c.args.outline.now c.as_slice-goal-items.result.now i Invariant (c.as_slice-goal-items.ensures ∙ c.requires.listed) (omega arith) c.loop-goal.invariant.0, omega arith),
      asked_more _ c.args.budget _ _ _ i c.loop-goal.invariant.1 c.in_ok-decide_goal.ensures.asked,
    )

pub returns-in-Spent-clause-proved : goal.returns-in-Spent-clause-proved
returns-in-Spent-clause-proved g c =
    let i = c.loop-goal.goal-index in (
      (i, reached c.args.src.now c.args.outline.now c.as_slice-goal-items.result.now i Invariant (c.as_slice-goal-items.ensures ∙ c.requires.listed) (omega arith) c.loop-goal.invariant.0),
      subst (IsDecided c.args.budget (goal_formula c.args.src.now c.args.outline.now _)) c.in-Spent.is c.in_ok-decide_goal.ensures.decided,
    )

pub returns-in-Spent-clause-searched : goal.returns-in-Spent-clause-searched
returns-in-Spent-clause-searched g c =
    let i = c.loop-goal.goal-index in (
      i + 1,
      (i, reached c.args.src.now c.args.outline.now c.as_slice-goal-items.result.now i Invariant (c.as_slice-goal-items.ensures ∙ c.requires.listed) (omega arith) c.loop-goal.invariant.0, omega arith),
      asked_more _ c.args.budget _ _ _ i c.loop-goal.invariant.1 c.in_ok-decide_goal.ensures.asked,
    )

pub loop-goal-preserved : goal.loop-goal-preserved
loop-goal-preserved g c =
    let i = c.loop-goal.goal-index in (
      one_more c.args.src.now c.args.outline.now i _ c.loop-goal.invariant.0 (here_in c.args.src.now c.args.outline.now c.as_slice-goal-items.result.now i Invariant (c.as_slice-goal-items.ensures ∙ c.requires.listed) (omega arith))
          (subst (IsDecided c.args.budget (goal_formula c.args.src.now c.args.outline.now _)) c.in-Never.is c.in_ok-decide_goal.ensures.decided),
      asked_more _ c.args.budget _ _ _ i c.loop-goal.invariant.1 c.in_ok-decide_goal.ensures.asked,
    )

pub returns-clause-proved : goal.returns-clause-proved
returns-clause-proved g c =
    let listed = ap length (c.as_slice-goal-items.ensures ∙ c.requires.listed) in
    (c.len.ensures ∙ ap length c.requires.listed, up_to c.args.src.now c.args.outline.now c.loop-goal.goal-index c.len.result (omega (arith, ap length c.as_slice-goal-items.ensures, c.len.ensures)) c.loop-goal.invariant.0)

pub returns-clause-searched : goal.returns-clause-searched
returns-clause-searched g c =
    let long = ap length c.as_slice-goal-items.ensures in
    (c.loop-goal.goal-index, omega (arith, long, c.len.ensures, c.loop-goal.auto.goal-index-end), c.loop-goal.invariant.1)
