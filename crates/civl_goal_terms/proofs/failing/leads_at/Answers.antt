use Rattle.std.proofs.Common.{◌∙◌, ap, sym, arith}
use Rattle.civl_goals.specs.Weights.{note_before_weight}
use Rattle.civl_goal_terms.specs.inner.Places.{told}
use Rattle.civl_goal_terms.proofs.Branching.{reaches_next}
use Rattle.civl_goal_terms.proofs.failing.leads_at.Goals as goal

pub forked-requires-clause-small : goal.forked-requires-clause-small
forked-requires-clause-small c = c.requires.at.small

pub forked-requires-clause-spot : goal.forked-requires-clause-spot
forked-requires-clause-spot c = c.requires.at.spot

pub forks_astray-requires-clause-fork : goal.forks_astray-requires-clause-fork
forks_astray-requires-clause-fork c = sym c.forked.ensures ∙ ap told c.in-Some.is

pub passes_astray-requires-clause-plain : goal.passes_astray-requires-clause-plain
passes_astray-requires-clause-plain c = sym c.forked.ensures ∙ ap told c.in-None.is

pub returns-in_ok-id-in-None-clause-weighs : goal.returns-in_ok-id-in-None-clause-weighs
returns-in_ok-id-in-None-clause-weighs c =
    let p = c.args.program.now in
    omega (arith, c.in_ok-id-in-None.ensures.weighs, reaches_next p c.requires.layered c.args.at.now c.requires.at (note_before_weight p c.args.outline.now c.args.at.now.root) (sym c.forked.ensures ∙ ap told c.in-None.is))
