use Rattle.civl_tree.specs.declared.expr.Sort.TheVariants.{Bool as Truth}
use Rattle.civl_terms.proofs.Growing.{grows_trans}
use Rattle.civl_states.proofs.formula_parts.Saying.{sort_stays}
use Rattle.civl_states.proofs.Runs.{of_some}
use Rattle.civl_terms.specs.Weights.{graph_weight}
use Rattle.civl_firing.specs.values.ActionWeights.{action_weight}
use Rattle.civl_moves.proofs.Calling.{of_within, if_each, has_run, weighs_four}
use Rattle.civl_moves.proofs.calls.run_action.Goals as goal

pub gate-requires-clause-live : goal.gate-requires-clause-live
gate-requires-clause-live c = sort_stays c.args.terms.now c.instance.new.terms c.args.sweep.now.live Truth c.in_ok-made.ensures.grows c.requires.live

pub gate-requires-clause-safe : goal.gate-requires-clause-safe
gate-requires-clause-safe c = sort_stays c.args.terms.now c.instance.new.terms c.args.sweep.now.safe Truth c.in_ok-made.ensures.grows c.requires.safe

pub gate-requires-clause-test : goal.gate-requires-clause-test
gate-requires-clause-test c = of_within c.args.program.now.actions c.args.action _ _ c.requires.action c.in_ok-made.ensures.made (λ a i. i.gate.sort)

pub returns-in_err-gated-clause-grows : goal.returns-in_err-gated-clause-grows
returns-in_err-gated-clause-grows c = grows_trans _ _ _ c.in_ok-made.ensures.grows c.in_err-gated.ensures.grows

pub both-requires-clause-b : goal.both-requires-clause-b
both-requires-clause-b c =
    of_within c.args.program.now.actions c.args.action _ _ c.requires.action c.in_ok-made.ensures.made (λ a i. sort_stays c.instance.new.terms c.gate.new.terms c.in_ok-made.made.guard Truth c.in_ok-gated.ensures.grows i.guard.sort)

pub returns-in_err-live-clause-grows : goal.returns-in_err-live-clause-grows
returns-in_err-live-clause-grows c = grows_trans _ _ _ c.in_ok-made.ensures.grows (grows_trans _ _ _ c.in_ok-gated.ensures.grows c.in_err-live.ensures.grows)

pub returns-clause-grows : goal.returns-clause-grows
returns-clause-grows c = grows_trans _ _ _ c.in_ok-made.ensures.grows (grows_trans _ _ _ c.in_ok-gated.ensures.grows c.in_ok-live.ensures.grows)

pub returns-clause-ran : goal.returns-clause-ran
returns-clause-ran c =
    let s = c.args.sweep.now in
    let gated = c.in_ok-gated.ensures in
    if_each _ _ (λ a e.
    has_run c.args.terms.now c.instance.new.terms c.gate.new.terms c.both.new.terms c.args.program.now a s.globals c.args.inputs.now c.args.choices.now s.live s.safe c.in_ok-made.made c.in_ok-gated.gated c.in_ok-live.live
    c.in_ok-made.ensures.grows gated.grows c.in_ok-live.ensures.grows (of_some _ _ a e c.in_ok-made.ensures.made) gated.live gated.safe c.in_ok-live.ensures.test)

pub returns-clause-weighs : goal.returns-clause-weighs
returns-clause-weighs c =
    if_each _ _ (λ a e. weighs_four (graph_weight c.args.terms.now) (graph_weight c.instance.new.terms) (graph_weight c.gate.new.terms) (graph_weight c.both.new.terms) (action_weight c.args.program.now a) (of_some _ _ a e c.in_ok-made.ensures.weighs) c.in_ok-gated.ensures.weighs c.in_ok-live.ensures.weighs)

pub returns-clause-others : goal.returns-clause-others
returns-clause-others c = c.in_ok-made.ensures.others
