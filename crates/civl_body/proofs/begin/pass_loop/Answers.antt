use Rattle.std.proofs.Common.{◌∙◌, ap}
use Rattle.civl_terms.proofs.Growing.{grows_trans}
use Rattle.civl_moves.specs.Branches.{with_front}
use Rattle.civl_meaning.specs.Remaining.{rest_of}
use Rattle.civl_body.proofs.Looping.{inside_ready, behind_ready, loop_passes}
use Rattle.civl_terms.specs.Weights.{graph_weight}
use Rattle.civl_conditions.specs.Weights.{body_weight}
use Rattle.civl_body.proofs.Weighing.{loop_weighs}
use Rattle.civl_body.proofs.begin.pass_loop.Goals as goal

pub pass_rest-requires-clause-ready : goal.pass_rest-requires-clause-ready
pass_rest-requires-clause-ready c =
    let f = c.in_ok-fork in
    inside_ready c.args.program.now c.args.layer c.args.proc.now c.args.chosen.now c.args.condition.now (rest_of c.args.inside.now) (rest_of c.args.behind.now) c.args.terms.now c.part.new.terms c.args.sweep.now f.fork c.requires.ready f.ensures.grows f.ensures.test f.ensures.first f.ensures.second

pub returns-in_err-pass_rest-clause-grows : goal.returns-in_err-pass_rest-clause-grows
returns-in_err-pass_rest-clause-grows c = grows_trans _ _ _ c.in_ok-fork.ensures.grows c.in_err-pass_rest.ensures.grows

pub pass_rest-requires-2-clause-ready : goal.pass_rest-requires-2-clause-ready
pass_rest-requires-2-clause-ready c =
    let f = c.in_ok-fork in
    behind_ready c.args.program.now c.args.layer c.args.proc.now c.args.chosen.now c.args.condition.now (rest_of c.args.inside.now) (rest_of c.args.behind.now) c.args.terms.now c.part.new.terms c.args.sweep.now f.fork c.requires.ready f.ensures.grows f.ensures.test f.ensures.first f.ensures.second
    c.pass_rest.new.terms c.pass_rest.new.sweep c.in_ok-pass_rest.ensures.grows c.in_ok-pass_rest.ensures.passes c.swap-ended.new.sweep (c.swap-ended.ensures.is ∙ ap (λ y. with_front y c.pass_rest.new.sweep) c.in_ok-before.ensures)

pub returns-in_err-pass_rest-2-clause-grows : goal.returns-in_err-pass_rest-2-clause-grows
returns-in_err-pass_rest-2-clause-grows c = grows_trans _ _ _ c.in_ok-fork.ensures.grows (grows_trans _ _ _ c.in_ok-pass_rest.ensures.grows c.in_err-pass_rest-2.ensures.grows)

pub returns-clause-passes : goal.returns-clause-passes
returns-clause-passes c =
    let f = c.in_ok-fork in
    loop_passes c.args.program.now c.args.layer c.args.proc.now c.args.chosen.now c.args.condition.now (rest_of c.args.inside.now) (rest_of c.args.behind.now) c.args.terms.now c.part.new.terms c.args.sweep.now f.fork c.requires.ready f.ensures.grows f.ensures.test f.ensures.first f.ensures.second
    c.pass_rest.new.terms c.pass_rest.new.sweep c.in_ok-pass_rest.ensures.grows c.in_ok-pass_rest.ensures.passes c.swap-ended.new.sweep (c.swap-ended.ensures.is ∙ ap (λ y. with_front y c.pass_rest.new.sweep) c.in_ok-before.ensures)
    c.pass_rest-2.new.terms c.pass_rest-2.new.sweep c.in_ok-pass_rest-2.ensures.grows c.in_ok-pass_rest-2.ensures.passes

pub returns-clause-grows : goal.returns-clause-grows
returns-clause-grows c = grows_trans _ _ _ c.in_ok-fork.ensures.grows (grows_trans _ _ _ c.in_ok-pass_rest.ensures.grows c.in_ok-pass_rest-2.ensures.grows)

pub returns-clause-weighs : goal.returns-clause-weighs
returns-clause-weighs c = λ linear.
    loop_weighs c.args.program.now c.args.layer c.args.proc.now (rest_of c.args.inside.now) (rest_of c.args.behind.now) (body_weight c.args.program.now c.args.proc.now c.args.condition.now) c.args.sweep.now.onward c.swap-ended.new.sweep.onward
    (graph_weight c.args.terms.now) (graph_weight c.part.new.terms) (graph_weight c.pass_rest.new.terms) (graph_weight c.pass_rest-2.new.terms) c.in_ok-fork.ensures.weighs (c.in_ok-pass_rest.ensures.weighs linear) (c.in_ok-pass_rest-2.ensures.weighs linear)
