use Rattle.std.specs.Prelude.{take, drop}
use Rattle.std.proofs.Common.{◌≡◌, ◌∙◌, ◌-◌, ◌+◌, ◌*◌, ◌≤◌, length, ap, sym, subst, arith}
use Rattle.civl_meaning.specs.Rest.{Rest}
use Rattle.civl_conditions.specs.paths.Flows.{flow_rest}
use Rattle.civl_moves.specs.sweeps.Sweeps.{sweep_rest}
use Rattle.civl_meaning.specs.Remaining.{rest_of}
use Rattle.civl_body.specs.Passing.{ReadyHead, ReadyLoop, Passes, by_loop, loop_passed}
use Rattle.civl_body.proofs.Heads.{items_are, loop_small, plain_passes, round, loop_ready, loop_passes}
use Rattle.civl_terms.specs.Weights.{graph_weight}
use Rattle.civl_conditions.specs.Weights.{body_weight}
use Rattle.civl_body.specs.Weights.{passed_weights}
use Rattle.civl_body.proofs.Weighing.{plain_weighs, head_weighs}
use Rattle.civl_body.proofs.begin.pass_head.Goals as goal

pub again-requires : goal.again-requires
again-requires c =
    let items = c.args.items.now in
    let x = c.index-items-0.result in
    let whole = items_are items x (omega arith) c.index-items-0.is in
    let ready = subst (ReadyHead c.args.terms.now c.args.program.now c.args.layer c.args.proc.now c.args.chosen.now c.args.sweep.now) whole c.requires.ready in
    let r = c.in-Some.round in
    let loop = c.loop_in.ensures.is r c.in-Some.is in
    omega (arith, loop_small c.args.proc.now x.number x.stmt.now r.condition.now r.body.now loop ready.stands.0, c.requires.small)

pub pass_loop-requires-clause-ready : goal.pass_loop-requires-clause-ready
pass_loop-requires-clause-ready c =
    let items = c.args.items.now in
    let x = c.index-items-0.result in
    let whole = items_are items x (omega arith) c.index-items-0.is in
    let ready = subst (ReadyHead c.args.terms.now c.args.program.now c.args.layer c.args.proc.now c.args.chosen.now c.args.sweep.now) whole c.requires.ready in
    let r = c.in-Some.round in
    let loop = c.loop_in.ensures.is r c.in-Some.is in
    let k = rest_of (take (length items - 1) (drop 1 items)) in
    let inside : rest_of c.deref.result.now ≡ round x.number x.stmt.now r.body.now = ap rest_of c.deref.ensures.value ∙ c.in_ok-inside-in-Some.ensures in
    subst (λ (y : Rest). ReadyLoop c.args.terms.now c.args.program.now c.args.layer c.args.proc.now c.args.chosen.now c.args.sweep.now r.condition.now y k) (sym inside)
    (loop_ready c.args.program.now c.args.layer c.args.proc.now c.args.chosen.now c.args.terms.now c.args.sweep.now x.number x.stmt.now r.condition.now r.body.now k loop ready)

pub returns-in_ok-pass_rest-in-None-clause-passes : goal.returns-in_ok-pass_rest-in-None-clause-passes
returns-in_ok-pass_rest-in-None-clause-passes c =
    let items = c.args.items.now in
    let x = c.index-items-0.result in
    let whole = items_are items x (omega arith) c.index-items-0.is in
    let k = rest_of (take (length items - 1) (drop 1 items)) in
    subst (λ (y : Rest). Passes c.args.terms.now c.pass_rest.new.terms c.args.program.now c.args.layer c.args.proc.now c.args.chosen.now c.args.sweep.now c.pass_rest.new.sweep (flow_rest y).passed (λ p. sweep_rest p y)) (sym whole)
    (plain_passes c.args.program.now c.args.layer c.args.proc.now c.args.chosen.now c.args.terms.now c.pass_rest.new.terms c.args.sweep.now c.pass_rest.new.sweep x.number x.stmt.now k (c.loop_in.ensures.not c.in-None.is) c.in_ok-pass_rest-in-None.ensures.passes)

pub returns-in_ok-pass_loop-in-Some-clause-passes : goal.returns-in_ok-pass_loop-in-Some-clause-passes
returns-in_ok-pass_loop-in-Some-clause-passes c =
    let items = c.args.items.now in
    let x = c.index-items-0.result in
    let whole = items_are items x (omega arith) c.index-items-0.is in
    let r = c.in-Some.round in
    let loop = c.loop_in.ensures.is r c.in-Some.is in
    let k = rest_of (take (length items - 1) (drop 1 items)) in
    let inside : rest_of c.deref.result.now ≡ round x.number x.stmt.now r.body.now = ap rest_of c.deref.ensures.value ∙ c.in_ok-inside-in-Some.ensures in
    let p = subst (λ (y : Rest). Passes c.args.terms.now c.pass_loop.new.terms c.args.program.now c.args.layer c.args.proc.now c.args.chosen.now c.args.sweep.now c.pass_loop.new.sweep (loop_passed y k) (λ p. by_loop p r.condition.now y k)) inside c.in_ok-pass_loop-in-Some.ensures.passes in
    subst (λ (y : Rest). Passes c.args.terms.now c.pass_loop.new.terms c.args.program.now c.args.layer c.args.proc.now c.args.chosen.now c.args.sweep.now c.pass_loop.new.sweep (flow_rest y).passed (λ p. sweep_rest p y)) (sym whole)
    (loop_passes c.args.program.now c.args.layer c.args.proc.now c.args.chosen.now c.args.terms.now c.pass_loop.new.terms c.args.sweep.now c.pass_loop.new.sweep x.number x.stmt.now r.condition.now r.body.now k loop p)

pub returns-in_ok-pass_rest-in-None-clause-weighs : goal.returns-in_ok-pass_rest-in-None-clause-weighs
returns-in_ok-pass_rest-in-None-clause-weighs c = λ linear.
    let items = c.args.items.now in
    let x = c.index-items-0.result in
    let whole = items_are items x (omega arith) c.index-items-0.is in
    let k = rest_of (take (length items - 1) (drop 1 items)) in
    subst (λ (y : Rest). graph_weight c.pass_rest.new.terms ≤ graph_weight c.args.terms.now + 4 * passed_weights c.args.program.now c.args.layer c.args.proc.now (flow_rest y).passed) (sym whole)
    (plain_weighs c.args.program.now c.args.layer c.args.proc.now x.number x.stmt.now k (c.loop_in.ensures.not c.in-None.is) c.args.sweep.now.onward (graph_weight c.args.terms.now) (graph_weight c.pass_rest.new.terms) (c.in_ok-pass_rest-in-None.ensures.weighs linear))

pub returns-in_ok-pass_loop-in-Some-clause-weighs : goal.returns-in_ok-pass_loop-in-Some-clause-weighs
returns-in_ok-pass_loop-in-Some-clause-weighs c = λ linear.
    let p = c.args.program.now in
    let q = c.args.proc.now in
    let items = c.args.items.now in
    let x = c.index-items-0.result in
    let whole = items_are items x (omega arith) c.index-items-0.is in
    let r = c.in-Some.round in
    let loop = c.loop_in.ensures.is r c.in-Some.is in
    let k = rest_of (take (length items - 1) (drop 1 items)) in
    let inside : rest_of c.deref.result.now ≡ round x.number x.stmt.now r.body.now = ap rest_of c.deref.ensures.value ∙ c.in_ok-inside-in-Some.ensures in
    let w = subst (λ (y : Rest). graph_weight c.pass_loop.new.terms ≤ graph_weight c.args.terms.now + (body_weight p q r.condition.now + 3) + 4 * passed_weights p c.args.layer q (loop_passed y k)) inside (c.in_ok-pass_loop-in-Some.ensures.weighs linear) in
    subst (λ (y : Rest). graph_weight c.pass_loop.new.terms ≤ graph_weight c.args.terms.now + 4 * passed_weights p c.args.layer q (flow_rest y).passed) (sym whole)
    (head_weighs p c.args.layer q x.number x.stmt.now r.condition.now r.body.now k loop (graph_weight c.args.terms.now) (graph_weight c.pass_loop.new.terms) w)
