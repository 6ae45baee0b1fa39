use Rattle.std.proofs.Common.{◌≡◌, ◌∙◌, ◌++◌, ◌+◌, ◌*◌, ◌≤◌, List, ap, sym, subst}
use Rattle.civl_tree.specs.declared.stmt.Stmt.{Stmt}
use Rattle.civl_tree.specs.Numbering.{numbered}
use Rattle.civl_meaning.specs.Rest.{Rest, rest_at}
use Rattle.civl_conditions.specs.paths.Flows.{Flow, flow_all, flow_rest}
use Rattle.civl_terms.specs.Weights.{graph_weight}
use Rattle.civl_body.specs.Weights.{passed_weights, spent}
use Rattle.civl_body.proofs.Weighing.{spent_weighs}
use Rattle.civl_moves.specs.sweeps.Sweeps.{sweep_all, sweep_rest}
use Rattle.civl_meaning.specs.declared.remaining.Numbered.{Numbered}
use Rattle.civl_meaning.specs.Remaining.{rest_of}
use Rattle.civl_body.specs.Passing.{ReadyRest, ReadyHead, Passes}
use Rattle.civl_body.proofs.Beginning.{entry_ready, within_ready, entry_passes, within_passes}
use Rattle.civl_body.proofs.begin.pass_from.Goals as goal

pub pass_rest-requires-clause-ready : goal.pass_rest-requires-clause-ready
pass_rest-requires-clause-ready c =
    let body = c.args.proc.now.body in
    let i = c.is_entry.ensures.entry c.if-is_entry.true in
    let items : rest_of c.deref.result.now ≡ numbered 0 body = ap rest_of c.deref.ensures.value ∙ c.in_ok-push_numbered.ensures ∙ ap (λ (l : List Numbered). rest_of l ++ numbered 0 c.as_slice.result.now) c.new-rest.ensures.items ∙ ap (λ (b : List Stmt). numbered 0 b) c.as_slice.ensures in
    subst (ReadyRest c.args.terms.now c.args.program.now c.args.layer c.args.proc.now c.args.chosen.now c.args.sweep.now) (sym items) (entry_ready c.args.program.now c.args.layer c.args.proc.now c.args.chosen.now c.args.terms.now c.args.sweep.now c.args.cut i c.requires.ready)

pub returns-then-is_entry-clause-passes : goal.returns-then-is_entry-clause-passes
returns-then-is_entry-clause-passes c =
    let body = c.args.proc.now.body in
    let i = c.is_entry.ensures.entry c.if-is_entry.true in
    let items : rest_of c.deref.result.now ≡ numbered 0 body = ap rest_of c.deref.ensures.value ∙ c.in_ok-push_numbered.ensures ∙ ap (λ (l : List Numbered). rest_of l ++ numbered 0 c.as_slice.result.now) c.new-rest.ensures.items ∙ ap (λ (b : List Stmt). numbered 0 b) c.as_slice.ensures in
    let p = subst (λ (y : Rest). Passes c.args.terms.now c.pass_rest.new.terms c.args.program.now c.args.layer c.args.proc.now c.args.chosen.now c.args.sweep.now c.pass_rest.new.sweep (flow_all y).passed (λ p. sweep_all p y)) items c.in_ok-pass_rest.ensures.passes in
    entry_passes c.args.program.now c.args.layer c.args.proc.now c.args.chosen.now c.args.terms.now c.args.sweep.now c.args.cut c.pass_rest.new.terms c.pass_rest.new.sweep i p

pub pass_head-requires-clause-ready : goal.pass_head-requires-clause-ready
pass_head-requires-clause-ready c =
    let i = c.is_entry.ensures.within c.if-is_entry.false in
    let items : rest_of c.deref-2.result.now ≡ rest_at c.args.proc.now.body c.args.cut.statement = ap rest_of c.deref-2.ensures.value ∙ c.in_ok-push_among.ensures ∙ ap (λ (l : List Numbered). rest_of l ++ rest_at c.args.proc.now.body c.args.cut.statement) c.new-rest.ensures.items in
    subst (ReadyHead c.args.terms.now c.args.program.now c.args.layer c.args.proc.now c.args.chosen.now c.args.sweep.now) (sym items) (within_ready c.args.program.now c.args.layer c.args.proc.now c.args.chosen.now c.args.terms.now c.args.sweep.now c.args.cut i c.requires.ready)

pub returns-clause-passes : goal.returns-clause-passes
returns-clause-passes c =
    let i = c.is_entry.ensures.within c.if-is_entry.false in
    let items : rest_of c.deref-2.result.now ≡ rest_at c.args.proc.now.body c.args.cut.statement = ap rest_of c.deref-2.ensures.value ∙ c.in_ok-push_among.ensures ∙ ap (λ (l : List Numbered). rest_of l ++ rest_at c.args.proc.now.body c.args.cut.statement) c.new-rest.ensures.items in
    let p = subst (λ (y : Rest). Passes c.args.terms.now c.pass_head.new.terms c.args.program.now c.args.layer c.args.proc.now c.args.chosen.now c.args.sweep.now c.pass_head.new.sweep (flow_rest y).passed (λ p. sweep_rest p y)) items c.in_ok-pass_head.ensures.passes in
    within_passes c.args.program.now c.args.layer c.args.proc.now c.args.chosen.now c.args.terms.now c.args.sweep.now c.args.cut c.pass_head.new.terms c.pass_head.new.sweep i p

pub returns-then-is_entry-clause-weighs : goal.returns-then-is_entry-clause-weighs
returns-then-is_entry-clause-weighs c = λ linear.
    let body = c.args.proc.now.body in
    let i = c.is_entry.ensures.entry c.if-is_entry.true in
    let items : rest_of c.deref.result.now ≡ numbered 0 body = ap rest_of c.deref.ensures.value ∙ c.in_ok-push_numbered.ensures ∙ ap (λ (l : List Numbered). rest_of l ++ numbered 0 c.as_slice.result.now) c.new-rest.ensures.items ∙ ap (λ (b : List Stmt). numbered 0 b) c.as_slice.ensures in
    let flows = ap flow_all items ∙ sym (i.flows c.args.proc.now) in
    let w = subst (λ (f : Flow). graph_weight c.pass_rest.new.terms ≤ graph_weight c.args.terms.now + spent c.args.sweep.now.onward (passed_weights c.args.program.now c.args.layer c.args.proc.now f.passed)) flows (c.in_ok-pass_rest.ensures.weighs linear) in
    spent_weighs c.args.program.now c.args.layer c.args.proc.now _ c.args.sweep.now.onward (graph_weight c.args.terms.now) (graph_weight c.pass_rest.new.terms) w

pub returns-clause-weighs : goal.returns-clause-weighs
returns-clause-weighs c = λ linear.
    let i = c.is_entry.ensures.within c.if-is_entry.false in
    let items : rest_of c.deref-2.result.now ≡ rest_at c.args.proc.now.body c.args.cut.statement = ap rest_of c.deref-2.ensures.value ∙ c.in_ok-push_among.ensures ∙ ap (λ (l : List Numbered). rest_of l ++ rest_at c.args.proc.now.body c.args.cut.statement) c.new-rest.ensures.items in
    let flows = ap flow_rest items ∙ sym (i.flows c.args.proc.now) in
    subst (λ (f : Flow). graph_weight c.pass_head.new.terms ≤ graph_weight c.args.terms.now + 4 * passed_weights c.args.program.now c.args.layer c.args.proc.now f.passed) flows (c.in_ok-pass_head.ensures.weighs linear)
