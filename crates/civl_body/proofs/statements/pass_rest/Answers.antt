use Rattle.std.proofs.Common.{ℕ, arith}
use Rattle.civl_tree.specs.declared.stmt.Stmt.{Stmt}
use Rattle.civl_terms.specs.Weights.{graph_weight}
use Rattle.civl_terms.proofs.Growing.{grows_trans, grows_same}
use Rattle.civl_meaning.specs.Remaining.{rest_of}
use Rattle.civl_body.proofs.RestPassing.{ends_within, rest_begins, rest_first, rest_step, rest_ends, item_is, rest_long}
use Rattle.civl_body.proofs.Passing.{goes_on}
use Rattle.civl_body.proofs.Weighing.{rest_spent}
use Rattle.civl_body.proofs.statements.pass_rest.Goals as goal

pub loop-item-init : goal.loop-item-init
loop-item-init c = (
  rest_begins c.args.program.now c.args.layer c.args.proc.now c.args.chosen.now c.args.terms.now c.args.sweep.now (rest_of c.args.items.now) (grows_same c.args.terms.now) c.requires.ready,
  λ linear. omega arith,
)

pub returns-in_err-pass-clause-grows : goal.returns-in_err-pass-clause-grows
returns-in_err-pass-clause-grows c = grows_trans _ _ _ c.loop-item.invariant.0.grows c.in_err-pass.ensures.grows

pub returns-clause-passes : goal.returns-clause-passes
returns-clause-passes c =
    let long = rest_long c.args.items.now in
    rest_ends c.args.program.now c.args.layer c.args.proc.now c.args.chosen.now c.args.terms.now c.loop-item.terms c.args.sweep.now c.loop-item.sweep (rest_of c.args.items.now) (rest_of c.args.items.now) c.loop-item.item-index (omega (arith, long)) c.loop-item.invariant.0

pub pass-requires-clause-ready : goal.pass-requires-clause-ready
pass-requires-clause-ready c =
    let items = c.args.items.now in
    let l = c.loop-item in
    let x = c.item-item.result in
    let long = rest_long items in
    rest_first c.args.program.now c.args.layer c.args.proc.now c.args.chosen.now c.args.terms.now l.terms c.args.sweep.now l.sweep (rest_of items) (rest_of items) l.item-index (x.number, x.stmt.now) (omega (arith, long))
    (item_is items l.item-index x c.loop-item-test.true c.item-item.is) l.invariant.0

pub pass-requires-clause-small : goal.pass-requires-clause-small
pass-requires-clause-small c =
    let items = c.args.items.now in
    let l = c.loop-item in
    let x = c.item-item.result in
    let long = rest_long items in
    let ready = rest_first c.args.program.now c.args.layer c.args.proc.now c.args.chosen.now c.args.terms.now l.terms c.args.sweep.now l.sweep (rest_of items) (rest_of items) l.item-index (x.number, x.stmt.now) (omega (arith, long))
    (item_is items l.item-index x c.loop-item-test.true c.item-item.is) l.invariant.0 in
    omega (arith, ends_within c.args.proc.now x.number x.stmt.now ready.stands, c.requires.small)

-- the number fits 32 bits, since the statement stands in the body
pub overflow_cast-item : goal.overflow_cast-item
overflow_cast-item c =
    let items = c.args.items.now in
    let l = c.loop-item in
    let x = c.item-item.result in
    let long = rest_long items in
    let ready = rest_first c.args.program.now c.args.layer c.args.proc.now c.args.chosen.now c.args.terms.now l.terms c.args.sweep.now l.sweep (rest_of items) (rest_of items) l.item-index (x.number, x.stmt.now) (omega (arith, long))
    (item_is items l.item-index x c.loop-item-test.true c.item-item.is) l.invariant.0 in
    omega (arith, ends_within c.args.proc.now x.number x.stmt.now ready.stands, c.requires.small)

pub loop-item-preserved : goal.loop-item-preserved
loop-item-preserved c =
    let items = c.args.items.now in
    let l = c.loop-item in
    let x = c.item-item.result in
    let long = rest_long items in
    let q : ℕ × Stmt = (x.number, x.stmt.now) in
    let at = item_is items l.item-index x c.loop-item-test.true c.item-item.is in (
      rest_step c.args.program.now c.args.layer c.args.proc.now c.args.chosen.now c.args.terms.now l.terms c.pass.new.terms c.args.sweep.now l.sweep c.pass.new.sweep (rest_of items) (rest_of items) l.item-index (x.number, x.stmt.now) (omega (arith, long))
          (item_is items l.item-index x c.loop-item-test.true c.item-item.is) l.invariant.0 c.in_ok-pass.ensures.grows (grows_trans _ _ _ l.invariant.0.grows c.in_ok-pass.ensures.grows) c.len-count.ensures.graph c.in_ok-pass.ensures.passes,
      λ linear.
          rest_spent c.args.program.now c.args.layer c.args.proc.now (rest_of items) l.item-index q l.sweep.onward c.pass.new.sweep.onward _ (graph_weight l.terms) (graph_weight c.pass.new.terms) (omega (arith, long)) at
          (λ o. goes_on c.args.program.now c.args.layer c.args.proc.now c.args.chosen.now l.terms c.pass.new.terms l.sweep c.pass.new.sweep x.stmt.now x.number c.len-count.ensures.graph c.in_ok-pass.ensures.passes o) (l.invariant.1 linear) (c.in_ok-pass.ensures.weighs linear),
    )

pub returns-clause-weighs : goal.returns-clause-weighs
returns-clause-weighs c = λ linear. omega (arith, c.loop-item.invariant.1 linear)
