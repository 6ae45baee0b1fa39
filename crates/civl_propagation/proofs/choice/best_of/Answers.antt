use Rattle.std.proofs.Common.{take}
use Rattle.civl_propagation.proofs.Choosing.{best_more, best_all}
use Rattle.civl_propagation.proofs.choice.best_of.Goals as goal

pub loop-lit-preserved : goal.loop-lit-preserved
loop-lit-preserved c =
    let t = c.args.trail.now in
    let clause = c.args.clause.now in
    let n = c.loop-lit.lit-index in
    best_more t clause n c.lit-item.result c.with_lit-best.result c.loop-lit-test.true c.lit-item.is (c.with_lit-best.ensures t (take n clause) c.rank_of-rank.ensures c.loop-lit.invariant)

pub returns : goal.returns
returns c = best_all c.args.trail.now c.args.clause.now c.loop-lit.lit-index c.loop-lit.best c.loop-lit-test.false c.loop-lit.invariant
