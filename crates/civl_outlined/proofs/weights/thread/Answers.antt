use Rattle.civl_weighing.proofs.Capping.{sum_weighs, product_weighs, weighs_same}
use Rattle.civl_outlined.proofs.Totals.{thread_is}
use Rattle.civl_outlined.proofs.weights.thread.Goals as goal

pub returns : goal.returns
returns c =
    let begins = sum_weighs c.plus-begins.ensures c.requires.said.holds c.thread_note.ensures in
    weighs_same (thread_is c.args.sums.now.said.program.now c.args.sums.now.said.outline.now c.args.number)
    (sum_weighs c.plus-3.ensures c.requires.bits (sum_weighs c.plus-2.ensures (sum_weighs c.plus.ensures (product_weighs c.times-twice.ensures c.of.ensures begins) c.requires.initial) c.of-2.ensures))
