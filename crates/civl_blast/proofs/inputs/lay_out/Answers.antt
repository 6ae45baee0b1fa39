use Rattle.std.proofs.Common.{◌+◌, ap, arith}
use Rattle.civl_blast.specs.reach.Marks.{marked}
use Rattle.civl_blast.specs.inner.Steps.{input_bits}
use Rattle.civl_blast.proofs.Weighing.{inputs_next, inputs_few}
use Rattle.civl_blast.proofs.Laying.{takes_plain}
use Rattle.civl_blast.proofs.inputs.lay_out.Goals as goal

pub bits_of_input-count-requires : goal.bits_of_input-count-requires
bits_of_input-count-requires c = λ mark. takes_plain c.loop-at.at c.node-node.result.now c.len-count.ensures.graph c.requires.rowless (c.requires.marking.only c.loop-at.at mark) c.node-node.ensures.is

pub overflow_add-count : goal.overflow_add-count
overflow_add-count c =
    let bits = ap (input_bits (marked c.args.marks.now c.loop-at.at)) c.node-node.ensures.is in
    omega (arith, inputs_next c.args.terms.now c.args.marks.now c.loop-at.at, bits, c.bits_of_input-count.ensures, c.loop-at.invariant.count, inputs_few {n = c.loop-at.at + 1} c.requires.marking (omega arith) c.requires.light)
