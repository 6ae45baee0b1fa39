use Rattle.std.proofs.Common.{◌∙◌, arith, ◌≡◌}
use Rattle.std.specs.Prelude.{max}
use Rattle.civl_blast.proofs.rows.Numbering.{next-more, greater_is}
use Rattle.civl_blast.proofs.rows.numbers.next_number.Goals as goal

pub loop-at-preserved : goal.loop-at-preserved
loop-at-preserved c =
    let e = next-more c.args.terms.now c.loop-at.at c.node.result.now c.node.ensures.is in
    let r = c.requires c.loop-at.at c.node.result.now c.node.ensures.is in
    let m : c.max-next.result ≡ max c.loop-at.next c.number_above.result = c.max-next.ensures ∙ greater_is c.loop-at.next c.number_above.result in
    (omega arith, omega arith)
