use Rattle.std.proofs.Common.{append-nil, arith}
use Rattle.std.proofs.lemmas.Grind.{common_steps}
use Rattle.civl_marks.proofs.Beside.{marks_here, marks_past}
use Rattle.civl_marks.proofs.texts.put_each.Goals as goal

pub loop-at-preserved : goal.loop-at-preserved
loop-at-preserved c =
    let next = marks_here c.loop-at.lead.now c.args.variables.now c.args.marks.now c.loop-at.at c.get.result.now c.index-marks-at.result (omega arith) (omega arith) c.get.ensures c.index-marks-at.is in
    grind (arith, common_steps, next)

pub returns : goal.returns
returns c =
    let done = marks_past c.loop-at.lead.now c.args.variables.now c.args.marks.now c.loop-at.at (omega arith) in
    grind (arith, common_steps, append-nil, done)
