use Rattle.std.proofs.Common.{append-nil, arith}
use Rattle.std.proofs.lemmas.Grind.{common_steps}
use Rattle.civl_verdicts.proofs.reports.Beside.{beside-drop, beside-past}
use Rattle.civl_explain_command.specs.Stories.{found_story}
use Rattle.civl_explain_command.proofs.conditions.put_all.Goals as goal

pub loop-at-preserved : goal.loop-at-preserved
loop-at-preserved c =
    let written = c.args.written.now in
    let next = beside-drop (found_story written.manner written.text.now.bytes.now written.text.now.tokens.now c.args.told.now.src.now) c.args.list.now c.args.findings.now c.loop-at.at c.get.result.now c.get-in-loop-at.result.now (omega arith) (omega arith) c.get.ensures c.get-in-loop-at.ensures in
    grind (arith, common_steps, next)

pub returns : goal.returns
returns c =
    let written = c.args.written.now in
    let done = beside-past (found_story written.manner written.text.now.bytes.now written.text.now.tokens.now c.args.told.now.src.now) c.args.list.now c.args.findings.now c.loop-at.at (omega arith) in
    grind (arith, common_steps, append-nil, done)
