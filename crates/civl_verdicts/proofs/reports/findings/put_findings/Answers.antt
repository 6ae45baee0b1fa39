use Rattle.std.proofs.Common.{append-nil, arith}
use Rattle.std.proofs.lemmas.Grind.{common_steps}
use Rattle.civl_verdicts.specs.reports.Findings.{found_lines}
use Rattle.civl_verdicts.proofs.reports.Beside.{beside-drop, beside-past}
use Rattle.civl_verdicts.proofs.reports.findings.put_findings.Goals as goal

pub loop-at-preserved : goal.loop-at-preserved
loop-at-preserved c =
    let next = beside-drop (found_lines c.args.src.now c.args.budget) c.args.conditions.now c.args.findings.now c.loop-at.at c.get.result.now c.get-in-loop-at.result.now (omega arith) (omega arith) c.get.ensures c.get-in-loop-at.ensures in
    grind (arith, common_steps, next)

pub returns : goal.returns
returns c =
    let done = beside-past (found_lines c.args.src.now c.args.budget) c.args.conditions.now c.args.findings.now c.loop-at.at (omega arith) in
    grind (arith, common_steps, append-nil, done)
