use Rattle.std.proofs.Common.{[], append-nil, arith}
use Rattle.std.proofs.lemmas.Grind.{common_steps}
use Rattle.civl_tree.specs.declared.program.Global.{Global}
use Rattle.civl_verdicts.specs.reports.Values.{value_line}
use Rattle.civl_verdicts.proofs.reports.Beside.{beside-drop, beside-past}
use Rattle.civl_explain_command.proofs.running.put_store.Goals as goal

pub loop-at-preserved : goal.loop-at-preserved
loop-at-preserved c =
    let next = beside-drop (λ (g : Global). value_line [] g.name) c.args.globals.now c.args.values.now c.loop-at.at c.get.result.now c.get-in-loop-at.result.now (omega arith) (omega arith) c.get.ensures c.get-in-loop-at.ensures in
    grind (arith, common_steps, next)

pub returns : goal.returns
returns c =
    let done = beside-past (λ (g : Global). value_line [] g.name) c.args.globals.now c.args.values.now c.loop-at.at (omega arith) in
    grind (arith, common_steps, append-nil, done)
