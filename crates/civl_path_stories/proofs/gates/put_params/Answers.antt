use Rattle.std.proofs.Common.{append-nil, arith}
use Rattle.std.proofs.lemmas.Grind.{common_steps}
use Rattle.civl_tree.specs.declared.action.Param.{Param}
use Rattle.civl_verdicts.proofs.reports.Beside.{beside-drop, beside-past}
use Rattle.civl_path_stories.specs.Paths.{given_value}
use Rattle.civl_path_stories.proofs.gates.put_params.Goals as goal

pub loop-at-preserved : goal.loop-at-preserved
loop-at-preserved c =
    let next = beside-drop (λ (p : Param). given_value p.name) c.args.params.now c.args.values.now c.loop-at.at c.get.result.now
    c.get-in-loop-at.result.now (omega arith) (omega arith) c.get.ensures c.get-in-loop-at.ensures in
    grind (arith, common_steps, next)

pub returns : goal.returns
returns c =
    let done = beside-past (λ (p : Param). given_value p.name) c.args.params.now c.args.values.now c.loop-at.at (omega arith) in
    grind (arith, common_steps, append-nil, done)
