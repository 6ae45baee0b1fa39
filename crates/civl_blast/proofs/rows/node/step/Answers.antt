use Rattle.std.proofs.Common.{rules, ◌≡◌, false}
use Rattle.civl_blast.specs.inner.rows.Expanding.{is_variable}
use Rattle.civl_blast.proofs.rows.Growth.{longer}
use Rattle.civl_blast.proofs.rows.StepCells.{operation_steps}
use Rattle.civl_blast.proofs.rows.node.step.Goals as goal

pub returns-in_ok-ids-in_default : goal.returns-in_ok-ids-in_default
returns-in_ok-ids-in_default c =
    let v : is_variable c.args.node ≡ false = search rules in
    record { grows = longer c.operation.ensures.grows; made = operation_steps _ v c.in_ok-ids-in_default.ensures.made }
