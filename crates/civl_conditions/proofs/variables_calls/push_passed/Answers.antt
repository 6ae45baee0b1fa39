use Rattle.std.proofs.Common.{◌∙◌}
use Rattle.civl_conditions.proofs.Calls.{passed_are}
use Rattle.civl_conditions.proofs.variables_calls.push_passed.Goals as goal

pub returns : goal.returns
returns c =
    c.in_ok-push_numbers.ensures
    ∙ passed_are c.args.list.now c.args.program.now c.args.step _ c.args.proc.now c.args.cut _ _ c.in_ok-met.met c.saturating_sub.ensures c.as_slice.ensures c.in_ok-met.ensures.numbers
    (rw c.as_slice-2.ensures.value c.in_ok-flat.ensures.statements)
