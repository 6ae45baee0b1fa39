use Rattle.std.proofs.Common.{◌≤◌, length, arith}
use Rattle.civl_provers.proofs.Tries.{made_by}
use Rattle.civl_provers.proofs.probe.is_made_true.Goals as goal

pub returns-then-variables-len : goal.returns-then-variables-len
returns-then-variables-len c =
    let variables = c.variables.ensures.is in
    let size = c.len.ensures in
    let enough : c.args.cnf.now.variables ≤ length c.args.bits.now = omega arith in
    made_by c.args.cnf.now c.args.bits.now c.truth.result enough c.truth.ensures
