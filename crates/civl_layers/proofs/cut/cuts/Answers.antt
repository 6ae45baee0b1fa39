use Rattle.std.proofs.Common.{arith}
use Rattle.civl_names.proofs.walks.Placing.{body_fits}
use Rattle.civl_layers.proofs.cut.cuts.Goals as goal

pub push_cuts-requires : goal.push_cuts-requires
push_cuts-requires c =
    let fits = body_fits c.program.result.now c.program.ensures.keeps.numbered c.args.proc_number c.get-proc.result.now c.get-proc.ensures in
    omega (arith, fits)
