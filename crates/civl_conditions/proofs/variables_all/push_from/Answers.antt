use Rattle.std.proofs.Common.{refl}
use Rattle.civl_conditions.specs.Variables.{path_variables}
use Rattle.civl_conditions.proofs.Behind.{none_behind}
use Rattle.civl_conditions.proofs.variables_all.push_from.Goals as goal

pub returns-in-None : goal.returns-in-None
returns-in-None c =
    none_behind (path_variables c.args.program.now c.args.step c.args.proc.now) c.args.list.now c.args.cuts.now c.args.cuts.now c.args.number refl c.in-None.ensures.lookup.3
