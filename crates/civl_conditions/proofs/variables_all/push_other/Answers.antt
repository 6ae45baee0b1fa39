use Rattle.civl_conditions.proofs.Behind.{none_behind}
use Rattle.civl_conditions.proofs.variables_all.push_other.Goals as goal

pub returns-in-None : goal.returns-in-None
returns-in-None c =
    rw c.in-Yield.is (none_behind _ c.args.list.now _ c.args.program.now.procs c.in-Yield.number c.as_slice.ensures c.in-None.ensures.lookup.3)
