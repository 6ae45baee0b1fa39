use Rattle.civl_linear.proofs.Beside.{procs_are_traced}
use Rattle.civl_linear.proofs.laws.procs_are_traced.Goals as goal

pub returns : goal.returns
returns c = procs_are_traced
