use Rattle.civl_reduction.proofs.staged.Chains.Gates.{gates_stay}
use Rattle.civl_reduction.proofs.staged.laws.gates.Goals as goal

pub returns : goal.returns
returns c = gates_stay
