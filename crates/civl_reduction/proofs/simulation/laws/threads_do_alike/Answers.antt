use Rattle.civl_reduction.proofs.simulation.Meets.Meaning.{threads_do_alike}
use Rattle.civl_reduction.proofs.simulation.laws.threads_do_alike.Goals as goal

pub returns : goal.returns
returns c = threads_do_alike
