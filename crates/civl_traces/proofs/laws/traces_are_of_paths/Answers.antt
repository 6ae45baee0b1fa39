use Rattle.civl_traces.proofs.Sound.{traces_are_of_paths}
use Rattle.civl_traces.proofs.laws.traces_are_of_paths.Goals as goal

pub returns : goal.returns
returns c = traces_are_of_paths
