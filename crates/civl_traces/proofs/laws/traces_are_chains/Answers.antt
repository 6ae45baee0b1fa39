use Rattle.civl_traces.proofs.Turning.{traces_are_chains}
use Rattle.civl_traces.proofs.laws.traces_are_chains.Goals as goal

pub returns : goal.returns
returns c = traces_are_chains
