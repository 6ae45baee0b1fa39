use Rattle.civl_traces.proofs.Sound.{traces_are_joined}
use Rattle.civl_traces.proofs.laws.traces_are_joined.Goals as goal

pub returns : goal.returns
returns c = traces_are_joined
