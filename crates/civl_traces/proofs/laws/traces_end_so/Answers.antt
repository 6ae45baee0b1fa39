use Rattle.civl_traces.proofs.Sound.{traces_end_so}
use Rattle.civl_traces.proofs.laws.traces_end_so.Goals as goal

pub returns : goal.returns
returns c = traces_end_so
