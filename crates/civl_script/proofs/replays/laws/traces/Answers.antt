use Rattle.civl_script.proofs.replays.Told.{traces_are_told}
use Rattle.civl_script.proofs.replays.laws.traces.Goals as goal

pub returns : goal.returns
returns c = traces_are_told
