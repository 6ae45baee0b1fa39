use Rattle.civl_traces.proofs.Sound.{passed_stand_in_body}
use Rattle.civl_traces.proofs.laws.passed_stand_in_body.Goals as goal

pub returns : goal.returns
returns c = passed_stand_in_body
