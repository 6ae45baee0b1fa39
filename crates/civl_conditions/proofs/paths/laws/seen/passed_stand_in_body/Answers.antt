use Rattle.civl_conditions.proofs.paths.Passed.{passed_stand_in_body}
use Rattle.civl_conditions.proofs.paths.laws.seen.passed_stand_in_body.Goals as goal

pub returns : goal.returns
returns c = passed_stand_in_body
