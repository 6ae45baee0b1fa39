use Rattle.civl_meaning.proofs.Failures.{failing_is_answered}
use Rattle.civl_meaning.proofs.laws.failing_is_answered.Goals as goal

pub returns : goal.returns
returns c = failing_is_answered
