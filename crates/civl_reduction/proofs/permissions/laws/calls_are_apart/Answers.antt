use Rattle.civl_reduction.proofs.permissions.Calls.{calls_are_apart, calls_exist}
use Rattle.civl_reduction.proofs.permissions.laws.calls_are_apart.Goals as goal

pub returns-clause-apart : goal.returns-clause-apart
returns-clause-apart c = calls_are_apart

pub returns-clause-exist : goal.returns-clause-exist
returns-clause-exist c = calls_exist
