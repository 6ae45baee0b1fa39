use Rattle.civl_annotations.proofs.Running.{can_fail_alike, preserve_alike, safe_alike}
use Rattle.civl_annotations.proofs.laws.mean_alike.Goals as goal

pub returns-clause-failures : goal.returns-clause-failures
returns-clause-failures c = can_fail_alike

pub returns-clause-preserved : goal.returns-clause-preserved
returns-clause-preserved c = preserve_alike

pub returns-clause-safe : goal.returns-clause-safe
returns-clause-safe c = safe_alike
