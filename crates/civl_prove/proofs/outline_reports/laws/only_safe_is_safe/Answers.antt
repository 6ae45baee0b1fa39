use Rattle.civl_prove.proofs.outline_reports.Beginning as beginning
use Rattle.civl_prove.proofs.outline_reports.laws.only_safe_is_safe.Goals as goal

pub returns : goal.returns
returns c = beginning.only_safe_is_safe
