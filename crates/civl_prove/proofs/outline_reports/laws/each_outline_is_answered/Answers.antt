use Rattle.civl_prove.proofs.outline_reports.Existing as existing
use Rattle.civl_prove.proofs.outline_reports.laws.each_outline_is_answered.Goals as goal

pub returns : goal.returns
returns c = existing.each_outline_is_answered
