use Rattle.civl_explain_command.proofs.Reports.{civl_reports_first as law}
use Rattle.civl_explain_command.proofs.laws.civl_reports_first.Goals as goal

pub returns : goal.returns
returns c = law
