use Rattle.civl_explain_command.proofs.Reports.{civl_reports_last as law}
use Rattle.civl_explain_command.proofs.laws.civl_reports_last.Goals as goal

pub returns : goal.returns
returns c = law
