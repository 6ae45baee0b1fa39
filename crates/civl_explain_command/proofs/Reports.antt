-- The report of `civl` stands first, and of a run last.
use Rattle.std.proofs.Common.{◌≡◌, ◌∙◌, List, ℕ, [], sym, append-nil, codes}
use Rattle.civl_meaning.specs.declared.config.Move.{Move}
use Rattle.civl_script.specs.replays.Trace.{trace_of}
use Rattle.civl_frontend.specs.declared.reader.Fault.TheVariants.{NoToken, NotHere, Deep}
use Rattle.civl_lines.specs.Rendered.{lines_text, offset_of}
use Rattle.civl_refusals.specs.Refusals.{expected_text, fault_told, refusal_told}
use Rattle.civl_refusals.specs.Heavy.{heavy_told}
use Rattle.civl_refusals.specs.Scripts.{misfit_told}
use Rattle.civl_explain_command.specs.Laws.{CivlReportsFirst, CivlReportsLast}
use Rattle.civl_explain_command.specs.Outcome.{TooLong, Unread, Broken, Heavy, Judged, Surveyed, Misfit, Ran, Proven, report_of}
use Rattle.civl_explain_command.specs.Runs.{run_lines}
use Rattle.civl_explain_command.specs.Told.{verdict_behind, survey_behind, proving_story}

pub civl_reports_first : CivlReportsFirst
civl_reports_first kind manner input (TooLong most) report behind told = ([], told ∙ sym (append-nil (report_of (TooLong most))))
civl_reports_first kind manner input (Unread (NoToken place)) report behind told = (fault_told manner.form input place (codes "no token begins here"), told)
civl_reports_first kind manner input (Unread (NotHere place)) report behind told =
    (fault_told manner.form input (offset_of input told.0 place) (expected_text told.1), told.4)
civl_reports_first kind manner input (Unread (Deep place)) report behind told =
    (fault_told manner.form input (offset_of input told.0 place) (codes "this opens the 65th bracket"), told.2)
civl_reports_first kind manner input (Broken program refusal) report behind told = (refusal_told manner.form input told.0 program refusal, told.2)
civl_reports_first kind manner input (Heavy program first) report behind told = (heavy_told manner.form input told.0 program first, told.2)
civl_reports_first kind manner input (Judged program budget verdict) report behind told = (verdict_behind manner input told.0 program verdict, told.2)
civl_reports_first kind manner input (Surveyed program budget survey) report behind told = (survey_behind manner input told.0 program survey, told.2)
civl_reports_first kind manner input (Misfit script number) report behind told = (misfit_told manner.form input told.0 script number, told.2)
civl_reports_first kind manner input (Ran script plain store moves) report behind told = absurd behind
civl_reports_first kind manner input (Proven outline budget found) report behind told = (proving_story manner input told.0 outline.program outline found, told.2)

pub civl_reports_last : CivlReportsLast
civl_reports_last kind manner input script plain store moves report told =
    (lines_text manner.form input told.0 (run_lines script plain store moves (trace_of plain store moves)), told.2)
