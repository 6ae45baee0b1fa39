use Rattle.std.proofs.Common.{Ok}
use Rattle.civl_frontend.specs.Texts.{IsReading}
use Rattle.civl_frontend.proofs.Telling.{found_in, found_more}
use Rattle.civl_command.specs.Outcome.{Breaks, Surveys, telling}
use Rattle.civl_command.proofs.Deciding.{breaks_survey}
use Rattle.civl_command.proofs.survey.survey_text.Goals as goal

pub returns-in-Ok : goal.returns-in-Ok
returns-in-Ok g c = found_in telling _ _ IsReading (Surveys c.args.budget) c.args.bytes.now (Ok c.in-Ok.admitted) c.requires c.in-Ok.ensures.read c.survey_admitted.ensures

pub returns-in-Err : goal.returns-in-Err
returns-in-Err g c = found_more telling _ _ IsReading Breaks (Surveys c.args.budget) c.args.bytes.now (breaks_survey c.args.budget) c.in-Err.ensures.refused
