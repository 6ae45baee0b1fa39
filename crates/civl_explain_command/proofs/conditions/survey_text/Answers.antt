use Rattle.std.proofs.Common.{Ok, Err}
use Rattle.civl_frontend.specs.Texts.{IsReading}
use Rattle.civl_frontend.proofs.Lawful.{text_numbered}
use Rattle.civl_command.specs.Outcome.{Surveys}
use Rattle.civl_explain_command.specs.Outcome.{Explains}
use Rattle.civl_explain_command.proofs.Sizes.{text_short}
use Rattle.civl_explain_command.proofs.Telling.{found_in}
use Rattle.civl_explain_command.proofs.conditions.survey_text.Goals as goal

pub survey_program-requires-clause-numbered : goal.survey_program-requires-clause-numbered
survey_program-requires-clause-numbered g c = text_numbered c.args.input.now.bytes.now c.in-Spelled.program c.in-Spelled.ensures.0 c.requires

pub survey_program-requires-clause-short : goal.survey_program-requires-clause-short
survey_program-requires-clause-short g c = text_short c.args.input.now.bytes.now c.in-Spelled.program c.in-Spelled.ensures.0 c.requires

pub returns-in-Spelled : goal.returns-in-Spelled
returns-in-Spelled g c = found_in _ _ _ c.survey_program.result IsReading (Explains (Surveys c.args.budget)) (Ok c.in-Spelled.program) c.requires c.in-Spelled.ensures c.survey_program.ensures

pub returns-in-Unread : goal.returns-in-Unread
returns-in-Unread g c = found_in _ _ _ c.judge_fault.result IsReading (Explains (Surveys c.args.budget)) (Err c.in-Unread.fault) c.requires c.in-Unread.ensures c.judge_fault.ensures
