use Rattle.std.proofs.Common.{Ok, Err}
use Rattle.civl_frontend.specs.Texts.{IsReading}
use Rattle.civl_frontend.proofs.Lawful.{text_numbered}
use Rattle.civl_command.specs.Outcome.{Checks}
use Rattle.civl_explain_command.specs.Outcome.{Explains}
use Rattle.civl_explain_command.proofs.Sizes.{text_short}
use Rattle.civl_explain_command.proofs.Telling.{found_in}
use Rattle.civl_explain_command.proofs.check.check_text.Goals as goal

pub check_program-requires-clause-numbered : goal.check_program-requires-clause-numbered
check_program-requires-clause-numbered g c = text_numbered c.args.input.now.bytes.now c.in-Spelled.program c.in-Spelled.ensures.0 c.requires

pub check_program-requires-clause-short : goal.check_program-requires-clause-short
check_program-requires-clause-short g c = text_short c.args.input.now.bytes.now c.in-Spelled.program c.in-Spelled.ensures.0 c.requires

pub returns-in-Spelled : goal.returns-in-Spelled
returns-in-Spelled g c = found_in _ _ _ c.check_program.result IsReading (Explains (Checks c.args.budget)) (Ok c.in-Spelled.program) c.requires c.in-Spelled.ensures c.check_program.ensures

pub returns-in-Unread : goal.returns-in-Unread
returns-in-Unread g c = found_in _ _ _ c.judge_fault.result IsReading (Explains (Checks c.args.budget)) (Err c.in-Unread.fault) c.requires c.in-Unread.ensures c.judge_fault.ensures
