use Rattle.std.proofs.Common.{Ok, Err}
use Rattle.civl_frontend.specs.Texts.{IsReading}
use Rattle.civl_frontend.proofs.Telling.{found_in}
use Rattle.civl_command.specs.Outcome.{Prints, telling}
use Rattle.civl_command.proofs.judge.print_text.Goals as goal

pub returns-in-Spelled : goal.returns-in-Spelled
returns-in-Spelled c = found_in telling _ _ IsReading Prints c.args.bytes.now (Ok c.in-Spelled.program) c.requires c.in-Spelled.ensures c.print_program.ensures

pub returns-in-Unread : goal.returns-in-Unread
returns-in-Unread c = found_in telling _ _ IsReading Prints c.args.bytes.now (Err c.in-Unread.fault) c.requires c.in-Unread.ensures c.judge_fault.ensures
