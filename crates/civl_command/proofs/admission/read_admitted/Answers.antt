use Rattle.std.proofs.Common.{Ok, Err}
use Rattle.civl_frontend.specs.Texts.{IsReading}
use Rattle.civl_frontend.proofs.Telling.{found_in, of_one}
use Rattle.civl_frontend.proofs.Lawful.{text_numbered}
use Rattle.civl_command.specs.Outcome.{Broken, Breaks, telling}
use Rattle.civl_command.proofs.admission.read_admitted.Goals as goal

pub admitted-requires : goal.admitted-requires
admitted-requires c = text_numbered c.args.bytes.now c.in-Spelled.program c.in-Spelled.ensures.0 c.requires

pub returns-in-Err-At-clause-refused : goal.returns-in-Err-At-clause-refused
returns-in-Err-At-clause-refused c =
    found_in telling _ _ IsReading Breaks c.args.bytes.now (Ok c.in-Spelled.program) c.requires c.in-Spelled.ensures
    (of_one telling _ _ (Breaks c.in-Spelled.program) (Broken c.in-Err-At.refusal) (rw c.in-Err-At.field-0-is at c.in-Err-At.ensures.refused) c.refuse.ensures)

pub returns-in-Unread-clause-refused : goal.returns-in-Unread-clause-refused
returns-in-Unread-clause-refused c = found_in telling _ _ IsReading Breaks c.args.bytes.now (Err c.in-Unread.fault) c.requires c.in-Unread.ensures c.judge_fault.ensures
