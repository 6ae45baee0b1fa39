use Rattle.std.proofs.Common.{Ok}
use Rattle.civl_frontend.specs.Texts.{IsReading}
use Rattle.civl_frontend.proofs.Telling.{found_in, found_more}
use Rattle.civl_command.specs.Outcome.{Breaks, Asks, telling}
use Rattle.civl_command.proofs.Deciding.{breaks_ask}
use Rattle.civl_command.proofs.certificates.make_text.Goals as goal

pub returns-in-Ok : goal.returns-in-Ok
returns-in-Ok g c = found_in telling _ _ IsReading (Asks c.args.at c.args.budget) c.args.bytes.now (Ok c.in-Ok.admitted) c.requires c.in-Ok.ensures.read c.make_admitted.ensures

pub returns-in-Err : goal.returns-in-Err
returns-in-Err g c = found_more telling _ _ IsReading Breaks (Asks c.args.at c.args.budget) c.args.bytes.now (breaks_ask c.args.at c.args.budget) c.in-Err.ensures.refused
