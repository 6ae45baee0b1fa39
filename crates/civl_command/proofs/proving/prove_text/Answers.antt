use Rattle.std.proofs.Common.{Ok, Err}
use Rattle.civl_frontend.specs.Texts.{IsOutlineReading}
use Rattle.civl_frontend.proofs.Telling.{found_in}
use Rattle.civl_command.specs.Outcome.{Proves, telling}
use Rattle.civl_command.proofs.Outlining.{outline_numbered, outline_few, outline_written}
use Rattle.civl_command.proofs.proving.prove_text.Goals as goal

pub judge_outline-requires-clause-numbered : goal.judge_outline-requires-clause-numbered
judge_outline-requires-clause-numbered g c = outline_numbered c.args.bytes.now c.in-Spelled.outline c.in-Spelled.ensures.0 c.requires

pub judge_outline-requires-clause-written : goal.judge_outline-requires-clause-written
judge_outline-requires-clause-written g c = outline_written c.args.bytes.now c.in-Spelled.outline c.in-Spelled.ensures.0

pub judge_outline-requires-clause-few : goal.judge_outline-requires-clause-few
judge_outline-requires-clause-few g c = outline_few c.args.bytes.now c.in-Spelled.outline c.in-Spelled.ensures.0 c.requires

pub returns-in-Spelled : goal.returns-in-Spelled
returns-in-Spelled g c = found_in telling _ _ IsOutlineReading (Proves c.args.budget) c.args.bytes.now (Ok c.in-Spelled.outline) c.requires c.in-Spelled.ensures c.judge_outline.ensures

pub returns-in-Unread : goal.returns-in-Unread
returns-in-Unread g c = found_in telling _ _ IsOutlineReading (Proves c.args.budget) c.args.bytes.now (Err c.in-Unread.fault) c.requires c.in-Unread.ensures c.judge_fault.ensures
