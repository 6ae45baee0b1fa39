use Rattle.std.proofs.Common.{Ok, Err}
use Rattle.civl_frontend.specs.Texts.{IsOutlineReading}
use Rattle.civl_command.proofs.Outlining.{outline_numbered, outline_few, outline_written}
use Rattle.civl_explain_command.specs.Outcome.{Outlines}
use Rattle.civl_explain_command.proofs.Sizes.{outline_short, outline_whole}
use Rattle.civl_explain_command.proofs.Telling.{found_in}
use Rattle.civl_explain_command.proofs.prove.prove_text.Goals as goal

pub prove_read-requires-clause-numbered : goal.prove_read-requires-clause-numbered
prove_read-requires-clause-numbered g c = outline_numbered c.args.input.now.bytes.now c.in-Spelled.outline c.in-Spelled.ensures.0 c.requires

pub prove_read-requires-clause-written : goal.prove_read-requires-clause-written
prove_read-requires-clause-written g c = outline_written c.args.input.now.bytes.now c.in-Spelled.outline c.in-Spelled.ensures.0

pub prove_read-requires-clause-short : goal.prove_read-requires-clause-short
prove_read-requires-clause-short g c = outline_short c.args.input.now.bytes.now c.in-Spelled.outline c.in-Spelled.ensures.0 c.requires

pub prove_read-requires-clause-whole : goal.prove_read-requires-clause-whole
prove_read-requires-clause-whole g c = outline_whole c.args.input.now.bytes.now c.in-Spelled.outline c.in-Spelled.ensures.0 c.requires

pub prove_read-requires-clause-few : goal.prove_read-requires-clause-few
prove_read-requires-clause-few g c = outline_few c.args.input.now.bytes.now c.in-Spelled.outline c.in-Spelled.ensures.0 c.requires

pub returns-in-Spelled : goal.returns-in-Spelled
returns-in-Spelled g c = found_in _ _ _ c.prove_read.result IsOutlineReading (Outlines c.args.budget) (Ok c.in-Spelled.outline) c.requires c.in-Spelled.ensures c.prove_read.ensures

pub returns-in-Unread : goal.returns-in-Unread
returns-in-Unread g c = found_in _ _ _ c.judge_fault.result IsOutlineReading (Outlines c.args.budget) (Err c.in-Unread.fault) c.requires c.in-Unread.ensures c.judge_fault.ensures
