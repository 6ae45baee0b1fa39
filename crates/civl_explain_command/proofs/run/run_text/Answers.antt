use Rattle.std.proofs.Common.{Ok, Err}
use Rattle.civl_frontend.specs.Texts.{IsScriptReading}
use Rattle.civl_frontend.proofs.Lawful.{script_numbered, script_few}
use Rattle.civl_explain_command.specs.Outcome.{Traces}
use Rattle.civl_explain_command.specs.inner.Read.{plain_for}
use Rattle.civl_explain_command.proofs.Sizes.{script_short, script_whole}
use Rattle.civl_explain_command.proofs.Telling.{found_in}
use Rattle.civl_explain_command.proofs.run.run_text.Goals as goal

pub judge_script-requires-clause-numbered : goal.judge_script-requires-clause-numbered
judge_script-requires-clause-numbered c = script_numbered c.args.input.now.bytes.now c.in-Spelled.script c.in-Spelled.ensures.0 c.requires

pub judge_script-requires-clause-few : goal.judge_script-requires-clause-few
judge_script-requires-clause-few c = script_few c.args.input.now.bytes.now c.in-Spelled.script c.in-Spelled.ensures.0 c.requires

pub judge_script-requires-clause-short : goal.judge_script-requires-clause-short
judge_script-requires-clause-short c = script_short c.args.input.now.bytes.now c.in-Spelled.script c.in-Spelled.ensures.0 c.requires

pub returns-in-Spelled : goal.returns-in-Spelled
returns-in-Spelled c = found_in _ _ _ c.judge_script.result IsScriptReading (Traces (plain_for c.args.end)) (Ok c.in-Spelled.script) c.requires c.in-Spelled.ensures c.judge_script.ensures

pub returns-in-Unread : goal.returns-in-Unread
returns-in-Unread c = found_in _ _ _ c.judge_fault.result IsScriptReading (Traces (plain_for c.args.end)) (Err c.in-Unread.fault) c.requires c.in-Unread.ensures c.judge_fault.ensures

pub judge_script-requires-clause-whole : goal.judge_script-requires-clause-whole
judge_script-requires-clause-whole c = script_whole c.args.input.now.bytes.now c.in-Spelled.script c.in-Spelled.ensures.0 c.requires
