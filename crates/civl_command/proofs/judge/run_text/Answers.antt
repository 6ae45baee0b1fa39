use Rattle.std.proofs.Common.{Ok, Err}
use Rattle.civl_frontend.specs.Texts.{IsScriptReading}
use Rattle.civl_frontend.proofs.Telling.{found_in}
use Rattle.civl_frontend.proofs.Lawful.{script_numbered, script_few}
use Rattle.civl_command.specs.Outcome.{Runs, telling}
use Rattle.civl_command.specs.inner.Replay.{plain_for}
use Rattle.civl_command.proofs.judge.run_text.Goals as goal

pub judge_script-requires-clause-numbered : goal.judge_script-requires-clause-numbered
judge_script-requires-clause-numbered c = script_numbered c.args.bytes.now c.in-Spelled.script c.in-Spelled.ensures.0 c.requires

pub judge_script-requires-clause-few : goal.judge_script-requires-clause-few
judge_script-requires-clause-few c = script_few c.args.bytes.now c.in-Spelled.script c.in-Spelled.ensures.0 c.requires

pub returns-in-Spelled : goal.returns-in-Spelled
returns-in-Spelled c = found_in telling _ _ IsScriptReading (Runs (plain_for c.args.end)) c.args.bytes.now (Ok c.in-Spelled.script) c.requires c.in-Spelled.ensures c.judge_script.ensures

pub returns-in-Unread : goal.returns-in-Unread
returns-in-Unread c = found_in telling _ _ IsScriptReading (Runs (plain_for c.args.end)) c.args.bytes.now (Err c.in-Unread.fault) c.requires c.in-Unread.ensures c.judge_fault.ensures
