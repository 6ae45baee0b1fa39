use Rattle.civl_explain_command.proofs.Steps.{at_a_step}
use Rattle.civl_explain_command.proofs.condition.put_story.Goals as goal

pub put_marks-requires-clause-step : goal.put_marks-requires-clause-step
put_marks-requires-clause-step c = at_a_step c.args.told.now.src.now c.args.condition.now c.requires.listed
