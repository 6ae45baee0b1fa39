use Rattle.civl_explain_command.proofs.Steps.{at_a_step}
use Rattle.civl_explain_command.proofs.condition.push_path.Goals as goal

pub loss_of-requires-clause-step : goal.loss_of-requires-clause-step
loss_of-requires-clause-step c = at_a_step c.args.told.now.src.now c.args.condition.now c.requires.listed

pub push_path_story-requires-clause-step : goal.push_path_story-requires-clause-step
push_path_story-requires-clause-step c = at_a_step c.args.told.now.src.now c.args.condition.now c.requires.listed
