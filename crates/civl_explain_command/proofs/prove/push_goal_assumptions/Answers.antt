use Rattle.civl_goals.proofs.Tops.{layers_fit}
use Rattle.civl_explain_command.proofs.prove.push_goal_assumptions.Goals as goal

pub beyond-requires : goal.beyond-requires
beyond-requires c = layers_fit c.program-program.result.now c.program-program.ensures.keeps
