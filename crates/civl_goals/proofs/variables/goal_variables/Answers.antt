use Rattle.civl_goals.proofs.Tops.{layers_fit}
use Rattle.civl_goals.proofs.variables.goal_variables.Goals as goal

pub beyond-requires : goal.beyond-requires
beyond-requires c = layers_fit c.program-program.result.now c.program-program.ensures.keeps
