use Rattle.civl_reduction.proofs.blocks.Merged.Merging.{merged_fit, merged_carry, actions_act_as_there}
use Rattle.civl_reduction.proofs.blocks.laws.merged.Goals as goal

pub returns-clause-fit : goal.returns-clause-fit
returns-clause-fit c = merged_fit

pub returns-clause-carry : goal.returns-clause-carry
returns-clause-carry c = merged_carry

pub returns-clause-acts : goal.returns-clause-acts
returns-clause-acts c = actions_act_as_there
