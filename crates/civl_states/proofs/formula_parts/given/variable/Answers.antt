use Rattle.std.proofs.lemmas.Option.{slice_get-get_or}
use Rattle.civl_states.proofs.formula_parts.Giving.{variables_stay}
use Rattle.civl_states.proofs.formula_parts.given.variable.Goals as goal

pub returns-clause-variables : goal.returns-clause-variables
returns-clause-variables c = variables_stay _ _ _ _ _ _ c.requires.variables (slice_get-get_or _ _ _ c.requires.within) c.in_ok-id.ensures.node
