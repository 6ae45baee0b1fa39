use Rattle.std.specs.Fmt.{digits}
use Rattle.civl_tree.specs.declared.stmt.Stmt.{the_lemmas as of_stmt}
use Rattle.civl_layers.specs.Cuts.{cuts_among}
use Rattle.civl_conditions.specs.paths.Flows.{flow_from}
use Rattle.civl_conditions.specs.Variables.{variables}
use Rattle.civl_condition_laws.proofs.Going.{flows, froms}
use Rattle.civl_condition_laws.proofs.Forms.{inners, rests}
use Rattle.civl_condition_laws.proofs.laws.entry_variables.Goals as goal

pub returns : goal.returns
unfolding digits cuts_among flow_from variables
returns c = simp (of_stmt, inners, flows, froms, rests)
