use Rattle.std.specs.Fmt.{digits}
use Rattle.civl_tree.specs.declared.stmt.Stmt.{the_lemmas as of_stmt}
use Rattle.civl_layers.specs.Cuts.{cuts_among}
use Rattle.civl_conditions.specs.Names.{name_text}
use Rattle.civl_condition_laws.proofs.Forms.{inners}
use Rattle.civl_condition_laws.proofs.laws.interfering_names.Goals as goal

pub returns : goal.returns
unfolding digits cuts_among name_text
returns c = simp (inners, of_stmt)
