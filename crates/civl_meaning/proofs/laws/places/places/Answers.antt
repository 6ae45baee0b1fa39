use Rattle.civl_tree.specs.declared.stmt.Stmt.{the_lemmas as of_stmt}
use Rattle.civl_meaning.proofs.Placing.{inside_is}
use Rattle.civl_meaning.proofs.laws.places.places.Goals as goal

pub returns-clause-count : goal.returns-clause-count
returns-clause-count c = simp (of_stmt)

pub returns-clause-first : goal.returns-clause-first
returns-clause-first c = simp (of_stmt, inside_is)

pub returns-clause-second : goal.returns-clause-second
returns-clause-second c = simp (of_stmt, inside_is)
