use Rattle.civl_tree.specs.declared.stmt.Stmt.{the_lemmas as of_stmt}
use Rattle.civl_weights.proofs.sums.cuts.rank_said.Goals as goal

pub returns-in-RankLoop : goal.returns-in-RankLoop
returns-in-RankLoop c = rw c.in-RankLoop.is (simp of_stmt c.rank_of.ensures)
