use Rattle.civl_tree.specs.declared.expr.Expr.{the_lemmas as of_expr}
use Rattle.civl_tree.specs.declared.stmt.Stmt.{the_lemmas as of_stmt}
use Rattle.civl_firing.specs.Fired.{gate_holds, fires, fired}
use Rattle.civl_meaning.specs.Rest.{rest_inside, with_rest, rest_among}
use Rattle.civl_reduction.proofs.blocks.laws.examples.quiet_blocks.Goals as goal

pub returns-clause-one : goal.returns-clause-one
unfolding gate_holds fires fired rest_inside with_rest rest_among
returns-clause-one c = (
  (simp (of_expr, of_stmt), simp (of_expr, of_stmt), simp (of_expr, of_stmt)),
  (simp (of_expr, of_stmt), simp (of_expr, of_stmt), simp (of_expr, of_stmt)),
)

pub returns-clause-two : goal.returns-clause-two
unfolding gate_holds fires fired rest_inside with_rest rest_among
returns-clause-two c = (
  (simp (of_expr, of_stmt), simp (of_expr, of_stmt), simp (of_expr, of_stmt)),
  (simp (of_expr, of_stmt), simp (of_expr, of_stmt), simp (of_expr, of_stmt)),
  (simp (of_expr, of_stmt), simp (of_expr, of_stmt), simp (of_expr, of_stmt)),
)
