use Rattle.std.proofs.Common.{refl}
use Rattle.civl_tree.specs.declared.expr.Expr.{the_lemmas as of_expr}
use Rattle.civl_tree.specs.declared.stmt.Stmt.{the_lemmas as of_stmt}
use Rattle.civl_firing.specs.Fired.{gate_holds, fires, fired}
use Rattle.civl_meaning.specs.Rest.{rest_inside, with_rest, rest_among}
use Rattle.civl_reduction.proofs.blocks.laws.examples.notes.Goals as goal

pub returns-clause-intro : goal.returns-clause-intro
unfolding gate_holds fires fired rest_inside with_rest rest_among
returns-clause-intro c = (
  (simp (of_expr, of_stmt), simp (of_expr, of_stmt), simp (of_expr, of_stmt)),
  (simp (of_expr, of_stmt), simp (of_expr, of_stmt), simp (of_expr, of_stmt)),
  (simp (of_expr, of_stmt), simp (of_expr, of_stmt), simp (of_expr, of_stmt)),
)

pub returns-clause-entry : goal.returns-clause-entry
unfolding gate_holds fires fired rest_inside with_rest rest_among
returns-clause-entry c = (
  (refl, refl, simp (of_expr, of_stmt)),
  (simp (of_expr, of_stmt), simp (of_expr, of_stmt), simp (of_expr, of_stmt)),
)

pub returns-clause-commit : goal.returns-clause-commit
unfolding gate_holds fires fired rest_inside with_rest rest_among
returns-clause-commit c = (
  (simp (of_expr, of_stmt), simp (of_expr, of_stmt), simp (of_expr, of_stmt)),
  (simp (of_expr, of_stmt), simp (of_expr, of_stmt), simp (of_expr, of_stmt)),
  (simp (of_expr, of_stmt), simp (of_expr, of_stmt), simp (of_expr, of_stmt)),
)
