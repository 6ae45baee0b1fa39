use Rattle.std.proofs.Common.{refl}
use Rattle.civl_tree.specs.declared.expr.Expr.{the_lemmas as of_expr}
use Rattle.civl_tree.specs.declared.stmt.Stmt.{the_lemmas as of_stmt}
use Rattle.civl_firing.specs.Fired.{gate_holds, fires, fired}
use Rattle.civl_meaning.specs.Rest.{rest_inside, with_rest, rest_among}
use Rattle.civl_reduction.proofs.blocks.laws.examples.challenges.Goals as goal

pub returns-clause-call : goal.returns-clause-call
unfolding gate_holds fires fired rest_inside with_rest rest_among
returns-clause-call c = (
  (refl, refl, simp (of_expr, of_stmt)),
  (refl, refl, simp (of_expr, of_stmt)),
)

pub returns-clause-block : goal.returns-clause-block
unfolding gate_holds fires fired rest_inside with_rest rest_among
returns-clause-block c = (
  (simp (of_expr, of_stmt), simp (of_expr, of_stmt), simp (of_expr, of_stmt)),
  (simp (of_expr, of_stmt), simp (of_expr, of_stmt), simp (of_expr, of_stmt)),
  (simp (of_expr, of_stmt), simp (of_expr, of_stmt), simp (of_expr, of_stmt)),
  (simp (of_expr, of_stmt), simp (of_expr, of_stmt), simp (of_expr, of_stmt)),
  (simp (of_expr, of_stmt), simp (of_expr, of_stmt), simp (of_expr, of_stmt)),
)

pub returns-clause-shadow : goal.returns-clause-shadow
unfolding gate_holds fires fired rest_inside with_rest rest_among
returns-clause-shadow c = (
  (simp (of_expr, of_stmt), simp (of_expr, of_stmt), simp (of_expr, of_stmt)),
  (simp (of_expr, of_stmt), simp (of_expr, of_stmt), simp (of_expr, of_stmt)),
)
