use Rattle.std.proofs.Common.{◌∙◌, []}
use Rattle.civl_tree.specs.declared.expr.Expr.{the_lemmas as of_expr}
use Rattle.civl_tree.specs.declared.stmt.Stmt.{the_lemmas as of_stmt}
use Rattle.civl_layers.specs.Cuts.{cuts_among}
use Rattle.civl_condition_laws.proofs.Forms.{inners}
use Rattle.civl_firing.specs.Fired.{gate_holds, fires, fired}
use Rattle.civl_conditions.specs.declared.condition.Part.TheVariants.{Rank}
use Rattle.civl_condition_laws.proofs.Going.{passes}
use Rattle.civl_condition_laws.proofs.Facts.{path_at}
use Rattle.civl_tree.specs.declared.expr.Expr as expr
use Rattle.civl_tree.specs.declared.expr.Two.TheVariants.{Sub}
use Rattle.civl_firing.specs.examples.Written.{lit}
use Rattle.civl_condition_laws.specs.examples.Countdown.{i, spin, counting}
use Rattle.civl_condition_laws.proofs.Counting.{head, paths, is_head, head_path}
use Rattle.civl_condition_laws.proofs.laws.countdown_fails.Goals as goal

pub returns : goal.returns
unfolding cuts_among gate_holds fires fired
returns c = (
  (path_at (counting (expr.Two Sub i (lit 1 8))) 1 0 1 (spin (expr.Two Sub i (lit 1 8))) head (paths (expr.Two Sub i (lit 1 8))) [] (is_head (expr.Two Sub i (lit 1 8))) Rank _ ∙ simp (of_expr, of_stmt, inners, passes, head_path), tt),
  (path_at (counting i) 1 0 1 (spin i) head (paths i) [] (is_head i) Rank _ ∙ simp (of_expr, of_stmt, inners, passes, head_path), (path_at (counting i) 1 0 1 (spin i) head (paths i) [] (is_head i) Rank _ ∙ simp (of_expr, of_stmt, inners, passes, head_path), (path_at (counting i) 1 0 1 (spin i) head (paths i) [] (is_head i) Rank _ ∙ simp (of_expr, of_stmt, inners, passes, head_path), (path_at (counting i) 1 0 1 (spin i) head (paths i) [] (is_head i) Rank _ ∙ simp (of_expr, of_stmt, inners, passes, head_path), tt)))),
)
