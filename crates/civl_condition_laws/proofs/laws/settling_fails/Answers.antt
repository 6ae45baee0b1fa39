use Rattle.std.proofs.Common.{◌∙◌, []}
use Rattle.civl_tree.specs.declared.expr.Expr.{the_lemmas as of_expr}
use Rattle.civl_tree.specs.declared.stmt.Stmt.{the_lemmas as of_stmt}
use Rattle.civl_layers.specs.Cuts.{cuts_among}
use Rattle.civl_condition_laws.proofs.Forms.{inners}
use Rattle.civl_firing.specs.Fired.{gate_holds, fires, fired}
use Rattle.civl_conditions.specs.declared.condition.Part.TheVariants.{Rank}
use Rattle.civl_condition_laws.proofs.Going.{passes}
use Rattle.civl_condition_laws.proofs.Facts.{path_at}
use Rattle.civl_condition_laws.specs.examples.Countdown.{settle, settling}
use Rattle.civl_condition_laws.proofs.Counting.{last, last_paths, is_last, last_path}
use Rattle.civl_condition_laws.proofs.laws.settling_fails.Goals as goal

pub returns : goal.returns
unfolding cuts_among gate_holds fires fired
returns c = (path_at settling 1 0 1 settle last last_paths [] is_last Rank _ ∙ simp (of_expr, of_stmt, inners, passes, last_path), (path_at settling 1 0 1 settle last last_paths [] is_last Rank _ ∙ simp (of_expr, of_stmt, inners, passes, last_path), (path_at settling 1 0 1 settle last last_paths [] is_last Rank _ ∙ simp (of_expr, of_stmt, inners, passes, last_path), (path_at settling 1 0 1 settle last last_paths [] is_last Rank _ ∙ simp (of_expr, of_stmt, inners, passes, last_path), tt))))
