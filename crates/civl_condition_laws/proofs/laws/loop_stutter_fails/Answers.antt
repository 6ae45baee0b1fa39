use Rattle.std.proofs.Common.{◌∙◌}
use Rattle.civl_tree.specs.declared.expr.Expr.{the_lemmas as of_expr}
use Rattle.civl_tree.specs.declared.expr.Expr as expr
use Rattle.civl_tree.specs.declared.stmt.Stmt.{the_lemmas as of_stmt}
use Rattle.civl_layers.specs.Cuts.{cuts_among}
use Rattle.civl_firing.specs.Fired.{gate_holds, fires, fired}
use Rattle.civl_conditions.specs.declared.condition.Part.TheVariants.{Stutter}
use Rattle.civl_condition_laws.specs.examples.Blocks.{b, idle}
use Rattle.civl_condition_laws.proofs.Going.{passes}
use Rattle.civl_condition_laws.proofs.Forms.{inners}
use Rattle.civl_condition_laws.proofs.Looping.{loop_row, loop_path}
use Rattle.civl_condition_laws.proofs.laws.loop_stutter_fails.Goals as goal

pub returns : goal.returns
unfolding cuts_among gate_holds fires fired
returns c = (loop_row expr.True b expr.True idle Stutter _ ∙ simp (of_expr, of_stmt, inners, passes, loop_path), (loop_row expr.True b expr.True idle Stutter _ ∙ simp (of_expr, of_stmt, inners, passes, loop_path), (loop_row expr.True b expr.True idle Stutter _ ∙ simp (of_expr, of_stmt, inners, passes, loop_path), tt)))
