use Rattle.std.proofs.Common.{◌∙◌}
use Rattle.civl_tree.specs.declared.expr.Expr.{the_lemmas as of_expr}
use Rattle.civl_tree.specs.declared.stmt.Stmt.{the_lemmas as of_stmt}
use Rattle.civl_layers.specs.Cuts.{cuts_among, entry_cut}
use Rattle.civl_firing.specs.Fired.{gate_holds, fires, fired}
use Rattle.civl_conditions.specs.paths.Paths.{path_from}
use Rattle.civl_conditions.specs.declared.condition.Part.TheVariants.{Perform}
use Rattle.civl_condition_laws.specs.examples.Spinlock.{adding}
use Rattle.civl_condition_laws.proofs.Going.{passes}
use Rattle.civl_condition_laws.proofs.Forms.{sizes, inners}
use Rattle.civl_condition_laws.proofs.Facts.{path_at}
use Rattle.civl_condition_laws.proofs.Incrementing.{increment, paths, is_entry, sum_row}
use Rattle.civl_condition_laws.proofs.laws.adding_fails.Goals as goal

pub returns : goal.returns
unfolding cuts_among path_from gate_holds fires fired
returns c = (
  (sum_row 2 ∙ simp (of_expr, of_stmt, inners), (path_at (adding 2) 2 4 0 increment entry_cut paths _ (is_entry 2) Perform _ ∙ simp (of_expr, of_stmt, inners, sizes, passes), (path_at (adding 2) 2 4 0 increment entry_cut paths _ (is_entry 2) Perform _ ∙ simp (of_expr, of_stmt, inners, sizes, passes), tt))),
  (sum_row 1 ∙ simp (of_expr, of_stmt, inners), tt),
)
