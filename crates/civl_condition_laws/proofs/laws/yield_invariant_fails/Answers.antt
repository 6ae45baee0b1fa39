use Rattle.std.proofs.Common.{◌∙◌}
use Rattle.civl_tree.specs.declared.expr.Expr.{the_lemmas as of_expr}
use Rattle.civl_tree.specs.declared.stmt.Stmt.{the_lemmas as of_stmt}
use Rattle.civl_layers.specs.Cuts.{cuts_among}
use Rattle.civl_firing.specs.Fired.{gate_holds, fires, fired}
use Rattle.civl_conditions.specs.declared.condition.Part.TheVariants.{Invariant}
use Rattle.civl_condition_laws.specs.examples.Blocks.{f, b}
use Rattle.civl_condition_laws.proofs.Going.{passes}
use Rattle.civl_condition_laws.proofs.Forms.{inners}
use Rattle.civl_condition_laws.proofs.Yielding.{yield_row, yield_path}
use Rattle.civl_condition_laws.proofs.laws.yield_invariant_fails.Goals as goal

pub returns : goal.returns
unfolding cuts_among gate_holds fires fired
returns c = (yield_row f b f Invariant _ ∙ simp (of_expr, of_stmt, inners, passes, yield_path), (yield_row f b f Invariant _ ∙ simp (of_expr, of_stmt, inners, passes, yield_path), tt))
