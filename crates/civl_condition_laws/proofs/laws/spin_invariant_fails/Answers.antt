use Rattle.std.proofs.Common.{◌∙◌}
use Rattle.civl_tree.specs.declared.expr.Expr.{the_lemmas as of_expr}
use Rattle.civl_tree.specs.declared.expr.Expr as expr
use Rattle.civl_tree.specs.declared.stmt.Stmt.{the_lemmas as of_stmt}
use Rattle.civl_layers.specs.Cuts.{cuts_among}
use Rattle.civl_firing.specs.Fired.{gate_holds, fires, fired}
use Rattle.civl_conditions.specs.declared.condition.Part.TheVariants.{Invariant}
use Rattle.civl_condition_laws.specs.examples.Spinning.{less, same_in_the_end}
use Rattle.civl_condition_laws.proofs.Going.{passes}
use Rattle.civl_condition_laws.proofs.Forms.{inners}
use Rattle.civl_condition_laws.proofs.Spinning.{spin_row, spin_path}
use Rattle.civl_condition_laws.proofs.laws.spin_invariant_fails.Goals as goal

pub returns : goal.returns
unfolding cuts_among gate_holds fires fired
returns c = (spin_row same_in_the_end less expr.True Invariant _ ∙ simp (of_expr, of_stmt, inners, passes, spin_path), (spin_row same_in_the_end less expr.True Invariant _ ∙ simp (of_expr, of_stmt, inners, passes, spin_path), (spin_row same_in_the_end less expr.True Invariant _ ∙ simp (of_expr, of_stmt, inners, passes, spin_path), tt)))
