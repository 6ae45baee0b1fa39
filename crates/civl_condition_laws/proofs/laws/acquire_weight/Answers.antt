use Rattle.std.proofs.Common.{◌∙◌}
use Rattle.civl_tree.specs.declared.expr.Expr.{the_lemmas as of_expr}
use Rattle.civl_tree.specs.declared.stmt.Stmt.{the_lemmas as of_stmt}
use Rattle.civl_firing.proofs.Weighing.{weight_is}
use Rattle.civl_layers.specs.Cuts.{cuts_among}
use Rattle.civl_condition_laws.proofs.Forms.{inners}
use Rattle.civl_meaning.specs.examples.Spinlock.{spinlock}
use Rattle.civl_conditions.specs.declared.condition.Part.TheVariants.{Perform}
use Rattle.civl_condition_laws.proofs.Measures.{weight_at}
use Rattle.civl_condition_laws.proofs.Locking.{acquire, head, paths, is_head}
use Rattle.civl_condition_laws.proofs.laws.acquire_weight.Goals as goal

pub returns : goal.returns
unfolding cuts_among
returns c = weight_at (spinlock 1 2) 1 0 1 acquire head paths _ is_head Perform ∙ simp (of_expr, of_stmt, inners, weight_is)
