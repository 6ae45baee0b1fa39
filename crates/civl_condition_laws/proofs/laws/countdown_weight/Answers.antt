use Rattle.std.proofs.Common.{◌∙◌, []}
use Rattle.civl_tree.specs.declared.expr.Expr.{the_lemmas as of_expr}
use Rattle.civl_tree.specs.declared.stmt.Stmt.{the_lemmas as of_stmt}
use Rattle.civl_layers.specs.Cuts.{cuts_among}
use Rattle.civl_condition_laws.proofs.Forms.{inners}
use Rattle.civl_tree.specs.declared.expr.Expr as expr
use Rattle.civl_tree.specs.declared.expr.Two.TheVariants.{Sub}
use Rattle.civl_firing.specs.examples.Written.{lit}
use Rattle.civl_firing.proofs.Weighing.{weight_is}
use Rattle.civl_conditions.specs.declared.condition.Part.TheVariants.{Rank}
use Rattle.civl_condition_laws.specs.examples.Countdown.{i, spin, counting}
use Rattle.civl_condition_laws.proofs.Measures.{weight_at}
use Rattle.civl_condition_laws.proofs.Counting.{head, paths, is_head}
use Rattle.civl_condition_laws.proofs.laws.countdown_weight.Goals as goal

pub returns : goal.returns
unfolding cuts_among
returns c = let next = expr.Two Sub i (lit 1 8) in weight_at (counting next) 1 0 1 (spin next) head (paths next) [] (is_head next) Rank ∙ simp (of_expr, of_stmt, inners, weight_is)
