use Rattle.std.proofs.Common.{◌∙◌}
use Rattle.civl_tree.specs.declared.expr.Expr.{the_lemmas as of_expr}
use Rattle.civl_tree.specs.declared.stmt.Stmt.{the_lemmas as of_stmt}
use Rattle.civl_layers.specs.Cuts.{cuts_among, entry_cut}
use Rattle.civl_firing.specs.Fired.{gate_holds, fires, fired}
use Rattle.civl_conditions.specs.paths.Paths.{path_from}
use Rattle.civl_conditions.specs.declared.condition.Target.TheVariants.{Invariant}
use Rattle.civl_condition_laws.specs.examples.Spinlock.{forgets, forgetful}
use Rattle.civl_condition_laws.proofs.Going.{passes}
use Rattle.civl_condition_laws.proofs.Forms.{sizes, inners}
use Rattle.civl_condition_laws.proofs.Facts.{block_at}
use Rattle.civl_condition_laws.proofs.Locking.{forgetful_paths, is_forgetful}
use Rattle.civl_condition_laws.proofs.laws.forgetful_fails.Goals as goal

pub returns : goal.returns
unfolding cuts_among path_from gate_holds fires fired
returns c = (block_at forgetful 1 1 0 forgets entry_cut forgetful_paths _ is_forgetful (Invariant 0) _ ∙ simp (of_expr, of_stmt, inners, sizes, passes), (block_at forgetful 1 1 0 forgets entry_cut forgetful_paths _ is_forgetful (Invariant 0) _ ∙ simp (of_expr, of_stmt, inners, sizes, passes), (block_at forgetful 1 1 0 forgets entry_cut forgetful_paths _ is_forgetful (Invariant 0) _ ∙ simp (of_expr, of_stmt, inners, sizes, passes), tt)))
