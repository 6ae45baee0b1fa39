use Rattle.std.proofs.Common.{◌∙◌}
use Rattle.civl_tree.specs.declared.expr.Expr.{the_lemmas as of_expr}
use Rattle.civl_tree.specs.declared.stmt.Stmt.{the_lemmas as of_stmt}
use Rattle.civl_firing.proofs.Weighing.{weight_is}
use Rattle.civl_layers.specs.Cuts.{cuts_among}
use Rattle.civl_condition_laws.proofs.Forms.{inners}
use Rattle.civl_meaning.specs.examples.Spinlock.{spinlock}
use Rattle.civl_layers.specs.Cuts.{entry_cut}
use Rattle.civl_condition_laws.proofs.Measures.{yield_weight_at}
use Rattle.civl_condition_laws.proofs.Locking.{acquire, head, paths, is_head, release, entry_paths, is_entry}
use Rattle.civl_condition_laws.proofs.laws.release_weight.Goals as goal

pub returns : goal.returns
unfolding cuts_among
returns c = yield_weight_at (spinlock 1 2) 1 1 0 0 1 release acquire entry_cut head entry_paths paths _ _ is_entry is_head ∙ simp (of_expr, of_stmt, inners, weight_is)
