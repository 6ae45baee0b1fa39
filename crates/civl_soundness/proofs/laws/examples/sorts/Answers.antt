use Rattle.std.proofs.Common.{◌≡◌, true, [], ◌∷◌, subst}
use Rattle.std.proofs.lemmas.Bool.{false≢true}
use Rattle.civl_tree.specs.declared.expr.Expr as expr
use Rattle.civl_tree.specs.declared.expr.Expr.{the_lemmas as of_expr}
use Rattle.civl_tree.specs.declared.stmt.Stmt.{the_lemmas as of_stmt}
use Rattle.civl_firing.specs.Fired.{gate_holds, fires, fired}
use Rattle.civl_meaning.specs.Layers.{lowest}
use Rattle.civl_firing.specs.Stores.{IsStore}
use Rattle.civl_meaning.specs.Step.{step_of}
use Rattle.civl_firing.specs.examples.Written.{bool, holding}
use Rattle.civl_soundness.specs.examples.Putting.{put_true, before, choosing}
use Rattle.civl_soundness.proofs.Before.{before_is_of}
use Rattle.civl_soundness.proofs.laws.examples.sorts.Goals as goal

pub returns-clause-before : goal.returns-clause-before
returns-clause-before c = before_is_of expr.True

put : (step_of (lowest put_true) before (choosing 7)).1.store ≡ holding (bool true ∷ [])
unfolding gate_holds fires fired
put = simp (of_expr, of_stmt)

pub returns-clause-put : goal.returns-clause-put
returns-clause-put c h = let k : IsStore put_true.globals (holding (bool true ∷ [])) = subst (IsStore put_true.globals) put h.store in absurd (false≢true k.are)
