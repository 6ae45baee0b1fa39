use Rattle.std.proofs.Common.{◌≡◌, [], ◌∷◌, refl, sym, ap, ◌∙◌}
use Rattle.std.proofs.lemmas.Bool.{false≢true}
use Rattle.civl_tree.specs.declared.expr.Expr as expr
use Rattle.civl_linear.proofs.Examples.{examples}
use Rattle.civl_meaning.specs.Permissions.{pairwise_disjoint}
use Rattle.civl_meaning.specs.examples.Pool.{pooled}
use Rattle.civl_reduction.specs.permissions.Owned.{all_permissions}
use Rattle.civl_reduction.specs.permissions.examples.Pool.{pool_and, inside}
use Rattle.civl_reduction.proofs.permissions.laws.examples.pool.Goals as goal

pub returns-clause-items : goal.returns-clause-items
returns-clause-items c = (refl, simp examples, simp examples)

one : all_permissions (pooled expr.True) (pool_and 1 (inside 1 0)) ≡ (0 ∷ 3 ∷ []) ∷ (1 ∷ []) ∷ []
one = simp examples

three : all_permissions (pooled expr.True) (pool_and 3 (inside 3 0)) ≡ (0 ∷ 3 ∷ []) ∷ (3 ∷ []) ∷ []
three = simp examples

pub returns-clause-parted : goal.returns-clause-parted
returns-clause-parted c = ap pairwise_disjoint one

pub returns-clause-not_parted : goal.returns-clause-not_parted
returns-clause-not_parted c = λ h. false≢true (sym (ap pairwise_disjoint three) ∙ h)
