-- Configurations of a program whose linear global holds the permissions that no thread has: it is parted, where the thread
-- has one that the pool hasn't, and is not, where it has one of the pool's.
use Rattle.std.specs.Prelude.{ℕ, ◌≡◌, [], ◌∷◌}
use Rattle.civl_tree.specs.declared.expr.Expr as expr
use Rattle.civl_firing.specs.examples.Written.{word, holding}
use Rattle.civl_meaning.specs.declared.config.State.{State}
use Rattle.civl_meaning.specs.declared.config.State.TheVariants.{Before, Inside}
use Rattle.civl_meaning.specs.declared.config.Config.{Config}
use Rattle.civl_meaning.specs.examples.Pool.{pooled}
use Rattle.civl_reduction.specs.permissions.Owned.{all_permissions, IsParted}

-- the pool is 9, with the permissions 0 and 3; the thread has this one
abbrev pub pool_and : ℕ → State → Config
pool_and permission state = record { store = holding (word 4 9 ∷ []); threads = record { callee = 0; args = word 2 permission ∷ []; state = state } ∷ [] }

-- in the body, before the call that drops the permission, and behind it
abbrev pub inside : ℕ → ℕ → State
inside permission place = Inside [] (record { procedure = 0; place = place; locals = word 2 permission ∷ [] })

abbrev pub PoolAndThread : Type 0
PoolAndThread =
    (all_permissions (pooled expr.True) (pool_and 1 Before) ≡ (0 ∷ 3 ∷ []) ∷ (1 ∷ []) ∷ [])
    × (all_permissions (pooled expr.True) (pool_and 1 (inside 1 0)) ≡ (0 ∷ 3 ∷ []) ∷ (1 ∷ []) ∷ [])
    × (all_permissions (pooled expr.True) (pool_and 1 (inside 1 1)) ≡ (0 ∷ 3 ∷ []) ∷ [])

abbrev pub OneIsParted : Type 0
OneIsParted = IsParted (pooled expr.True) (pool_and 1 (inside 1 0))

abbrev pub ThreeIsNot : Type 0
ThreeIsNot = IsParted (pooled expr.True) (pool_and 3 (inside 3 0)) → ⊥
