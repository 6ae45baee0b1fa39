-- The conditions of the pool of permissions.
use Rattle.std.specs.Prelude.{◌≡◌, [], ◌∷◌, map, codes}
use Rattle.civl_meaning.specs.examples.Pool.{empty_pool}
use Rattle.civl_conditions.specs.Listed.{conditions}
use Rattle.civl_conditions.specs.Names.{name_text}
use Rattle.civl_conditions.specs.Weights.{weight, initial_weight}

abbrev pub PoolNames : Type 0
PoolNames = map (name_text empty_pool) (conditions empty_pool) ≡ codes "K2 step 1 Drop" ∷ []

-- one linear item weighs 12, and two weigh 2 * 12 + 4 = 28. Initial: the pool 4, `(pool == 0:4)` 4 + 1 + 1, the argument 1, and the
-- pool beside the argument 28. K2: pool and t 4 + 2; gate 1, guard 1, and the update 4 + 1 + 24 + 1 + 2 = 32; coming in 28, going out
-- 12, and 4 for what goes out
abbrev pub PoolWeights : Type 0
PoolWeights = (initial_weight empty_pool ≡ 39) × (map (weight empty_pool) (conditions empty_pool) ≡ 84 ∷ [])
