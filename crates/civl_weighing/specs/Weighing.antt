-- Weights as the code has them: as far as the limit tells them apart.
use Rattle.std.specs.Prelude.{ℕ, Bool, if◌then◌else◌, ◌≡◌, ◌+◌, ◌-◌, ◌*◌, ◌/◌, min, List, map, slice_index_or as get_or}
use Rattle.civl_tree.specs.declared.program.Program.{Program}
use Rattle.civl_conditions.specs.Weights.{weight_limit, lin, summed}
use Rattle.civl_weighing.specs.declared.weight.Weight.{Weight}

-- the number, or the first above the limit where it is above
unfoldable pub capped : ℕ → ℕ
capped n = min n (weight_limit + 1)

-- this is the number, as far as the limit tells it
pub record Weighs (w : Weight) (n : ℕ) : Type 0 where
  pub is : w.number ≡ capped n

-- these are these numbers, one for each
pub record AreWeights (ws : List Weight) (ns : List ℕ) : Type 0 where
  pub are : map (λ w. w.number) ws ≡ map capped ns

-- ---- operations

pub record IsSum (a b w : Weight) : Type 0 where
  pub is : w.number ≡ capped (a.number + b.number)

pub record IsProduct (a b w : Weight) : Type 0 where
  pub is : w.number ≡ capped (a.number * b.number)

pub record ArePairs (a w : Weight) : Type 0 where
  pub is : w.number ≡ capped (a.number * (a.number - 1) / 2)

-- it is the other where this is so, else nothing
pub record IsWhere (b : Bool) (a w : Weight) : Type 0 where
  pub is : (n : ℕ) → Weighs a n → Weighs w (if b then n else 0)

-- so many linear items weigh this
pub record IsLinear (program : Program) (items w : Weight) : Type 0 where
  pub is : (n : ℕ) → Weighs items n → Weighs w (lin program n)

-- ---- lists

-- whatever numbers these weights are, it is the one at this place, or nothing behind the last
pub record IsAt (ws : List Weight) (at : ℕ) (w : Weight) : Type 0 where
  pub is : (ns : List ℕ) → AreWeights ws ns → Weighs w (get_or ns at 0)

-- it is all of them together
pub record IsTotal (ws : List Weight) (w : Weight) : Type 0 where
  pub is : (ns : List ℕ) → AreWeights ws ns → Weighs w (summed ns)

-- it is those at these places together
pub record AreSummed (ws : List Weight) (places : List ℕ) (w : Weight) : Type 0 where
  pub is : (ns : List ℕ) → AreWeights ws ns → Weighs w (summed (map (λ at. get_or ns at 0) places))
