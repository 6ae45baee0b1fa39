-- For private functions alone: a part of a table is filled.
use Rattle.std.specs.Prelude.{ℕ, ◌≡◌, ◌<◌, ◌≤◌, ◌⊎◌, List, length, Option, if◌then◌else◌}
use Rattle.civl_tree.specs.declared.stmt.Stmt.{Stmt}
use Rattle.civl_meaning.specs.declared.found.Found.{Found}
use Rattle.civl_meaning.specs.Places.{Spot, is_skipped, loop_spot}
use Rattle.civl_meaning.specs.Table.{IsFound, entry}

-- the entries from `low` on and below `high` are what stands there, and all others stay
pub record Filled (old new : List (Option Found)) (low high : ℕ) (there : ℕ → Option Spot) : Type 0 where
  pub long : length new ≡ length old
  pub inside : (place : ℕ) → low ≤ place → place < high → IsFound (entry new place) (there place)
  pub outside : (place : ℕ) → (place < low) ⊎ (high ≤ place) → entry new place ≡ entry old place

-- what stands at the number of a statement
abbrev pub here_spot : Stmt → ℕ → ℕ → Option Spot → Option Spot
here_spot s at next after = if is_skipped s then after else loop_spot s at next
