-- Where a group of variables stands among all those of a formula.
use Rattle.std.specs.Prelude.{◌≡◌, ℕ, ◌≤◌, List, ◌++◌, length, drop}
use Rattle.civl_tree.specs.declared.expr.Sort.{Sort}

-- from this number on the variables have these sorts, and then others
pub record StandFrom (sorts : List Sort) (first : ℕ) (group : List Sort) : Type 0 where
  pub rest : List Sort
  pub within : first ≤ length sorts
  pub is : drop first sorts ≡ group ++ rest
