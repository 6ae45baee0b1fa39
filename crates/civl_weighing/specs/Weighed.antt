-- What is found of an expression in one walk, which `weigh` cites, and how it is found from its parts.
use Rattle.std.specs.Prelude.{ℕ, ◌≡◌}
use Rattle.civl_tree.specs.declared.expr.Expr.{Expr, roll-Expr}
use Rattle.civl_tree.specs.declared.expr.Expr.TheOpen as expr
use Rattle.civl_tree.specs.declared.expr.One.{One}
use Rattle.civl_tree.specs.declared.expr.Two.{Two}
use Rattle.civl_tree.specs.rules.Scopes.{Scope}
use Rattle.civl_tree.specs.rules.Sorts.{sort_of}
use Rattle.civl_firing.specs.values.Weights.{weight_of}
use Rattle.civl_weighing.specs.declared.weight.Weight.{Weight}
use Rattle.civl_weighing.specs.declared.exprs.Weighed.{Weighed}
use Rattle.civl_weighing.specs.Weighing.{Weighs}

-- the own weight of an operation whose operand has so many bits
pub record IsOwn (own : ℕ → ℕ) (bits w : Weight) : Type 0 where
  pub is : (n : ℕ) → Weighs bits n → Weighs w (own n)

-- the sort and the weight of an expression
pub record IsWeighed (scope : Scope) (e : Expr) (found : Weighed) : Type 0 where
  pub sort : found.sort ≡ sort_of scope e
  pub weight : Weighs found.weight (weight_of scope e)

-- ---- operations

pub record OneWeighed (op : One) (part found : Weighed) : Type 0 where
  pub is : (scope : Scope) (a : Expr) → IsWeighed scope a part → IsWeighed scope (roll-Expr (expr.One op a)) found

pub record TwoWeighed (op : Two) (first second found : Weighed) : Type 0 where
  pub is : (scope : Scope) (a b : Expr) → IsWeighed scope a first → IsWeighed scope b second → IsWeighed scope (roll-Expr (expr.Two op a b)) found

pub record PickWeighed (test first second found : Weighed) : Type 0 where
  pub is : (scope : Scope) (t a b : Expr) → IsWeighed scope t test → IsWeighed scope a first → IsWeighed scope b second → IsWeighed scope (roll-Expr (expr.Pick t a b)) found

pub record GetWeighed (row at found : Weighed) : Type 0 where
  pub is : (scope : Scope) (r i : Expr) → IsWeighed scope r row → IsWeighed scope i at → IsWeighed scope (roll-Expr (expr.Get r i)) found

pub record SetWeighed (row at cell found : Weighed) : Type 0 where
  pub is : (scope : Scope) (r i v : Expr) → IsWeighed scope r row → IsWeighed scope i at → IsWeighed scope v cell → IsWeighed scope (roll-Expr (expr.Set r i v)) found

pub record FillWeighed (index : ℕ) (cell found : Weighed) : Type 0 where
  pub is : (scope : Scope) (v : Expr) → IsWeighed scope v cell → IsWeighed scope (roll-Expr (expr.Fill index v)) found

pub record SliceWeighed (word : Weighed) (high low : ℕ) (found : Weighed) : Type 0 where
  pub is : (scope : Scope) (a : Expr) → IsWeighed scope a word → IsWeighed scope (roll-Expr (expr.Slice a high low)) found

pub record WidenWeighed (word : Weighed) (wider : ℕ) (found : Weighed) : Type 0 where
  pub is : (scope : Scope) (a : Expr) → IsWeighed scope a word → IsWeighed scope (roll-Expr (expr.Widen a wider)) found

pub record JoinWeighed (first second found : Weighed) : Type 0 where
  pub is : (scope : Scope) (a b : Expr) → IsWeighed scope a first → IsWeighed scope b second → IsWeighed scope (roll-Expr (expr.Join a b)) found
