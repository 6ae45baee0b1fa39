-- Expressions whose sorts fit have values of their sorts (type soundness).
use Rattle.std.specs.Prelude.{◌≡◌, Some}
use Rattle.civl_tree.specs.declared.name.Name.{Name}
use Rattle.civl_tree.specs.declared.expr.Expr.{Expr}
use Rattle.civl_tree.specs.declared.expr.Sort.{Sort}
use Rattle.civl_tree.specs.rules.Scopes.{Scope as Sorts, sort_in}
use Rattle.civl_tree.specs.rules.Exprs.{IsOfSort}
use Rattle.civl_firing.specs.declared.scope.Scope.{Scope}
use Rattle.civl_firing.specs.Eval.{look, value_of}
use Rattle.civl_firing.specs.values.Values.{HasSort}

-- each name that has a sort has a value of it, and so has each name that may stand in `old(name)`
pub record IsSorted (scope : Scope) (sorts : Sorts) : Type 0 where
  pub names : (name : Name) (sort : Sort) → sort_in sorts.names name ≡ Some sort → HasSort (look scope.names scope.values name) sort
  pub olds : (name : Name) (sort : Sort) → sort_in sorts.olds name ≡ Some sort → HasSort (look scope.names scope.old name) sort

-- in such a scope an expression of a sort, all whose words and rows are in range, has a value of this sort
abbrev pub ValuesHaveTheirSorts : Type 0
ValuesHaveTheirSorts = (scope : Scope) (sorts : Sorts) → IsSorted scope sorts → (e : Expr) (sort : Sort) → IsOfSort sorts e sort → HasSort (value_of scope e) sort
