-- On expressions of names, `true`, `false`, `!`, `&&` and `||` the value of an expression is the truth that it has where
-- its names have the values of bools.
use Rattle.std.specs.Prelude.{◌≡◌, Bool, true, false, ◌&&◌, List, map, IsTrue}
use Rattle.civl_bits.specs.declared.value.Value.TheVariants as value
use Rattle.civl_tree.specs.declared.name.Name.{Name}
use Rattle.civl_tree.specs.declared.expr.One.{One}
use Rattle.civl_tree.specs.declared.expr.One.TheVariants.{Not}
use Rattle.civl_tree.specs.declared.expr.Two.{Two}
use Rattle.civl_tree.specs.declared.expr.Two.TheVariants.{And, Or}
use Rattle.civl_tree.specs.declared.expr.Expr.{Expr}
use Rattle.civl_tree.specs.declared.expr.Expr.TheFolds.{fold-Expr}
use Rattle.civl_tree.specs.declared.expr.Expr.TheOpen as expr
use Rattle.civl_firing.specs.Truth.{truth_of}
use Rattle.civl_firing.specs.Eval.{value_of}
use Rattle.civl_firing.specs.Scope.{present_values}

abbrev pub is_negation : One → Bool
is_negation Not = true
is_negation _ = false

abbrev pub is_and_or : Two → Bool
is_and_or And = true
is_and_or Or = true
is_and_or _ = false

-- one layer of such an expression, with whether each part is one
abbrev pub logical_step : expr.Expr-F Bool → Bool
logical_step (expr.Name name) = true
logical_step expr.True = true
logical_step expr.False = true
logical_step (expr.One op a) = is_negation op && a
logical_step (expr.Two op a b) = is_and_or op && (a && b)
logical_step _ = false

-- an expression of names, `true`, `false`, `!`, `&&` and `||`
abbrev pub is_logical : Expr → Bool
is_logical = fold-Expr Bool logical_step

abbrev pub Agrees : List Name → List Bool → Expr → Type 0
Agrees names store e = IsTrue (is_logical e) → value_of (present_values names (map (λ b. value.Bool b) store)) e ≡ value.Bool (truth_of names store e)

abbrev pub TruthIsValue : Type 0
TruthIsValue = (names : List Name) (store : List Bool) (e : Expr) → Agrees names store e
