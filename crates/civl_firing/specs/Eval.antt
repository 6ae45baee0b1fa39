-- Part of the claim: docs/CLAIM.md.
-- The value of an expression in a scope, by cases over its form. It is total: a name that isn't there has the value
-- `nothing`.
use Rattle.std.specs.Prelude.{true, false, List, map, slice_index_or}
use Rattle.civl_bits.specs.declared.value.Value.{Value}
use Rattle.civl_bits.specs.declared.value.Value.TheVariants as value
use Rattle.civl_tree.specs.declared.name.Name.{Name}
use Rattle.civl_tree.specs.declared.expr.Expr.{Expr}
use Rattle.civl_tree.specs.declared.expr.Expr.TheFolds.{fold-Expr}
use Rattle.civl_tree.specs.declared.expr.Expr.TheOpen as expr
use Rattle.civl_firing.specs.declared.scope.Scope.{Scope}
use Rattle.civl_firing.specs.Truth.{place_of}
use Rattle.civl_firing.specs.values.Operators.{nothing, literal_value, one_value, two_value, pick_value, get_value, set_value, fill_value, slice_value, widen_value, join_value}

-- the value at the place of a name
abbrev pub look : List Name → List Value → Name → Value
look names values name = slice_index_or values (place_of names name) nothing

-- one layer of an expression, with the value of each part in its place
abbrev pub value_step : Scope → expr.Expr-F Value → Value
value_step scope (expr.Name name) = look scope.names scope.values name
value_step scope (expr.Literal number width) = literal_value number width
value_step scope expr.True = value.Bool true
value_step scope expr.False = value.Bool false
value_step scope expr.Done = value.Bool scope.done
value_step scope (expr.Old name) = look scope.names scope.old name
value_step scope expr.OldDone = value.Bool scope.old_done
value_step scope (expr.One op a) = one_value op a
value_step scope (expr.Two op a b) = two_value op a b
value_step scope (expr.Pick c a b) = pick_value c a b
value_step scope (expr.Get row at) = get_value row at
value_step scope (expr.Set row at cell) = set_value row at cell
value_step scope (expr.Fill index cell) = fill_value index cell
value_step scope (expr.Slice a high low) = slice_value a high low
value_step scope (expr.Widen a width) = widen_value a width
value_step scope (expr.Join a b) = join_value a b

-- the value of an expression
abbrev pub value_of : Scope → Expr → Value
value_of scope = fold-Expr Value (value_step scope)

-- the values of some expressions
abbrev pub values_of : Scope → List Expr → List Value
values_of scope exprs = map (value_of scope) exprs
