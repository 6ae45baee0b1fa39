-- Why an expression isn't true: its innermost parts that aren't, under `&&`, `||` and `=>`.
use Rattle.std.specs.Prelude.{ℕ, ◌+◌, Bool, true, false, if◌then◌else◌, List, [], ◌∷◌, ◌++◌, length}
use Rattle.civl_tree.specs.declared.expr.Two.{Two}
use Rattle.civl_tree.specs.declared.expr.Two.TheVariants.{And, Or, Implies}
use Rattle.civl_tree.specs.declared.expr.Expr.{Expr, roll-Expr, map-Expr}
use Rattle.civl_tree.specs.declared.expr.Expr.TheFolds.{fold-Expr, para-Expr}
use Rattle.civl_tree.specs.declared.expr.Expr.TheOpen as expr
use Rattle.civl_tree.specs.Spelling.{spell_expr}
use Rattle.civl_firing.specs.declared.scope.Scope.{Scope}
use Rattle.civl_firing.specs.Eval.{value_of}
use Rattle.civl_firing.specs.values.Values.{is_true}

-- an expression in a formula, and the token at which it begins in the formula's spelling, counted from 0
pub record Subformula : Type 0 where
  pub token : ℕ
  pub expr : Expr

-- the operators whose sides tell why the whole isn't true: `&&`, `||` and `=>`
abbrev pub joins : Two → Bool
joins And = true
joins Or = true
joins Implies = true
joins _ = false

-- whether an expression is one of these operations
abbrev pub joint_step : expr.Expr-F Bool → Bool
joint_step (expr.Two op a b) = joins op
joint_step _ = false

abbrev pub is_joint : Expr → Bool
is_joint = fold-Expr Bool joint_step

-- of an expression that isn't true and begins at this token: of `a && b`, `a || b` and `a => b` those of each side that
-- isn't true, which in a false `a => b` of bools is b alone; every other expression itself. Each part of the layer
-- stands with what tells those of its own; `(a op b)` has a parenthesis before a, and the operator between a and b.
abbrev pub innermost : Expr → expr.Expr-F (Expr × (ℕ → List Subformula)) → ℕ → List Subformula
innermost whole (expr.Two op a b) at =
    if joins op then a.1 (at + 1) ++ b.1 (at + length (spell_expr a.0) + 2) else record { token = at; expr = whole } ∷ []
innermost whole _ at = record { token = at; expr = whole } ∷ []

-- of any expression: none, where it is true
abbrev pub parts_step : Scope → expr.Expr-F (Expr × (ℕ → List Subformula)) → ℕ → List Subformula
parts_step scope layer at =
    let whole = roll-Expr (map-Expr (Expr × (ℕ → List Subformula)) Expr (λ part. part.0) layer) in
    if is_true (value_of scope whole) then [] else innermost whole layer at

-- the innermost parts of an expression that aren't true in a scope, in the order of the text, where it begins at this
-- token
abbrev pub parts_from : Scope → Expr → ℕ → List Subformula
parts_from scope = para-Expr (ℕ → List Subformula) (parts_step scope)

-- the same of a whole formula
abbrev pub false_parts : Scope → Expr → List Subformula
false_parts scope formula = parts_from scope formula 0
