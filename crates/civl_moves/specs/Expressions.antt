-- The terms of the expressions of a body: what they say, at terms for its frame and for the store.
use Rattle.std.specs.Prelude.{◌≡◌, ◌≤◌, ℕ, Bool, true, false, ◌||◌, List, Some, map}
use Rattle.civl_tree.specs.declared.expr.Expr.{Expr}
use Rattle.civl_tree.specs.declared.expr.Expr.TheFolds.{fold-Expr}
use Rattle.civl_tree.specs.declared.expr.Expr.TheOpen as expr
use Rattle.civl_tree.specs.declared.expr.Sort.TheVariants.{Bool as Truth}
use Rattle.civl_tree.specs.declared.program.Global.{Global}
use Rattle.civl_tree.specs.declared.program.Proc.{Proc}
use Rattle.civl_tree.specs.declared.program.Program.{Program}
use Rattle.civl_tree.specs.rules.Scopes.{Scope as Sorts, body_scope, note_scope}
use Rattle.civl_tree.specs.rules.Sorts.{sort_of}
use Rattle.civl_firing.specs.values.Values.{is_true}
use Rattle.civl_firing.specs.declared.scope.Scope.{Scope as Meant}
use Rattle.civl_firing.specs.Eval.{value_of}
use Rattle.civl_firing.specs.Scope.{zeros_of_globals, frame_values}
use Rattle.civl_terms.specs.declared.node.Node.{Node}
use Rattle.civl_terms.specs.Graphs.{value_at, sort_at, Fits}
use Rattle.civl_terms.specs.Weights.{graph_weight}
use Rattle.civl_actions.specs.Scopes.{AreOf}
use Rattle.civl_actions.specs.Actions.{values_at, store_at}
use Rattle.civl_conditions.specs.paths.NoteValues.{plain_note_values}
use Rattle.civl_states.specs.formula_parts.Said.{Env, IsTest}

-- one layer of an expression: whether `old(..)` of a name stands there, or in a part
abbrev pub old_step : expr.Expr-F Bool → Bool
old_step (expr.Old name) = true
old_step (expr.One op a) = a
old_step (expr.Two op a b) = a || b
old_step (expr.Pick test a b) = test || (a || b)
old_step (expr.Get row at) = row || at
old_step (expr.Set row at cell) = row || (at || cell)
old_step (expr.Fill index cell) = cell
old_step (expr.Slice a high low) = a
old_step (expr.Widen a width) = a
old_step (expr.Join a b) = a || b
old_step _ = false

-- `old(..)` of a name stands in an expression
abbrev pub has_old : Expr → Bool
has_old = fold-Expr Bool old_step

-- the terms are the zeros of these globals
pub record AreZeros (old new : List Node) (globals : List Global) (ids : List ℕ) : Type 0 where
  pub values : (env : Env) → Fits env new → values_at env new ids ≡ zeros_of_globals globals
  pub sorts : AreOf new ids (map (λ g. g.sort) globals)
  pub weighs : graph_weight new ≤ graph_weight old

-- the term has the expression's value and its sort, where the names stand for these values and have these sorts
pub record IsTermOf (ns : List Node) (sorts : Sorts) (values : Env → Meant) (e : Expr) (id : ℕ) : Type 0 where
  pub is : (env : Env) → Fits env ns → value_at env ns id ≡ value_of (values env) e
  pub sorted : sort_at ns id ≡ sort_of sorts e
  pub test : sort_of sorts e ≡ Some Truth → IsTest ns id (λ env. is_true (value_of (values env) e))

-- an expression of the body, at these terms of the old graph for its frame
abbrev pub IsBodyTerm : List Node → List Node → Program → Proc → List ℕ → Expr → ℕ → Type 0
IsBodyTerm old new program proc locals e id = IsTermOf new (body_scope program proc) (λ env. frame_values program.globals proc (values_at env old locals)) e id

-- the value of an intro, at these for the globals too
abbrev pub IsNoteTerm : List Node → List Node → Program → Proc → List ℕ → List ℕ → Expr → ℕ → Type 0
IsNoteTerm old new program proc globals locals e id =
    IsTermOf new (note_scope program proc) (λ env. plain_note_values program.globals proc (store_at env old globals) (values_at env old locals)) e id
