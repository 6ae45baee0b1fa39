-- The terms that names stand for, and the terms of expressions over them.
use Rattle.std.specs.Prelude.{◌≡◌, ℕ, ◌+◌, ◌<◌, ◌≤◌, List, length, map, slice_get, Some, IsSome, IsTrue}
use Rattle.civl_tree.specs.declared.name.Name.{Name}
use Rattle.civl_tree.specs.declared.expr.Expr.{Expr}
use Rattle.civl_tree.specs.declared.expr.Sort.{Sort}
use Rattle.civl_tree.specs.declared.expr.Sort.TheVariants.{Bool as Truth}
use Rattle.civl_tree.specs.rules.Scopes.{Scope as Sorts, sort_in}
use Rattle.civl_tree.specs.rules.Sorts.{sort_of}
use Rattle.civl_tree.specs.rules.Exprs.{widths_fit, indices_fit}
use Rattle.civl_bits.specs.declared.value.Value.{Value}
use Rattle.civl_firing.specs.values.Values.{is_true}
use Rattle.civl_firing.specs.values.Weights.{weight_of}
use Rattle.civl_firing.specs.declared.scope.Scope.{Scope as Meant}
use Rattle.civl_firing.specs.Truth.{place_of}
use Rattle.civl_firing.specs.Names.{names_of}
use Rattle.civl_firing.specs.Eval.{value_of}
use Rattle.civl_terms.specs.declared.node.Node.{Node}
use Rattle.civl_terms.specs.Graphs.{value_at, sort_at, Fits}
use Rattle.civl_terms.specs.Weights.{graph_weight}
use Rattle.civl_actions.specs.declared.scope.Scope.{Scope}

-- the names of a scope
abbrev pub names_in : Scope → List Name
names_in scope = names_of scope.names

-- what the names stand for, where env gives the variables their values
abbrev pub meant : (ℕ → Value) → List Node → Scope → Meant
meant env ns scope = record {
  names = names_in scope;
  values = map (value_at env ns) scope.values.now;
  old = map (value_at env ns) scope.old.now;
  done = is_true (value_at env ns scope.done);
  old_done = is_true (value_at env ns scope.old_done);
}

-- a term of this sort stands at this place
abbrev pub StandsAt : List Node → List ℕ → ℕ → Sort → Type 0
StandsAt ns ids place sort = (id : ℕ) × (slice_get ids place ≡ Some id) × (sort_at ns id ≡ Some sort)

-- the scope's terms are nodes of the graph; each name that has a sort stands for a term of it, and so do `old(name)`, `done`
-- and `old(done)`
pub record ScopeFits (ns : List Node) (scope : Scope) (sorts : Sorts) : Type 0 where
  pub values : (place id : ℕ) → slice_get scope.values.now place ≡ Some id → id < length ns
  pub olds_there : (place id : ℕ) → slice_get scope.old.now place ≡ Some id → id < length ns
  pub names : (name : Name) (sort : Sort) → sort_in sorts.names name ≡ Some sort → StandsAt ns scope.values.now (place_of (names_in scope) name) sort
  pub olds : (name : Name) (sort : Sort) → sort_in sorts.olds name ≡ Some sort → StandsAt ns scope.old.now (place_of (names_in scope) name) sort
  pub done : sort_at ns scope.done ≡ Some Truth
  pub old_done : sort_at ns scope.old_done ≡ Some Truth

-- terms of these sorts, one for each
abbrev pub AreOf : List Node → List ℕ → List Sort → Type 0
AreOf ns ids sorts = map (sort_at ns) ids ≡ map (λ (s : Sort). Some s) sorts

-- an expression that has a sort, all whose words and rows are in range
pub record IsTyped (sorts : Sorts) (e : Expr) : Type 0 where
  pub sorted : IsSome (sort_of sorts e)
  pub widths : IsTrue (widths_fit sorts e)
  pub indices : IsTrue (indices_fit e)

-- the expression has a sort, where the names have those of their terms
abbrev pub HasTyping : List Node → Scope → Expr → Type 0
HasTyping ns scope e = (sorts : Sorts) × ScopeFits ns scope sorts × IsTyped sorts e

-- the term of an expression was built: its value is the expression's, its sort too, and the graph's weight rises by at most
-- the expression's
pub record Means (old new : List Node) (scope : Scope) (e : Expr) (id : ℕ) : Type 0 where
  pub within : id < length new
  pub is : (env : ℕ → Value) → Fits env new → value_at env new id ≡ value_of (meant env old scope) e
  pub sorted : (sorts : Sorts) → ScopeFits old scope sorts → IsTyped sorts e → sort_at new id ≡ sort_of sorts e
  pub weighs : (sorts : Sorts) → ScopeFits old scope sorts → IsTyped sorts e → graph_weight new ≤ graph_weight old + weight_of sorts e
