-- What lists of terms say, and lists that can be compared.
use Rattle.std.specs.Prelude.{◌≡◌, ℕ, ◌+◌, List, [], ◌∷◌}
use Rattle.civl_bits.specs.declared.value.Value.{Value}
use Rattle.civl_tree.specs.declared.expr.Sort.{Sort}
use Rattle.civl_firing.specs.values.Weights.{bits_in}
use Rattle.civl_terms.specs.declared.node.Node.{Node}
use Rattle.civl_terms.specs.Graphs.{sort_at, Fits}
use Rattle.civl_actions.specs.Scopes.{AreOf}
use Rattle.civl_actions.specs.Actions.{values_at}
use Rattle.civl_states.specs.formula_parts.Said.{Env}

-- terms of these sorts that are these values
pub record AreSaid (ns : List Node) (ids : List ℕ) (sorts : List Sort) (f : Env → List Value) : Type 0 where
  pub sorted : AreOf ns ids sorts
  pub are : (env : Env) → Fits env ns → values_at env ns ids ≡ f env

-- terms of the same sorts, one by one
pub record AreAlike (ns : List Node) (xs ys : List ℕ) : Type 0 where
  pub sorts : List Sort
  pub first : AreOf ns xs sorts
  pub second : AreOf ns ys sorts

-- the bits of these terms
abbrev pub bits_at : List Node → List ℕ → ℕ
bits_at ns [] = 0
bits_at ns (i ∷ is) = bits_in (sort_at ns i) + bits_at ns is
