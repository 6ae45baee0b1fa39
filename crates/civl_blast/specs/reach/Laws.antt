-- What the values of a term's variables tell.
use Rattle.std.specs.Prelude.{◌≡◌, ℕ, List, slice_get, Some}
use Rattle.civl_bits.specs.declared.value.Value.{Value}
use Rattle.civl_tree.specs.declared.expr.Sort.{Sort}
use Rattle.civl_terms.specs.declared.node.Node.{Node}
use Rattle.civl_terms.specs.declared.node.Node.TheVariants.{Variable}
use Rattle.civl_terms.specs.Graphs.{IsGraph, value_at}
use Rattle.civl_blast.specs.reach.Reaching.{Reaches}

-- both give the variables that the term reaches the same values
abbrev pub AgreeOnReached : List Node → ℕ → (ℕ → Value) → (ℕ → Value) → Type 0
AgreeOnReached ns id env other = (i k : ℕ) (s : Sort) → Reaches ns id i → slice_get ns i ≡ Some (Variable k s) → env k ≡ other k

-- a term has one value at values that agree on the variables that it reaches: no other variable tells
abbrev pub ReachedVariablesDecide : Type 0
ReachedVariablesDecide = (ns : List Node) → IsGraph ns → (id : ℕ) (env other : ℕ → Value) → AgreeOnReached ns id env other → value_at env ns id ≡ value_at other ns id
