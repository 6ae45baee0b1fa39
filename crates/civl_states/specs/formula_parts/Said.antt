-- What terms say: functions of the values of the variables, which stay true of a term while its graph grows.
use Rattle.std.specs.Prelude.{◌≡◌, ℕ, Bool, List, [], ◌∷◌, Some, ⊤}
use Rattle.std.specs.List.{list_all, list_any}
use Rattle.civl_bits.specs.declared.value.Value.{Value}
use Rattle.civl_bits.specs.declared.value.Value.TheVariants as value
use Rattle.civl_tree.specs.declared.expr.Sort.{Sort}
use Rattle.civl_tree.specs.declared.expr.Sort.TheVariants.{Bool as Truth}
use Rattle.civl_terms.specs.declared.node.Node.{Node}
use Rattle.civl_terms.specs.Graphs.{value_at, sort_at, Fits}

-- values for the variables
abbrev pub Env : Type 0
Env = ℕ → Value

-- a bool that is this one wherever the variables have values of their sorts
pub record IsTest (ns : List Node) (id : ℕ) (f : Env → Bool) : Type 0 where
  pub sorted : sort_at ns id ≡ Some Truth
  pub is : (env : Env) → Fits env ns → value_at env ns id ≡ value.Bool (f env)

-- a term of this sort that is this value
pub record IsSaid (ns : List Node) (id : ℕ) (sort : Sort) (f : Env → Value) : Type 0 where
  pub sorted : sort_at ns id ≡ Some sort
  pub is : (env : Env) → Fits env ns → value_at env ns id ≡ f env

-- bools that are these, one for each
abbrev pub AreTests : List Node → List ℕ → List (Env → Bool) → Type 0
AreTests ns [] [] = ⊤
AreTests ns [] (f ∷ fs) = ⊥
AreTests ns (i ∷ is) [] = ⊥
AreTests ns (i ∷ is) (f ∷ fs) = IsTest ns i f × AreTests ns is fs

-- all of them are true
abbrev pub all_true : List (Env → Bool) → Env → Bool
all_true fs env = list_all (λ f. f env) fs

-- one of them is true
abbrev pub some_true : List (Env → Bool) → Env → Bool
some_true fs env = list_any (λ f. f env) fs
