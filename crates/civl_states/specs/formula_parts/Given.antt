-- The variables of a formula, which are numbered in the order of its list, and the values that are given to some of them.
use Rattle.std.specs.Prelude.{◌≡◌, ℕ, zero, suc, ◌+◌, List, [], ◌∷◌, ◌++◌, get_or, slice_get, Some}
use Rattle.civl_bits.specs.declared.value.Value.{Value}
use Rattle.civl_tree.specs.declared.expr.Sort.{Sort}
use Rattle.civl_tree.specs.declared.expr.Sort.TheVariants.{Bool as Truth}
use Rattle.civl_tree.specs.rules.StoreSize.{bits_of}
use Rattle.civl_terms.specs.declared.node.Node.{Node}
use Rattle.civl_terms.specs.declared.node.Node.TheVariants.{Variable}
use Rattle.civl_states.specs.formula_parts.Said.{Env}

-- the values of so many variables from this one on
abbrev pub given : Env → ℕ → ℕ → List Value
given env first zero = []
given env first (suc n) = given env first n ++ env (first + n) ∷ []

-- their sorts
abbrev pub sorts_from : List Sort → ℕ → ℕ → List Sort
sorts_from sorts first zero = []
sorts_from sorts first (suc n) = sorts_from sorts first n ++ get_or sorts (first + n) Truth ∷ []

-- the bits of these sorts
abbrev pub bits_of_sorts : List Sort → ℕ
bits_of_sorts [] = 0
bits_of_sorts (s ∷ ss) = bits_of s + bits_of_sorts ss

-- each variable of the graph has the sort that the list has for its number
abbrev pub AreVariablesOf : List Node → List Sort → Type 0
AreVariablesOf ns sorts = (i k : ℕ) (s : Sort) → slice_get ns i ≡ Some (Variable k s) → slice_get sorts k ≡ Some s
