-- The term of a formula: it is true exactly at the values of the formula's variables at which the formula is.
use Rattle.std.specs.Prelude.{◌≡◌, ℕ, Bool, List, map, Some}
use Rattle.civl_bits.specs.declared.value.Value.{Value}
use Rattle.civl_bits.specs.declared.value.Value.TheVariants as value
use Rattle.civl_tree.specs.declared.expr.Sort.{Sort}
use Rattle.civl_tree.specs.declared.expr.Sort.TheVariants.{Bool as Truth}
use Rattle.civl_tree.specs.declared.program.Program.{Program}
use Rattle.civl_firing.specs.values.Values.{HaveSorts}
use Rattle.civl_terms.specs.declared.node.Node.{Node}
use Rattle.civl_terms.specs.Graphs.{value_at, sort_at, listed}
use Rattle.civl_conditions.specs.declared.condition.Condition.{Condition}
use Rattle.civl_conditions.specs.Variables.{variables}
use Rattle.civl_conditions.specs.Violated.{violated}
use Rattle.civl_states.specs.formula_parts.Given.{AreVariablesOf}

-- a bool over variables of these sorts alone, which is this one at all their values
pub record IsFormula (ns : List Node) (id : ℕ) (sorts : List Sort) (truth : List Value → Bool) : Type 0 where
  pub sorted : sort_at ns id ≡ Some Truth
  pub variables : AreVariablesOf ns sorts
  pub is : (values : List Value) → HaveSorts values sorts → value_at (listed values) ns id ≡ value.Bool (truth values)

-- the sorts of a condition's variables
abbrev pub sorts_of : Program → Condition → List Sort
sorts_of program condition = map (λ v. v.sort) (variables program condition)

-- the term of the formula that values violate a condition
abbrev pub IsViolation : List Node → ℕ → Program → Condition → Type 0
IsViolation ns id program condition = IsFormula ns id (sorts_of program condition) (violated program condition)
