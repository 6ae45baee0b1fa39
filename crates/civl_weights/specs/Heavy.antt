-- What is answered where a formula weighs too much.
use Rattle.std.specs.Prelude.{◌≡◌, nat_lt, Bool, Option, Some, ⊤}
use Rattle.civl_tree.specs.declared.program.Program.{Program}
use Rattle.civl_conditions.specs.declared.condition.Condition.{Condition}
use Rattle.civl_conditions.specs.Weights.{weight_limit, initial_weight}
use Rattle.civl_weights.specs.declared.answer.TooMuch.{TooMuch}
use Rattle.civl_weights.specs.declared.answer.TooMuch.TheVariants.{Weight, Memory}
use Rattle.civl_weights.specs.declared.sums.tables.Tables.{Tables}
use Rattle.civl_weighing.specs.declared.weight.Weight.{Weight as Weighed}
use Rattle.civl_weighing.specs.Weighing.{Weighs}
use Rattle.civl_weights.specs.sums.Tables.{OfProgram}

-- the answer is this formula, which is the first that weighs too much, or memory is wanting
abbrev pub IsHeavy : Option (Option Condition) → TooMuch → Type 0
IsHeavy first (Weight found) = first ≡ Some found
IsHeavy first Memory = ⊤

-- what the search for an initial store weighs
pub record IsInitialWeight (sums : Tables) (w : Weighed) : Type 0 where
  pub is : (program : Program) → OfProgram program sums → Weighs w (initial_weight program)

-- whether the search for an initial store weighs too much
pub record IsInitialHeavy (sums : Tables) (b : Bool) : Type 0 where
  pub is : (program : Program) → OfProgram program sums → b ≡ nat_lt weight_limit (initial_weight program)
