-- The condition is violated too with all marked values exchanged at once.
use Rattle.std.specs.Prelude.{◌≡◌, true, List, [], ◌∷◌, Option, None, Some}
use Rattle.civl_bits.specs.declared.value.Value.{Value}
use Rattle.civl_tree.specs.declared.program.Program.{Program}
use Rattle.civl_conditions.specs.declared.condition.Condition.{Condition}
use Rattle.civl_conditions.specs.Violated.{violated}
use Rattle.civl_marks.specs.Marks.{marks}

-- the values, with the other ones in the places of those that are marked
abbrev pub exchanged : List Value → List (Option Value) → List Value
exchanged [] ms = []
exchanged (v ∷ vs) [] = v ∷ vs
exchanged (v ∷ vs) (None ∷ ms) = v ∷ exchanged vs ms
exchanged (v ∷ vs) (Some other ∷ ms) = other ∷ exchanged vs ms

abbrev pub StillViolated : Type 0
StillViolated =
    (program : Program) (condition : Condition) (values : List Value) →
    violated program condition values ≡ true → violated program condition (exchanged values (marks program condition values)) ≡ true
