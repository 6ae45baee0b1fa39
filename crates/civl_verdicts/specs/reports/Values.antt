-- Lines of values.
use Rattle.std.specs.Prelude.{ℕ, List, [], ◌∷◌, ◌++◌, codes}
use Rattle.civl_bits.specs.declared.value.Value.{Value}
use Rattle.civl_tree.specs.declared.name.Name.{Name}
use Rattle.civl_verdicts.specs.models.Text.{value_text}
use Rattle.civl_conditions.specs.declared.condition.Variable.{Variable}
use Rattle.civl_verdicts.specs.reports.Lines.{line}

-- `name = value`, behind an indentation
abbrev pub value_line : List ℕ → Name → Value → List ℕ
value_line indentation name value = line (indentation ++ name.bytes ++ codes " = " ++ value_text value)

-- what is said of each element of a list and the one beside it in another
abbrev pub beside : {A B : Type 0} → (A → B → List ℕ) → List A → List B → List ℕ
beside text [] ys = []
beside text (x ∷ xs) [] = []
beside text (x ∷ xs) (y ∷ ys) = text x y ++ beside text xs ys

-- a line for each variable, in their order
abbrev pub value_lines : List ℕ → List Variable → List Value → List ℕ
value_lines indentation vs values = beside (λ v. value_line indentation v.name) vs values
