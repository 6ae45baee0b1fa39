-- What a survey of all conditions of a layered program says, under a budget of learned clauses for each.
use Rattle.std.specs.Prelude.{◌≡◌, ℕ, List, [], ◌∷◌, Option, None, Some, ⊤}
use Rattle.civl_tree.specs.declared.program.Program.{Program}
use Rattle.civl_firing.specs.declared.store.Store.{Store}
use Rattle.civl_meaning.specs.Initial.{IsInitial}
use Rattle.civl_cnf.specs.Literal.{Literal}
use Rattle.civl_conditions.specs.declared.condition.Condition.{Condition}
use Rattle.civl_conditions.specs.Listed.{conditions}
use Rattle.civl_conditions.specs.Violated.{Violates, Holds as HoldsOf}
use Rattle.civl_verdicts.specs.declared.survey.Found.{Found}
use Rattle.civl_verdicts.specs.declared.survey.Found.TheVariants.{Holds, Fails, Undecided}
use Rattle.civl_verdicts.specs.declared.survey.Survey.{Survey}
use Rattle.civl_verdicts.specs.declared.survey.Survey.TheVariants.{NoInitial, Findings}
use Rattle.civl_verdicts.specs.Formulas.{initial_formula, violation_formula}
use Rattle.civl_verdicts.specs.Verdicts.{HasInitial, IsSpentOn}

-- the search for an initial store found one, or spent the budget on this log
abbrev pub IsInitialFound : Program → ℕ → Option (List (List Literal)) → Type 0
IsInitialFound program budget None = HasInitial program
IsInitialFound program budget (Some log) = IsSpentOn budget (initial_formula program) log

-- the condition holds; these values violate it; or the log spends the budget on it
abbrev pub IsFound : Program → ℕ → Condition → Found → Type 0
IsFound program budget condition Holds = HoldsOf program condition
IsFound program budget condition (Fails counter) = (counter.condition ≡ condition) × Violates program condition counter.values
IsFound program budget condition (Undecided log) = IsSpentOn budget (violation_formula program condition) log

-- one finding for each condition, in their order
abbrev pub AreFound : Program → ℕ → List Condition → List Found → Type 0
AreFound program budget [] [] = ⊤
AreFound program budget [] (found ∷ others) = ⊥
AreFound program budget (condition ∷ conditions) [] = ⊥
AreFound program budget (condition ∷ conditions) (found ∷ others) = IsFound program budget condition found × AreFound program budget conditions others

abbrev pub IsSurvey : Program → ℕ → Survey → Type 0
IsSurvey program budget NoInitial = (store : Store) → IsInitial program store → ⊥
IsSurvey program budget (Findings initial findings) = IsInitialFound program budget initial × AreFound program budget (conditions program) findings
