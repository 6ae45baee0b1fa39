-- The words of the command, after the program's name.
use Rattle.std.specs.Prelude.{◌≡◌, ℕ, ◌≤◌, ◌⊎◌, List, [], ◌∷◌, codes, decimal, Option, None, Some}
use Rattle.civl_words.specs.Words.{usual_budget, most_budget}

-- The words ask for lifting, where each search may learn so many clauses: as many as usual where they don't say it, and else a number up
-- to the greatest, in decimal without leading zeros.
abbrev pub AskToLift : ℕ → List (List ℕ) → Type 0
AskToLift budget words =
    ((words ≡ codes "lift" ∷ []) × (budget ≡ usual_budget))
    ⊎ ((words ≡ codes "lift" ∷ codes "--budget" ∷ decimal budget ∷ []) × (budget ≤ most_budget))

-- they ask for it
abbrev pub AskToLiftSome : List (List ℕ) → Type 0
AskToLiftSome words = (budget : ℕ) × AskToLift budget words

-- ---- the parts of this, as the code goes over them

-- with this budget, or for nothing
abbrev pub IsAsked : List (List ℕ) → Option ℕ → Type 0
IsAsked words (Some budget) = AskToLift budget words
IsAsked words None = AskToLiftSome words → ⊥

-- a word writes this number, or none that is a budget
abbrev pub IsBudgetIn : List ℕ → Option ℕ → Type 0
IsBudgetIn word (Some number) = (word ≡ decimal number) × (number ≤ most_budget)
IsBudgetIn word None = (number : ℕ) → word ≡ decimal number → number ≤ most_budget → ⊥
