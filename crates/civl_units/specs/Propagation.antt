-- Unit propagation (Davis and Putnam, "A computing procedure for quantification theory", 1960), by the sets of literals that are closed under it. Each clause is read as the set of its literals, and no order plays a part.
use Rattle.std.specs.Prelude.{◌≡◌, ◌⊎◌, ℕ, List, Bool, IsTrue, All, Any, Contains}
use Rattle.civl_cnf.specs.Literal.{Literal, opposite}

-- A set of literals tells of each variable and each sign whether it holds that literal.
abbrev pub Holds : (ℕ → Bool → Bool) → Literal → Type 0
Holds set l = IsTrue (set l.variable l.positive)

-- the literal is false in the set, which holds its opposite
abbrev pub Fails : (ℕ → Bool → Bool) → Literal → Type 0
Fails set l = Holds set (opposite l)

abbrev pub IsFalsified : (ℕ → Bool → Bool) → List Literal → Type 0
IsFalsified set clause = All (Fails set) clause

-- the literal is in the clause, and all others are false
abbrev pub IsUnit : (ℕ → Bool → Bool) → List Literal → Literal → Type 0
IsUnit set clause l = Contains clause l × All (λ m. (m ≡ l) ⊎ Fails set m) clause

-- the set holds what the clause forces
abbrev pub IsClosedAt : (ℕ → Bool → Bool) → List Literal → Type 0
IsClosedAt set clause = (l : Literal) → IsUnit set clause l → Holds set l

abbrev pub IsClosed : (ℕ → Bool → Bool) → List (List Literal) → Type 0
IsClosed set clauses = All (IsClosedAt set) clauses

-- some clause is falsified
abbrev pub HasConflict : (ℕ → Bool → Bool) → List (List Literal) → Type 0
HasConflict set clauses = Any (IsFalsified set) clauses

-- Making these literals false and propagating units in the clauses gives a conflict: each closed set in which they are false falsifies a clause. (Propagation leads to the least such set, or meets a conflict on its way there.)
abbrev pub GivesConflict : List (List Literal) → List Literal → Type 0
GivesConflict clauses falses =
    (set : ℕ → Bool → Bool) → All (Fails set) falses → IsClosed set clauses → HasConflict set clauses
