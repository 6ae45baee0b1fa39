-- Runs of unit propagation, and what they decide.
use Rattle.std.specs.Prelude.{◌⊎◌, ◌↔◌, ⊤, ℕ, List, [], ◌∷◌, Bool, not, ◌&&◌, nat_eq, All, Any, Contains, if◌then◌else◌}
use Rattle.std.specs.List.{list_any}
use Rattle.civl_cnf.specs.Literal.{Literal, opposite}
use Rattle.civl_units.specs.Propagation.{Fails, IsUnit, IsClosed, HasConflict, GivesConflict}

-- the set of the literals of a list
abbrev pub set_of : List Literal → ℕ → Bool → Bool
set_of literals variable positive =
    list_any (λ l. nat_eq l.variable variable && (if l.positive then positive else not positive)) literals

-- A run of unit propagation, its last step first: each step makes a literal true, since its opposite was to be false, or since a clause forces it by the steps before.
abbrev pub IsRun : List (List Literal) → List Literal → List Literal → Type 0
IsRun clauses falses [] = ⊤
IsRun clauses falses (l ∷ before) =
    (Contains falses (opposite l) ⊎ Any (λ clause. IsUnit (set_of before) clause l) clauses) × IsRun clauses falses before

-- The run is complete: all these literals are false, and there is a conflict or nothing is left to be forced.
abbrev pub IsComplete : List (List Literal) → List Literal → List Literal → Type 0
IsComplete clauses falses run =
    All (Fails (set_of run)) falses × (HasConflict (set_of run) clauses ⊎ IsClosed (set_of run) clauses)

-- whichever steps a complete run took, it met a conflict exactly where propagation gives one
abbrev pub CompleteRunDecides : Type 0
CompleteRunDecides = (clauses : List (List Literal)) (falses run : List Literal) → IsRun clauses falses run → IsComplete clauses falses run → GivesConflict clauses falses ↔ HasConflict (set_of run) clauses
