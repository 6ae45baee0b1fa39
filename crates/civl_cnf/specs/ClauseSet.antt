-- Clause sets: conjunctions of clauses, which are disjunctions of literals (conjunctive normal form).
use Rattle.std.specs.Prelude.{ℕ, ◌<◌, ◌≤◌, ◌^◌, List, Bool, false, IsTrue, All, Any, slice_index_or}
use Rattle.civl_cnf.specs.Literal.{Literal, truth_of}

-- the variables are those below a number
pub record ClauseSet : Type 0 where
  pub variables : ℕ
  pub clauses : List (List Literal)

-- the clause's variables are below a number
abbrev pub IsBelow : ℕ → List Literal → Type 0
IsBelow n clause = All (λ l. l.variable < n) clause

abbrev pub AreBelow : ℕ → List (List Literal) → Type 0
AreBelow n clauses = All (IsBelow n) clauses

-- what holds of each clause set
pub record IsWellFormed (variables : ℕ) (clauses : List (List Literal)) : Type 0 where
  pub few : variables ≤ 2 ^ 31
  pub below : AreBelow variables clauses

-- some literal of the clause is true under the assignment
abbrev pub SatisfiesClause : (ℕ → Bool) → List Literal → Type 0
SatisfiesClause v clause = Any (λ l. IsTrue (truth_of v l)) clause

-- every clause has a true literal under the assignment
abbrev pub Satisfies : (ℕ → Bool) → List (List Literal) → Type 0
Satisfies v clauses = All (SatisfiesClause v) clauses

-- the assignment that a list of bits is, false past its end
abbrev pub assignment : List Bool → ℕ → Bool
assignment bits i = slice_index_or bits i false
