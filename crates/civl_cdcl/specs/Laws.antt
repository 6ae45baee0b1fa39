-- What the outcomes mean together, and on an example.
use Rattle.std.specs.Prelude.{◌<◌, ◌^◌, ℕ, List, [], ◌∷◌, Bool, true, false}
use Rattle.civl_cnf.specs.Literal.{Literal}
use Rattle.civl_cnf.specs.ClauseSet.{ClauseSet}
use Rattle.civl_rup.specs.Rup.{Spends}
use Rattle.civl_cdcl.specs.Outcome.{IsModel, RefutesWithin, SpendsWhole}

-- bits that make the clause set true exclude a log that refutes it
abbrev pub ModelExcludesRefutation : Type 0
ModelExcludesRefutation = (set : ClauseSet) (bits : List Bool) (budget : ℕ) (log : List (List Literal)) → IsModel set bits → RefutesWithin set budget log → ⊥

-- A budget of three to the number of variables is never spent: each learned clause differs, as a set, from all before it.
abbrev pub SpentBudgetIsSmall : Type 0
SpentBudgetIsSmall = (set : ClauseSet) (budget : ℕ) (log : List (List Literal)) → Spends set log budget → budget < 3 ^ set.variables

abbrev pub variable : ℕ → Literal
variable v = record { variable = v; positive = true }

abbrev pub negation : ℕ → Literal
negation v = record { variable = v; positive = false }

-- a or b, and a or not b
abbrev pub half : ClauseSet
half = record { variables = 2; clauses = (variable 0 ∷ variable 1 ∷ []) ∷ (variable 0 ∷ negation 1 ∷ []) ∷ [] }

-- all four clauses over a and b
abbrev pub square : ClauseSet
square = record {
  variables = 2;
  clauses = (variable 0 ∷ variable 1 ∷ []) ∷ (variable 0 ∷ negation 1 ∷ []) ∷ (negation 0 ∷ variable 1 ∷ []) ∷ (negation 0 ∷ negation 1 ∷ []) ∷ [];
}

-- a has to be true in the first
pub record HalfHasModels : Type 0 where
  pub both : IsModel half (true ∷ true ∷ [])
  pub one : IsModel half (true ∷ false ∷ [])
  pub other : IsModel half (false ∷ true ∷ []) → ⊥
  pub short : IsModel half (true ∷ []) → ⊥

-- The second is refuted by the learned clause a and the empty clause, and not by the empty clause alone. With no clause learned the budget 0 is spent, and it isn't where a clause was learned.
pub record SquareIsRefuted : Type 0 where
  pub by_one : RefutesWithin square 1 ((variable 0 ∷ []) ∷ [] ∷ [])
  pub at_once : RefutesWithin square 0 ([] ∷ []) → ⊥
  pub unfinished : RefutesWithin square 1 ((variable 0 ∷ []) ∷ []) → ⊥
  pub spent : SpendsWhole square 0 []
  pub unspent : SpendsWhole square 1 ((variable 0 ∷ []) ∷ []) → ⊥
