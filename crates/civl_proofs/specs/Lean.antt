-- Lean logs: no clause of them can be left out.
use Rattle.std.specs.Prelude.{◌≡◌, ◌⊎◌, ℕ, ◌<◌, List, [], ◌∷◌, length}
use Rattle.std.specs.List.{remove}
use Rattle.civl_cnf.specs.Literal.{Literal}
use Rattle.civl_cnf.specs.ClauseSet.{ClauseSet}
use Rattle.civl_rup.specs.Rup.{Refutes}

-- A log is lean for a clause set where it refutes it and, without any one of its clauses, doesn't refute it.
pub record IsLean (set : ClauseSet) (log : List (List Literal)) : Type 0 where
  pub refutes : Refutes set log
  pub needed : (place : ℕ) → place < length log → Refutes set (remove log place) → ⊥

-- The one log is the other without some of its clauses: the first clause of the other is left out, or comes first in both.
abbrev pub IsSublist : List (List Literal) → List (List Literal) → Type 0
IsSublist short [] = short ≡ []
IsSublist short (clause ∷ log) = IsSublist short log ⊎ ((rest : List (List Literal)) × (short ≡ clause ∷ rest) × IsSublist rest log)
