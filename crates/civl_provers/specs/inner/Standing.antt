-- Serves private functions: where the engine of propagation stands in a splitting.
use Rattle.std.specs.Prelude.{◌≡◌, ◌⊎◌, ◌<◌, ℕ, List, [], ◌∷◌, ◌++◌, Bool, true, false, map, length, slice_index_or, IsTrue}
use Rattle.civl_cnf.specs.Literal.{Literal, opposite}
use Rattle.civl_cnf.specs.ClauseSet.{ClauseSet}
use Rattle.civl_units.specs.Propagation.{GivesConflict}
use Rattle.civl_propagation.specs.Trail.{TrailState, before, AreDecided}
use Rattle.civl_propagation.specs.Engine.{EngineState, IsEngine, IsAtRest}
use Rattle.civl_provers.specs.Branch.{IsBranch}

-- each choice is of the last variable that had no value: those behind it were given theirs below its level
abbrev pub AreLast : TrailState → List Literal → Type 0
AreLast t falses =
    (k w : ℕ) (d : Literal) → k < length falses → (slice_index_or falses k d).variable < w → w < length t.marks → (b : Bool) × IsTrue (before t.marks t.places (slice_index_or t.starts k 0) w b)

-- the engine has the clauses of the set, and what was decided is that these literals are false
pub record IsAtBranch (e : EngineState) (set : ClauseSet) (falses : List Literal) : Type 0 where
  pub engine : IsEngine e
  pub clauses : e.clauses ≡ set.clauses
  pub size : length e.trail.marks ≡ set.variables
  pub decided : AreDecided e.trail (map opposite falses)
  pub last : AreLast e.trail falses

-- what propagation found at a branch: it refutes it, and the engine is there or no choice was made, or the engine is there and propagation is complete
abbrev pub LookSays : EngineState → ClauseSet → List Literal → Bool → Type 0
LookSays e set falses true = GivesConflict set.clauses falses × ((falses ≡ []) ⊎ IsAtBranch e set falses)
LookSays e set falses false = IsAtBranch e set falses × IsAtRest e

-- choices were taken back, and the last that is left was turned
pub record Turns (old new : List Literal) : Type 0 where
  pub rest : List Literal
  pub last : Literal
  pub tail : List Literal
  pub was : old ≡ rest ++ last ∷ tail
  pub now : new ≡ rest ++ opposite last ∷ []

-- the engine is at a branch whose choices were taken back, and is to follow
pub record IsTurning (e : EngineState) (set : ClauseSet) (old new : List Literal) : Type 0 where
  pub at : IsAtBranch e set old
  pub turned : Turns old new
  pub branch : IsBranch set new
