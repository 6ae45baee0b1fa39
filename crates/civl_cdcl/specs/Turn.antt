-- The search up to its next conflict.
use Rattle.std.specs.Prelude.{◌≡◌, ◌<◌, ◌≤◌, [], ℕ, List, Bool, true, false, All, length, slice_index_or, Option, None, unwrap_or}
use Rattle.civl_cnf.specs.Literal.{Literal}
use Rattle.civl_units.specs.Marks.{marked, IsQuiet}
use Rattle.civl_propagation.specs.Trail.{IsCut}
use Rattle.civl_propagation.specs.Engine.{EngineState, IsAtRest, IsQuietBelow}
use Rattle.civl_rup.specs.Rup.{HasRup}
use Rattle.civl_cdcl.specs.inner.Propagation.{ChoiceSays}
use Rattle.civl_cdcl.specs.Outcome.{IsLearned}
use Rattle.civl_cdcl.specs.declared.turn.Turn.{Turn}
use Rattle.civl_cdcl.specs.declared.turn.Turn.TheVariants.{Marked, Refuted, Full, Learns}

-- all variables have a value, and no clause is falsified
pub record IsMarked (old new : EngineState) : Type 0 where
  pub size : length new.trail.marks ≡ length old.trail.marks
  pub quiet : All (IsQuiet (marked new.trail.marks)) old.clauses
  pub whole : ChoiceSays new.trail.marks None

-- no clause may be learned, though one can be, and the clauses aren't refuted by propagation
pub record IsFull (may : Bool) (variables : ℕ) (clauses : List (List Literal)) : Type 0 where
  pub limit : may ≡ false
  pub unrefuted : HasRup variables clauses [] → ⊥
  pub clause : List Literal
  pub more : IsLearned variables clauses clause

-- A clause was learned, and levels were taken back, so that it can be added: the engine is at rest, and below the start of each level that stays the clause forces nothing.
pub record IsLearnedBy (may : Bool) (old new : EngineState) (clause : List Literal) : Type 0 where
  pub limit : may ≡ true
  pub size : length new.trail.marks ≡ length old.trail.marks
  pub clauses : new.clauses ≡ old.clauses
  pub learned : IsLearned (length old.trail.marks) old.clauses clause
  pub rest : IsAtRest new
  pub levels : IsQuietBelow new.trail clause

-- levels were taken back, one at least, until there are at most so many
pub record IsBack (old new : EngineState) (levels : ℕ) : Type 0 where
  pub rest : IsAtRest new
  pub clauses : new.clauses ≡ old.clauses
  pub kept : ℕ
  pub few : kept ≤ levels
  pub cut : IsCut old.trail new.trail kept

abbrev pub TurnSays : Bool → EngineState → EngineState → Turn → Type 0
TurnSays may old new Marked = IsMarked old new
TurnSays may old new Refuted = HasRup (length old.trail.marks) old.clauses []
TurnSays may old new Full = IsFull may (length old.trail.marks) old.clauses
TurnSays may old new (Learns clause) = IsLearnedBy may old new clause

-- the bits are the values of the variables, false where there is none
pub record AreBits (marks : List (Option Bool)) (bits : List Bool) : Type 0 where
  pub size : length bits ≡ length marks
  pub value : (v : ℕ) → v < length marks → slice_index_or bits v false ≡ unwrap_or (slice_index_or marks v None) false
