-- The engine of unit propagation.
use Rattle.std.specs.Prelude.{◌<◌, ◌≤◌, ◌^◌, ℕ, List, All, length, slice_index_or}
use Rattle.civl_cnf.specs.Literal.{Literal}
use Rattle.civl_cnf.specs.ClauseSet.{AreBelow}
use Rattle.civl_units.specs.Propagation.{IsFalsified}
use Rattle.civl_units.specs.Marks.{marked, IsQuiet}
use Rattle.civl_propagation.specs.Trail.{TrailState, before, IsAt, IsTrailOver}
use Rattle.civl_propagation.specs.Watches.{WatchState, AreWatched, AllKeepUp, KeepUpBelow}
use Rattle.civl_propagation.specs.declared.propagation.Ended.{Ended}
use Rattle.civl_propagation.specs.declared.propagation.Ended.TheVariants.{Conflict, Quiet}

-- the trail, the clauses, and their watched literals
pub record EngineState : Type 0 where
  pub trail : TrailState
  pub clauses : List (List Literal)
  pub watches : WatchState

-- what holds of an engine at all times
pub record IsEngine (e : EngineState) : Type 0 where
  pub few : length e.trail.marks ≤ 2 ^ 31
  pub below : AreBelow (length e.trail.marks) e.clauses
  -- the trail is one over the clauses
  pub trail : IsTrailOver e.trail e.clauses
  -- each clause with two different literals has two of them watched
  pub watched : AreWatched (length e.trail.marks) e.clauses e.watches
  -- where one of the two is false below the start of a level, the other is true there, so after levels were taken back nothing has to be mended
  pub keeps : KeepUpBelow e.trail e.clauses e.watches.pairs

-- propagation is complete: no clause forces anything more, and none is falsified; where one of two watched literals is false, the other is true
pub record IsAtRest (e : EngineState) : Type 0 where
  pub engine : IsEngine e
  pub quiet : All (IsQuiet (marked e.trail.marks)) e.clauses
  pub keeps : AllKeepUp (marked e.trail.marks) (marked e.trail.marks) e.clauses e.watches.pairs

-- below the start of each level the clause forces nothing, and isn't falsified
abbrev pub IsQuietBelow : TrailState → List Literal → Type 0
IsQuietBelow t clause = (k : ℕ) → k < length t.starts → IsQuiet (before t.marks t.places (slice_index_or t.starts k 0)) clause

-- how propagation ended: the clause with this number is falsified, or propagation is complete
abbrev pub EndsBy : EngineState → Ended → Type 0
EndsBy e (Conflict r) = IsEngine e × IsAt e.clauses r (IsFalsified (marked e.trail.marks))
EndsBy e Quiet = IsAtRest e
