-- Serves private functions: where the engine of propagation stands in a replay, and what a replay finds.
use Rattle.std.specs.Prelude.{◌≡◌, ℕ, List, [], Bool, true, false, length, Option, None, Some}
use Rattle.civl_cnf.specs.Literal.{Literal}
use Rattle.civl_cnf.specs.ClauseSet.{ClauseSet}
use Rattle.civl_units.specs.Propagation.{GivesConflict}
use Rattle.civl_propagation.specs.Trail.{AreDecided}
use Rattle.civl_propagation.specs.Engine.{EngineState, IsEngine, IsAtRest}
use Rattle.civl_rup.specs.Rup.{HasRup, Refutes, IsFirstWithoutRup, HasRupAndNoEmpty}
use Rattle.civl_rup.specs.declared.answer.Replay.{Replay}
use Rattle.civl_rup.specs.declared.answer.Replay.TheVariants.{Refutes as Refuting, NotRup, NoEmpty}

-- the engine has these clauses over so many variables, propagation is complete, and nothing was decided
pub record IsAtRoot (e : EngineState) (variables : ℕ) (clauses : List (List Literal)) : Type 0 where
  pub rest : IsAtRest e
  pub has : e.clauses ≡ clauses
  pub size : length e.trail.marks ≡ variables
  pub decided : AreDecided e.trail []

-- what propagation without decisions says of the clauses: they give a conflict by themselves, or the engine has them and is at the root
abbrev pub Stands : EngineState → ℕ → List (List Literal) → Bool → Type 0
Stands e variables clauses true = GivesConflict clauses []
Stands e variables clauses false = IsAtRoot e variables clauses

-- the engine left the root, or is there: these literals were decided, and where none was propagation is complete
pub record IsAbove (e : EngineState) : Type 0 where
  pub engine : IsEngine e
  pub decisions : List Literal
  pub decided : AreDecided e.trail decisions
  pub rest : length e.trail.starts ≡ 0 → IsAtRest e

-- what a clause of a log comes to: it has no reverse unit propagation, or it has and was added
abbrev pub TakeSays : EngineState → ℕ → List (List Literal) → List Literal → List (List Literal) → Option Bool → Type 0
TakeSays e variables clauses clause more None = HasRup variables clauses clause → ⊥
TakeSays e variables clauses clause more (Some refuted) = HasRup variables clauses clause × Stands e variables more refuted

-- what a replay found
abbrev pub ScanSays : ClauseSet → List (List Literal) → Replay → Type 0
ScanSays set log (NotRup i) = IsFirstWithoutRup set log i
ScanSays set log NoEmpty = HasRupAndNoEmpty set log
ScanSays set log Refuting = Refutes set log
