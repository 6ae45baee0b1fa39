-- Serves private functions: decisions, and propagation from one to the next.
use Rattle.std.specs.Prelude.{◌≡◌, ◌<◌, ℕ, List, Bool, length, slice_index_or, Option, None, Some}
use Rattle.civl_cnf.specs.Literal.{Literal}
use Rattle.civl_units.specs.Propagation.{IsFalsified}
use Rattle.civl_units.specs.Marks.{marked}
use Rattle.civl_units.specs.Trail.{IsOpen}
use Rattle.civl_propagation.specs.Trail.{IsAt}
use Rattle.civl_propagation.specs.Engine.{EngineState, IsEngine, IsAtRest}
use Rattle.civl_propagation.specs.declared.propagation.Ended.{Ended}
use Rattle.civl_propagation.specs.declared.propagation.Ended.TheVariants.{Conflict, Quiet}

-- a literal whose variable has no value, or all variables have one
abbrev pub ChoiceSays : List (Option Bool) → Option Literal → Type 0
ChoiceSays marks None = (v : ℕ) → v < length marks → slice_index_or marks v None ≡ None → ⊥
ChoiceSays marks (Some l) = (l.variable < length marks) × IsOpen marks l

-- decisions and propagation ended: a clause is falsified, or all variables have a value and none is
abbrev pub DescentSays : EngineState → Ended → Type 0
DescentSays e (Conflict r) = IsEngine e × IsAt e.clauses r (IsFalsified (marked e.trail.marks))
DescentSays e Quiet = IsAtRest e × ChoiceSays e.trail.marks None
