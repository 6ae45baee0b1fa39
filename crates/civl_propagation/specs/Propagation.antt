-- What propagation makes of the trail.
use Rattle.std.specs.Prelude.{◌≡◌, ◌<◌, ◌≤◌, ◌+◌, ℕ, List, Bool, length, slice_index_or}
use Rattle.civl_cnf.specs.Literal.{Literal}
use Rattle.civl_units.specs.Propagation.{Holds, IsFalsified, IsUnit}
use Rattle.civl_units.specs.Marks.{marked, IsIncluded}
use Rattle.civl_units.specs.Trail.{open_count}
use Rattle.civl_propagation.specs.Trail.{TrailState, before, IsAt, IsTrailOver}
use Rattle.civl_propagation.specs.declared.trail.Step.{Step}
use Rattle.civl_propagation.specs.declared.propagation.Ended.{Ended}
use Rattle.civl_propagation.specs.declared.propagation.Ended.TheVariants.{Conflict, Quiet}

-- what the clause forces under the one set holds in the other, and the one doesn't falsify it
pub record IsServed (small large : ℕ → Bool → Bool) (clause : List Literal) : Type 0 where
  pub forced : (l : Literal) → IsUnit small clause l → Holds large l
  pub quiet : IsFalsified small clause → ⊥

-- the trail grew at its end, if at all
pub record Grows (old new : TrailState) : Type 0 where
  pub size : length new.marks ≡ length old.marks
  pub starts : new.starts ≡ old.starts
  pub total : open_count new.marks + length new.steps ≡ open_count old.marks + length old.steps
  pub longer : length old.steps ≤ length new.steps
  pub steps : (i : ℕ) (d : Step) → i < length old.steps → slice_index_or new.steps i d ≡ slice_index_or old.steps i d
  pub stays : IsIncluded (marked old.marks) (marked new.marks)
  pub same : (p : ℕ) → p ≤ length old.steps → before new.marks new.places p ≡ before old.marks old.places p

-- the trail grew, and is one over the clauses
pub record Goes (old new : TrailState) (clauses : List (List Literal)) : Type 0 where
  pub grows : Grows old new
  pub trail : IsTrailOver new clauses

-- the trail grew, and a clause is falsified
abbrev pub MeetsConflict : TrailState → TrailState → List (List Literal) → ℕ → Type 0
MeetsConflict old new clauses r = Goes old new clauses × IsAt clauses r (IsFalsified (marked new.marks))

-- a clause that was added is looked at: it is falsified, or what was true before has had its effect on it
abbrev pub ServeSays : TrailState → TrailState → List (List Literal) → ℕ → Ended → Type 0
ServeSays old new clauses i (Conflict r) = MeetsConflict old new clauses r
ServeSays old new clauses i Quiet = Goes old new clauses × IsAt clauses i (IsServed (marked old.marks) (marked new.marks))
