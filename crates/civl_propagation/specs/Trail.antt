-- The trail of unit propagation with decisions: the literals that were made true, in order. Each was decided, or a clause forced it (its reason). A level begins with each decision, and is named by the place at which it starts. (Marques-Silva and Sakallah, "GRASP: a search algorithm for propositional satisfiability", 1999.)
use Rattle.std.specs.Prelude.{◌≡◌, ◌<◌, ◌≤◌, ◌-◌, ◌++◌, ◌&&◌, ℕ, List, [], ◌∷◌, Bool, IsTrue, All, Contains, length, slice_index_or, slice_set, take, Option, None, Some, nat_lt}
use Rattle.civl_cnf.specs.Literal.{Literal}
use Rattle.civl_units.specs.Propagation.{IsUnit}
use Rattle.civl_units.specs.Marks.{marked, IsQuiet}
use Rattle.civl_propagation.specs.declared.trail.Step.{Step}

-- for each variable the value that it has, or none; for each variable with a value its place among the steps; the steps in order; the places at which levels start
pub record TrailState : Type 0 where
  pub marks : List (Option Bool)
  pub places : List ℕ
  pub steps : List Step
  pub starts : List ℕ

-- the literals that the marks make true, of those variables that pass a test
abbrev pub those : List (Option Bool) → (ℕ → Bool) → ℕ → Bool → Bool
those marks test v b = test v && marked marks v b

-- the literals that were made true before a place
abbrev pub before : List (Option Bool) → List ℕ → ℕ → ℕ → Bool → Bool
before marks places p = those marks (λ v. nat_lt (slice_index_or places v 0) p)

-- a claim on the clause with a number
abbrev pub IsAt : List (List Literal) → ℕ → (List Literal → Type 0) → Type 0
IsAt clauses i P = (i < length clauses) × P (slice_index_or clauses i [])

-- the literal of the step at this place is true, and its variable has this place
pub record IsStep (marks : List (Option Bool)) (places : List ℕ) (i : ℕ) (l : Literal) : Type 0 where
  pub within : l.variable < length marks
  pub mark : slice_index_or marks l.variable None ≡ Some l.positive
  pub place : slice_index_or places l.variable 0 ≡ i

-- a literal was decided, at the start of a level, or it is what a clause forces under the literals before it
abbrev pub ReasonSays : (ℕ → Bool → Bool) → List (List Literal) → List ℕ → ℕ → Literal → Option ℕ → Type 0
ReasonSays set clauses starts i l None = Contains starts i
ReasonSays set clauses starts i l (Some r) = IsAt clauses r (λ c. IsUnit set c l)

-- what holds of a trail over clauses
pub record IsTrail (marks : List (Option Bool)) (places : List ℕ) (steps : List Step) (starts : List ℕ) (clauses : List (List Literal)) : Type 0 where
  pub size : length places ≡ length marks
  -- the literals of the steps are true, and each variable with a value stands at its place
  pub steps_are : (i : ℕ) (d : Step) → i < length steps → IsStep marks places i (slice_index_or steps i d).lit
  pub marks_are : (v : ℕ) (b : Bool) (d : Step) → IsTrue (marked marks v b) → (slice_index_or places v 0 < length steps) × ((slice_index_or steps (slice_index_or places v 0) d).lit.variable ≡ v)
  -- each was decided, or a clause forces it
  pub reasons : (i : ℕ) (d : Step) → i < length steps → ReasonSays (before marks places i) clauses starts i (slice_index_or steps i d).lit (slice_index_or steps i d).reason
  pub rise : (i j : ℕ) → i ≤ j → j < length starts → slice_index_or starts i 0 ≤ slice_index_or starts j 0
  pub low : (k : ℕ) → k < length starts → slice_index_or starts k 0 ≤ length steps
  -- propagation was complete before each decision: below the start of a level no clause forces anything more, and none is falsified
  pub closed : (k : ℕ) → k < length starts → All (IsQuiet (before marks places (slice_index_or starts k 0))) clauses

abbrev pub IsTrailOver : TrailState → List (List Literal) → Type 0
IsTrailOver t clauses = IsTrail t.marks t.places t.steps t.starts clauses

-- these literals were decided, each at the start of its level
pub record AreDecided (t : TrailState) (decisions : List Literal) : Type 0 where
  pub size : length t.starts ≡ length decisions
  pub rise : (i j : ℕ) → i < j → j < length t.starts → slice_index_or t.starts i 0 < slice_index_or t.starts j 0
  pub low : (k : ℕ) → k < length t.starts → slice_index_or t.starts k 0 < length t.steps
  pub each : (k : ℕ) (d : Step) (e : Literal) → k < length decisions → (slice_index_or t.steps (slice_index_or t.starts k 0) d).lit ≡ slice_index_or decisions k e

-- the literal was made true, at the end
pub record IsPushed (old new : TrailState) (l : Literal) (r : Option ℕ) : Type 0 where
  pub marks : new.marks ≡ slice_set old.marks l.variable (Some l.positive)
  pub places : new.places ≡ slice_set old.places l.variable (length old.steps)
  pub steps : new.steps ≡ old.steps ++ record { lit = l; reason = r } ∷ []
  pub starts : new.starts ≡ old.starts

-- a level begins at the end, with this literal
pub record IsDecided (old new : TrailState) (l : Literal) : Type 0 where
  pub marks : new.marks ≡ slice_set old.marks l.variable (Some l.positive)
  pub places : new.places ≡ slice_set old.places l.variable (length old.steps)
  pub steps : new.steps ≡ old.steps ++ record { lit = l; reason = None } ∷ []
  pub starts : new.starts ≡ old.starts ++ length old.steps ∷ []

-- a level began at the end, and what was made true before stays
pub record Deepens (old new : TrailState) : Type 0 where
  pub starts : new.starts ≡ old.starts ++ length old.steps ∷ []
  pub same : (p : ℕ) → p ≤ length old.steps → before new.marks new.places p ≡ before old.marks old.places p

-- the last literal was taken back
pub record IsPopped (old new : TrailState) : Type 0 where
  pub marks : (d : Step) → new.marks ≡ slice_set old.marks (slice_index_or old.steps (length old.steps - 1) d).lit.variable None
  pub places : new.places ≡ old.places
  pub steps : new.steps ≡ take (length old.steps - 1) old.steps
  pub starts : new.starts ≡ old.starts

-- the last start was taken back
pub record IsUnstarted (old new : TrailState) : Type 0 where
  pub marks : new.marks ≡ old.marks
  pub places : new.places ≡ old.places
  pub steps : new.steps ≡ old.steps
  pub starts : new.starts ≡ take (length old.starts - 1) old.starts

abbrev pub IsStanding : TrailState → Type 0
IsStanding t = (clauses : List (List Literal)) × IsTrailOver t clauses

-- The trail was taken back to so many levels: the steps and starts before are as they were, also the literals that were made true, and what held of the trail over clauses still does.
pub record IsCut (old new : TrailState) (levels : ℕ) : Type 0 where
  pub size : length new.marks ≡ length old.marks
  pub starts : new.starts ≡ take levels old.starts
  pub end : length new.steps ≡ slice_index_or old.starts levels 0
  pub steps : (i : ℕ) (d : Step) → i < length new.steps → slice_index_or new.steps i d ≡ slice_index_or old.steps i d
  pub same : (p : ℕ) → p ≤ length new.steps → before new.marks new.places p ≡ before old.marks old.places p
  pub keeps : (clauses : List (List Literal)) → IsTrailOver old clauses → IsTrailOver new clauses
