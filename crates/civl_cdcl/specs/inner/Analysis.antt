-- Serves private functions: what a conflict teaches: resolution along the reasons, down to the first unique implication point (Marques-Silva and Sakallah, "GRASP: a search algorithm for propositional satisfiability", 1999; Zhang and others, "Efficient conflict driven learning in a Boolean satisfiability solver", 2001), without what follows from the rest (Sorensson and Biere, "Minimizing learned clauses", 2009).
use Rattle.std.specs.Prelude.{◌≡◌, ◌≢◌, ◌⊎◌, ◌<◌, ◌≤◌, ◌+◌, ◌++◌, ◌∷◌, [], ◌&&◌, ℕ, List, Bool, false, not, IsTrue, All, length, slice_index_or, Option, None, Some}
use Rattle.civl_cnf.specs.Literal.{Literal, opposite}
use Rattle.civl_cnf.specs.ClauseSet.{IsBelow}
use Rattle.civl_units.specs.Propagation.{Holds, Fails, IsClosed, HasConflict}
use Rattle.civl_rup.specs.Rup.{HasEachOnce}
use Rattle.civl_units.specs.Marks.{marked, IsQuiet, IsIncluded}
use Rattle.civl_propagation.specs.Trail.{TrailState, before}
use Rattle.civl_propagation.specs.declared.trail.Step.{Step}
use Rattle.civl_cdcl.specs.Outcome.{IsLearned}

abbrev pub sees : List Bool → ℕ → Bool
sees seen v = slice_index_or seen v false

-- the literals that were made true before a place, of the variables that are seen
abbrev pub seen_before : List (Option Bool) → List ℕ → List Bool → ℕ → ℕ → Bool → Bool
seen_before marks places seen p v b = sees seen v && before marks places p v b

-- a literal of the clause has this variable
abbrev pub HasVariable : List Literal → ℕ → Type 0
HasVariable clause v = (k : ℕ) × (k < length clause) × ((d : Literal) → (slice_index_or clause k d).variable ≡ v)

-- the variables that are seen are listed, each once
pub record AreFound (seen : List Bool) (found : List ℕ) : Type 0 where
  pub once : (i j : ℕ) → i < j → j < length found → slice_index_or found i 0 ≢ slice_index_or found j 0
  pub only : (k : ℕ) → k < length found → IsTrue (sees seen (slice_index_or found k 0))
  pub every : (v : ℕ) → IsTrue (sees seen v) → (k : ℕ) × (k < length found) × (slice_index_or found k 0 ≡ v)

-- a variable is seen as well, unless it got its value before a place
pub record SeesOne (place root : ℕ) (old new : List Bool) (v : ℕ) : Type 0 where
  pub size : length new ≡ length old
  pub keeps : (u : ℕ) → IsTrue (sees old u) → IsTrue (sees new u)
  pub here : (place < root) ⊎ IsTrue (sees new v)
  pub only : (u : ℕ) → IsTrue (sees new u) → IsTrue (sees old u) ⊎ (v ≡ u)

-- the variables of a clause are seen as well, unless they got their values before a place
pub record Sees (places : List ℕ) (root : ℕ) (old new : List Bool) (clause : List Literal) : Type 0 where
  pub size : length new ≡ length old
  pub keeps : (v : ℕ) → IsTrue (sees old v) → IsTrue (sees new v)
  pub every : (k : ℕ) (d : Literal) → k < length clause → (slice_index_or places (slice_index_or clause k d).variable 0 < root) ⊎ IsTrue (sees new (slice_index_or clause k d).variable)
  pub only : (v : ℕ) → IsTrue (sees new v) → IsTrue (sees old v) ⊎ HasVariable clause v

-- each closed set that has what is seen and was made true before a place falsifies a clause
pub record Analyses (marks : List (Option Bool)) (places : List ℕ) (clauses : List (List Literal)) (at : ℕ) (seen : List Bool) : Type 0 where
  pub size : length seen ≡ length marks
  pub conflict : (set : ℕ → Bool → Bool) → IsIncluded (seen_before marks places seen at) set → IsClosed set clauses → HasConflict set clauses

-- each closed set that has one literal of the level, and what is seen and was made true before it, falsifies a clause
pub record HasOne (marks : List (Option Bool)) (places : List ℕ) (clauses : List (List Literal)) (start : ℕ) (one : Literal) (seen : List Bool) : Type 0 where
  pub size : length seen ≡ length marks
  pub held : Holds (marked marks) one
  pub within : one.variable < length marks
  pub level : start ≤ slice_index_or places one.variable 0
  pub conflict : (set : ℕ → Bool → Bool) → IsIncluded (seen_before marks places seen start) set → Holds set one → IsClosed set clauses → HasConflict set clauses

-- none of the steps from one place to another is seen
abbrev pub IsUnseen : List Step → List Bool → ℕ → ℕ → Type 0
IsUnseen steps seen from to = (k : ℕ) (d : Step) → from ≤ k → k < to → IsTrue (sees seen (slice_index_or steps k d).lit.variable) → ⊥

-- each variable of the clause but one is seen, or got its value before a place
abbrev pub AreSeen : List ℕ → ℕ → List Bool → ℕ → List Literal → Type 0
AreSeen places root seen besides clause =
    (k : ℕ) (d : Literal) → k < length clause → let v = (slice_index_or clause k d).variable in (v ≡ besides) ⊎ (slice_index_or places v 0 < root) ⊎ IsTrue (sees seen v)

-- each closed set that has what is seen and was made true before this variable's literal has that literal
abbrev pub Follows : List (Option Bool) → List ℕ → List (List Literal) → List Bool → ℕ → Type 0
Follows marks places clauses seen v =
    (set : ℕ → Bool → Bool) → IsIncluded (seen_before marks places seen (slice_index_or places v 0)) set → IsClosed set clauses → (b : Bool) → IsTrue (marked marks v b) → IsTrue (set v b)

-- the opposite of a variable's literal, which was made true before the level; or it wasn't, or it follows
abbrev pub KeepSays : List (Option Bool) → List ℕ → List (List Literal) → ℕ → List Bool → ℕ → Option Literal → Type 0
KeepSays marks places clauses start seen v None = (start ≤ slice_index_or places v 0) ⊎ Follows marks places clauses seen v
KeepSays marks places clauses start seen v (Some l) = (l.variable ≡ v) × Fails (marked marks) l × (slice_index_or places v 0 < start)

abbrev pub with_kept : List Literal → Option Literal → List Literal
with_kept lits None = lits
with_kept lits (Some l) = lits ++ l ∷ []

-- the clause has the opposite of this literal
abbrev pub HasOpposite : List Literal → ℕ → Bool → Type 0
HasOpposite clause v b = (k : ℕ) × (k < length clause) × ((d : Literal) → slice_index_or clause k d ≡ record { variable = v; positive = not b })

-- the clause has the opposite of the level's one literal, and of others that were made true before the level: of all that is seen and doesn't follow
pub record Teaches (marks : List (Option Bool)) (places : List ℕ) (clauses : List (List Literal)) (start : ℕ) (one : Literal) (seen : List Bool) (clause : List Literal) : Type 0 where
  pub within : IsBelow (length marks) clause
  pub once : HasEachOnce clause
  pub fails : All (λ l. Fails (marked marks) l × ((l ≡ opposite one) ⊎ (slice_index_or places l.variable 0 < start))) clause
  pub has : HasOpposite clause one.variable one.positive
  pub covers : (v : ℕ) (b : Bool) → IsTrue (seen_before marks places seen start v b) → HasOpposite clause v b ⊎ Follows marks places clauses seen v

-- the place behind a literal of the clause that was made true before the level, or 0
abbrev pub ReachSays : List ℕ → List Literal → ℕ → ℕ → Type 0
ReachSays places clause start r = (r ≡ 0) ⊎ ((k : ℕ) × (k < length clause) × ((d : Literal) → (slice_index_or places (slice_index_or clause k d).variable 0 + 1 ≡ r) × (r ≤ start)))

-- A clause was learned. It forces nothing below the starts of so many levels, not all, and isn't falsified there.
pub record LearnSays (t : TrailState) (clauses : List (List Literal)) (clause : List Literal) (levels : ℕ) : Type 0 where
  pub learned : IsLearned (length t.marks) clauses clause
  pub fewer : levels < length t.starts
  pub quiet : (k : ℕ) → k < levels → IsQuiet (before t.marks t.places (slice_index_or t.starts k 0)) clause
