-- Serves private functions: what the hints of a log lead to (reverse unit propagation with hints: Cruz-Filipe, Heule, Hunt, Kaufmann and Schneider-Kamp, "Efficient certified RAT verification", 2017).
use Rattle.std.specs.Prelude.{◌≡◌, ◌<◌, ◌≤◌, ℕ, List, [], Bool, IsTrue, All, Contains, length, slice_index_or}
use Rattle.civl_cnf.specs.Literal.{Literal}
use Rattle.civl_units.specs.Propagation.{Fails, IsClosed, GivesConflict}
use Rattle.civl_units.specs.Marks.{marked, IsIncluded}
use Rattle.civl_propagation.specs.Trail.{TrailState, before, IsTrailOver}

-- Each literal of the trail begins a level, so any of the last ones can be taken back. (Of why it is true nothing is kept.)
pub record IsLoose (t : TrailState) : Type 0 where
  pub trail : IsTrailOver t []
  pub size : length t.starts ≡ length t.steps
  pub starts : (k : ℕ) → k < length t.starts → slice_index_or t.starts k 0 ≡ k

-- unit propagation in the clauses makes the trail's first literals true by itself
abbrev pub IsForced : TrailState → ℕ → List (List Literal) → Type 0
IsForced t first clauses = (set : ℕ → Bool → Bool) → IsClosed set clauses → IsIncluded (before t.marks t.places first) set

-- and all of them
abbrev pub IsRoot : TrailState → List (List Literal) → Type 0
IsRoot t clauses = (set : ℕ → Bool → Bool) → IsClosed set clauses → IsIncluded (marked t.marks) set

-- Unit propagation in the clauses makes the first literals true by itself, and all of them where these literals are false.
pub record Follows (t : TrailState) (first : ℕ) (clauses : List (List Literal)) (falses : List Literal) : Type 0 where
  pub within : first ≤ length t.steps
  pub base : IsForced t first clauses
  pub rest : (set : ℕ → Bool → Bool) → All (Fails set) falses → IsClosed set clauses → IsIncluded (marked t.marks) set

-- what was looked at kept this, and where a clause is falsified, there is a conflict
abbrev pub Heeds : TrailState → TrailState → List (List Literal) → Bool → Type 0
Heeds old new clauses falsified =
    (first : ℕ) (falses : List Literal) → Follows old first clauses falses → Follows new first clauses falses × (IsTrue falsified → GivesConflict clauses falses)

-- one clause, among any
abbrev pub HintSays : TrailState → TrailState → List Literal → Bool → Type 0
HintSays old new clause falsified = (clauses : List (List Literal)) → Contains clauses clause → Heeds old new clauses falsified

-- literals were made false
abbrev pub AssumptionSays : TrailState → TrailState → List Literal → Type 0
AssumptionSays old new lits = (first : ℕ) (clauses : List (List Literal)) → Follows old first clauses [] → Follows new first clauses lits

-- and then clauses were looked at
abbrev pub MeetingSays : TrailState → TrailState → List (List Literal) → List Literal → Bool → Type 0
MeetingSays old new clauses lits falsified =
    (first : ℕ) → Follows old first clauses [] → Follows new first clauses lits × (IsTrue falsified → GivesConflict clauses lits)
