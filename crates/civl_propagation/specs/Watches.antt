-- Two watched literals of each clause (Moskewicz and others, "Chaff: engineering an efficient SAT solver", 2001).
use Rattle.std.specs.Prelude.{◌≡◌, ◌≢◌, ◌⊎◌, ◌<◌, ◌≤◌, ◌+◌, ◌++◌, ◌∷◌, [], ℕ, List, Bool, true, false, not, All, Contains, if◌then◌else◌, length, slice_index_or, slice_set, Option, None, Some, ⊤}
use Rattle.std.specs.List.{swap_remove}
use Rattle.civl_cnf.specs.Literal.{Literal, opposite}
use Rattle.civl_units.specs.Propagation.{Holds, Fails, IsFalsified}
use Rattle.civl_units.specs.Marks.{marked}
use Rattle.civl_units.specs.Trail.{IsOpen}
use Rattle.civl_units.specs.Occurrences.{BothSigns, nowhere, of_sign, with_number, IsSingle}
use Rattle.civl_propagation.specs.Trail.{TrailState, before, IsAt, IsTrailOver, IsPushed}
use Rattle.civl_propagation.specs.Propagation.{Grows}
use Rattle.civl_propagation.specs.declared.trail.Step.{Step}
use Rattle.civl_propagation.specs.declared.propagation.Ended.{Ended}
use Rattle.civl_propagation.specs.declared.propagation.Ended.TheVariants.{Conflict, Quiet}
use Rattle.civl_propagation.specs.declared.watches.Visit.{Visit}
use Rattle.civl_propagation.specs.declared.watches.Visit.TheVariants.{Falsified, Stays, Moved}
use Rattle.civl_propagation.specs.declared.watches.Pair.{Pair}
use Rattle.civl_propagation.specs.declared.choice.Ranked.{Ranked}
use Rattle.civl_propagation.specs.declared.choice.Best.{Best}
use Rattle.civl_propagation.specs.declared.choice.Best.TheVariants.{Nothing, One, Two}

-- for each clause the two literals that are watched, if it has two; for each literal the numbers of the clauses that are to be visited when it becomes false
pub record WatchState : Type 0 where
  pub pairs : List (Option Pair)
  pub lists : List BothSigns

abbrev pub watchers : List BothSigns → Literal → List ℕ
watchers lists l = of_sign l.positive (slice_index_or lists l.variable nowhere)

-- the numbers without the one at a place, whose place the last one takes
abbrev pub without_number : Bool → ℕ → BothSigns → BothSigns
without_number true at both = record both { positive = swap_remove both.positive at (slice_index_or both.positive at 0) }
without_number false at both = record both { negative = swap_remove both.negative at (slice_index_or both.negative at 0) }

-- the lists with the number at the end of the literal's
abbrev pub with_listed : List BothSigns → Literal → ℕ → List BothSigns
with_listed lists l number = slice_set lists l.variable (with_number l.positive number (slice_index_or lists l.variable nowhere))

-- the lists without the number at a place of the literal's
abbrev pub with_unlisted : List BothSigns → Literal → ℕ → List BothSigns
with_unlisted lists l at = slice_set lists l.variable (without_number l.positive at (slice_index_or lists l.variable nowhere))

-- the number stands last in the literal's list
pub record IsListed (old new : List BothSigns) (l : Literal) (number : ℕ) : Type 0 where
  pub size : length new ≡ length old
  pub here : watchers new l ≡ watchers old l ++ number ∷ []
  pub others : (m : Literal) → m ≢ l → watchers new m ≡ watchers old m

-- the number at a place went out of the literal's list, and the last one took its place
pub record IsUnlisted (old new : List BothSigns) (l : Literal) (at : ℕ) : Type 0 where
  pub size : length new ≡ length old
  pub here : watchers new l ≡ swap_remove (watchers old l) at (slice_index_or (watchers old l) at 0)
  pub others : (m : Literal) → m ≢ l → watchers new m ≡ watchers old m

-- the number at a place went out of one literal's list, and came to the end of another's
pub record IsRelisted (old new : List BothSigns) (from to : Literal) (at number : ℕ) : Type 0 where
  pub size : length new ≡ length old
  pub gone : watchers new from ≡ swap_remove (watchers old from) at (slice_index_or (watchers old from) at 0)
  pub come : watchers new to ≡ watchers old to ++ number ∷ []
  pub others : (m : Literal) → m ≢ from → m ≢ to → watchers new m ≡ watchers old m

-- the clause at a place of a literal's list watches this pair instead, and stands in the list of its first literal
pub record IsRewatched (old new : WatchState) (l : Literal) (at : ℕ) (pair : Pair) : Type 0 where
  pub pairs : new.pairs ≡ slice_set old.pairs (slice_index_or (watchers old.lists l) at 0) (Some pair)
  pub lists : IsRelisted old.lists new.lists l pair.first at (slice_index_or (watchers old.lists l) at 0)

-- the variables of both literals are below a number
abbrev pub IsPairBelow : ℕ → Option Pair → Type 0
IsPairBelow n None = ⊤
IsPairBelow n (Some pair) = (pair.first.variable < n) × (pair.second.variable < n)

-- both literals differ
abbrev pub IsPairApart : Option Pair → Type 0
IsPairApart None = ⊤
IsPairApart (Some pair) = pair.first ≢ pair.second

-- with one clause more that watches these literals, if it has two: its number stands last in their lists
abbrev pub with_pair : WatchState → Option Pair → WatchState
with_pair w None = record w { pairs = w.pairs ++ None ∷ [] }
with_pair w (Some pair) = record {
  pairs = w.pairs ++ Some pair ∷ [];
  lists = with_listed (with_listed w.lists pair.first (length w.pairs)) pair.second (length w.pairs);
}

-- two different literals of the clause are watched, and its number stands in their lists
pub record IsWatchedBy (clause : List Literal) (number : ℕ) (lists : List BothSigns) (pair : Pair) : Type 0 where
  pub first : Contains clause pair.first
  pub second : Contains clause pair.second
  pub apart : pair.first ≢ pair.second
  pub first_listed : Contains (watchers lists pair.first) number
  pub second_listed : Contains (watchers lists pair.second) number

-- two of its literals are watched, or no two of them differ
abbrev pub IsWatched : List Literal → ℕ → List BothSigns → Option Pair → Type 0
IsWatched clause number lists None = IsSingle clause
IsWatched clause number lists (Some pair) = IsWatchedBy clause number lists pair

-- each clause with two different literals has two of them watched
pub record AreWatched (variables : ℕ) (clauses : List (List Literal)) (w : WatchState) : Type 0 where
  pub pairs : length w.pairs ≡ length clauses
  pub lists : length w.lists ≡ variables
  pub numbers : (l : Literal) → All (λ n. n < length clauses) (watchers w.lists l)
  pub each : (n : ℕ) → n < length clauses → IsWatched (slice_index_or clauses n []) n w.lists (slice_index_or w.pairs n None)

-- where one of the two is false in the one set, the other is true in the other set
pub record Answers (small large : ℕ → Bool → Bool) (pair : Pair) : Type 0 where
  pub first : Fails small pair.first → Holds large pair.second
  pub second : Fails small pair.second → Holds large pair.first

-- the same of a clause; where no two of its literals differ, one is true
abbrev pub KeepsUp : (ℕ → Bool → Bool) → (ℕ → Bool → Bool) → List Literal → Option Pair → Type 0
KeepsUp small large clause None = (l : Literal) × Contains clause l × Holds large l
KeepsUp small large clause (Some pair) = Answers small large pair

-- and of each clause
abbrev pub AllKeepUp : (ℕ → Bool → Bool) → (ℕ → Bool → Bool) → List (List Literal) → List (Option Pair) → Type 0
AllKeepUp small large clauses pairs = (n : ℕ) → n < length clauses → KeepsUp small large (slice_index_or clauses n []) (slice_index_or pairs n None)

-- below the start of each level
abbrev pub KeepUpBelow : TrailState → List (List Literal) → List (Option Pair) → Type 0
KeepUpBelow t clauses pairs = (k : ℕ) → k < length t.starts → AllKeepUp (before t.marks t.places (slice_index_or t.starts k 0)) (before t.marks t.places (slice_index_or t.starts k 0)) clauses pairs

-- what holds of a trail, its clauses and their watches at all times
pub record IsHeld (t : TrailState) (clauses : List (List Literal)) (w : WatchState) : Type 0 where
  pub trail : IsTrailOver t clauses
  pub watched : AreWatched (length t.marks) clauses w
  pub below : KeepUpBelow t clauses w.pairs

-- The clause is still to be visited: its number stands in the list at this place or later, and it kept up before the step.
pub record IsDueFrom (t : TrailState) (clauses : List (List Literal)) (w : WatchState) (falsified : Literal) (step at number : ℕ) : Type 0 where
  pub place : ℕ
  pub after : at ≤ place
  pub within : place < length (watchers w.lists falsified)
  pub is : slice_index_or (watchers w.lists falsified) place 0 ≡ number
  pub keeps : KeepsUp (before t.marks t.places step) (marked t.marks) (slice_index_or clauses number []) (slice_index_or w.pairs number None)

-- The clauses in the list of a literal are visited, which became false by this step of the trail: each clause keeps up with the step, or is to be visited from this place of the list on.
pub record IsVisiting (t : TrailState) (clauses : List (List Literal)) (w : WatchState) (falsified : Literal) (step at : ℕ) : Type 0 where
  pub held : IsHeld t clauses w
  pub here : step < length t.steps
  pub falsity : (d : Step) → (slice_index_or t.steps step d).lit ≡ opposite falsified
  pub due : (n : ℕ) → n < length clauses → KeepsUp (before t.marks t.places (step + 1)) (marked t.marks) (slice_index_or clauses n []) (slice_index_or w.pairs n None) ⊎ IsDueFrom t clauses w falsified step at n

-- what a visit of one clause did: it is falsified, or its watches stay, or one went to another literal
abbrev pub VisitSays : TrailState → WatchState → TrailState → WatchState → List (List Literal) → Literal → ℕ → ℕ → Visit → Type 0
VisitSays old v new w clauses falsified step at (Falsified r) = Grows old new × IsHeld new clauses w × IsAt clauses r (IsFalsified (marked new.marks))
VisitSays old v new w clauses falsified step at Stays = Grows old new × IsVisiting new clauses w falsified step (at + 1) × (length (watchers w.lists falsified) ≡ length (watchers v.lists falsified))
VisitSays old v new w clauses falsified step at Moved = Grows old new × IsVisiting new clauses w falsified step at × (length (watchers w.lists falsified) + 1 ≡ length (watchers v.lists falsified))

-- a pair of two literals, in one order or the other
abbrev pub IsPair : Pair → Literal → Literal → Type 0
IsPair pair a b = ((pair.first ≡ a) × (pair.second ≡ b)) ⊎ ((pair.first ≡ b) × (pair.second ≡ a))

-- the other literal of the pair, or that this one isn't in it
abbrev pub OtherSays : Option Pair → Literal → Option Literal → Type 0
OtherSays None l None = ⊤
OtherSays None l (Some other) = ⊥
OtherSays (Some pair) l None = (pair.first ≢ l) × (pair.second ≢ l)
OtherSays (Some pair) l (Some other) = IsPair pair l other

-- a literal of the clause other than this one that isn't false, or that all others are false
abbrev pub ReplacementSays : List (Option Bool) → List Literal → Literal → Option Literal → Type 0
ReplacementSays marks clause other (Some l) = Contains clause l × (l ≢ other) × (Fails (marked marks) l → ⊥)
ReplacementSays marks clause other None = All (λ m. (m ≡ other) ⊎ Fails (marked marks) m) clause

-- the only literal that a clause leaves is false, or it had no value and was made true
abbrev pub ForceSays : TrailState → TrailState → Literal → ℕ → Visit → Type 0
ForceSays old new l number (Falsified r) = (r ≡ number) × (new ≡ old) × Fails (marked old.marks) l
ForceSays old new l number Stays = IsPushed old new l (Some number) × IsOpen old.marks l
ForceSays old new l number Moved = ⊥

-- How late a literal became false, by its place among the steps. One that isn't false is later than all these.
abbrev pub rank : TrailState → Literal → ℕ
rank t l = if marked t.marks l.variable (not l.positive) then slice_index_or t.places l.variable 0 else length t.steps

-- two different literals of the clause; none of the others became false later than they did
pub record IsBest (t : TrailState) (clause : List Literal) (pair : Pair) : Type 0 where
  pub first : Contains clause pair.first
  pub second : Contains clause pair.second
  pub apart : pair.first ≢ pair.second
  pub order : rank t pair.second ≤ rank t pair.first
  pub latest : All (λ m. (m ≡ pair.first) ⊎ (rank t m ≤ rank t pair.second)) clause

-- the two best literals to watch, or that no two of them differ
abbrev pub ChoiceSays : TrailState → List Literal → Option Pair → Type 0
ChoiceSays t clause None = IsSingle clause
ChoiceSays t clause (Some pair) = IsBest t clause pair

-- the number is the literal's rank
abbrev pub IsRanked : TrailState → Ranked → Type 0
IsRanked t r = r.rank ≡ rank t r.lit

-- both, the one with the higher rank first
abbrev pub IsOrdered : Ranked → Ranked → Best → Type 0
IsOrdered one other Nothing = ⊥
IsOrdered one other (One first) = ⊥
IsOrdered one other (Two first second) = ((first ≡ one) × (second ≡ other) × (other.rank ≤ one.rank)) ⊎ ((first ≡ other) × (second ≡ one) × (one.rank ≤ other.rank))

-- the best literals of a clause: there is none, or no other, or the two to watch
abbrev pub BestSays : TrailState → List Literal → Best → Type 0
BestSays t clause Nothing = clause ≡ []
BestSays t clause (One first) = IsRanked t first × Contains clause first.lit × All (λ m. m ≡ first.lit) clause
BestSays t clause (Two first second) = IsRanked t first × IsRanked t second × IsBest t clause (record { first = first.lit; second = second.lit })

-- two different literals of the clause, none of which is false
pub record IsFreeIn (t : TrailState) (clause : List Literal) (pair : Pair) : Type 0 where
  pub first : Contains clause pair.first
  pub second : Contains clause pair.second
  pub apart : pair.first ≢ pair.second
  pub first_free : Fails (marked t.marks) pair.first → ⊥
  pub second_free : Fails (marked t.marks) pair.second → ⊥

-- there is a pair, and none of its literals is false
abbrev pub IsFreePair : TrailState → Option Pair → Type 0
IsFreePair t None = ⊥
IsFreePair t (Some pair) = (Fails (marked t.marks) pair.first → ⊥) × (Fails (marked t.marks) pair.second → ⊥)

-- a clause is falsified
abbrev pub MeetsFalsified : TrailState → TrailState → List (List Literal) → WatchState → ℕ → Type 0
MeetsFalsified old new clauses w r = Grows old new × IsHeld new clauses w × IsAt clauses r (IsFalsified (marked new.marks))

-- the clauses that watch the opposite of a step's literal were visited: one is falsified, or each keeps up with the step
abbrev pub StepSays : TrailState → TrailState → List (List Literal) → WatchState → ℕ → Ended → Type 0
StepSays old new clauses w step (Conflict r) = MeetsFalsified old new clauses w r
StepSays old new clauses w step Quiet = Grows old new × IsHeld new clauses w × AllKeepUp (before new.marks new.places (step + 1)) (marked new.marks) clauses w.pairs

-- propagation ended: a clause is falsified, or each keeps up with all that is true
abbrev pub PropagationSays : TrailState → TrailState → List (List Literal) → WatchState → Ended → Type 0
PropagationSays old new clauses w (Conflict r) = MeetsFalsified old new clauses w r
PropagationSays old new clauses w Quiet = Grows old new × IsHeld new clauses w × AllKeepUp (marked new.marks) (marked new.marks) clauses w.pairs
