-- What the steps of propagation say of the marks: for each variable the truth value that it has, or none.
use Rattle.std.specs.Prelude.{◌≡◌, ◌<◌, ◌≤◌, ◌⊎◌, ◌+◌, ℕ, List, [], Bool, true, false, not, IsTrue, All, Contains, length, slice_index_or, Option, None, Some}
use Rattle.civl_cnf.specs.Literal.{Literal}
use Rattle.civl_units.specs.Propagation.{Fails, IsFalsified, IsUnit, IsClosedAt, IsClosed, HasConflict}
use Rattle.civl_units.specs.Trail.{Marking, IsOpen, with_mark, open_count}
use Rattle.civl_units.specs.declared.rule.Rule.{Rule}
use Rattle.civl_units.specs.declared.rule.Rule.TheVariants.{Falsified, Forces, Quiet}

abbrev pub same : Bool → Bool → Bool
same true b = b
same false b = not b

abbrev pub is_marked : Option Bool → Bool → Bool
is_marked None b = false
is_marked (Some a) b = same a b

-- the set of the literals that the marks make true
abbrev pub marked : List (Option Bool) → ℕ → Bool → Bool
marked marks v b = is_marked (slice_index_or marks v None) b

-- the clause forces nothing more, and isn't falsified
abbrev pub IsQuiet : (ℕ → Bool → Bool) → List Literal → Type 0
IsQuiet set clause = IsClosedAt set clause × (IsFalsified set clause → ⊥)

-- each literal of the one is in the other
abbrev pub IsIncluded : (ℕ → Bool → Bool) → (ℕ → Bool → Bool) → Type 0
IsIncluded small large = (v : ℕ) (b : Bool) → IsTrue (small v b) → IsTrue (large v b)

abbrev pub RuleSays : List (Option Bool) → List Literal → Rule → Type 0
RuleSays marks clause Falsified = IsFalsified (marked marks) clause
RuleSays marks clause (Forces l) = IsUnit (marked marks) clause l × IsOpen marks l
RuleSays marks clause Quiet = IsQuiet (marked marks) clause

-- The new marks are reached from the old ones by what the clauses force.
pub record Propagates (old new : List (Option Bool)) (clauses : List (List Literal)) : Type 0 where
  pub size : length new ≡ length old
  pub stay : IsIncluded (marked old) (marked new)
  pub sound : (set : ℕ → Bool → Bool) → IsIncluded (marked old) set → IsClosed set clauses → IsIncluded (marked new) set

-- The clause forces nothing, and nothing changed; or it forces a literal on a variable with no value, and that is marked now.
abbrev pub IsVisited : Marking → Marking → List Literal → Type 0
IsVisited old new clause =
    (IsQuiet (marked old.values) clause × (new ≡ old)) ⊎ ((l : Literal) × IsUnit (marked old.values) clause l × IsOpen old.values l × (new ≡ with_mark old l))

-- what a visit of a clause found: whether it is falsified
abbrev pub VisitSays : Marking → Marking → List Literal → Bool → Type 0
VisitSays old new clause true = IsFalsified (marked old.values) clause × (new ≡ old)
VisitSays old new clause false = IsVisited old new clause

-- Some literal of the clause is false, and its variable stands in the trail at this place or later: the clause is still to be looked at.
pub record IsPending (marking : Marking) (from : ℕ) (clause : List Literal) : Type 0 where
  pub place : ℕ
  pub after : from ≤ place
  pub before : place < length marking.trail
  pub literal : Literal
  pub there : Contains clause literal
  pub variable : literal.variable ≡ slice_index_or marking.trail place 0
  pub fails : Fails (marked marking.values) literal

-- the clause forces nothing and isn't falsified, or it is still to be looked at
abbrev pub IsSettled : Marking → ℕ → List Literal → Type 0
IsSettled marking from clause = IsQuiet (marked marking.values) clause ⊎ IsPending marking from clause

-- The new marks are reached from the old ones by what the clauses force, each on a variable with no value, and the trail grew at its end: what was quiet is still, or a literal of it is false by the new part of the trail.
pub record Advances (old new : Marking) (clauses : List (List Literal)) : Type 0 where
  pub reached : Propagates old.values new.values clauses
  pub longer : length old.trail ≤ length new.trail
  pub order : (i : ℕ) → i < length old.trail → slice_index_or new.trail i 0 ≡ slice_index_or old.trail i 0
  pub count : length new.trail + open_count new.values ≡ length old.trail + open_count old.values
  pub quiet : (clause : List Literal) → IsQuiet (marked old.values) clause → IsSettled new (length old.trail) clause

-- the new marks are reached from the old ones, and falsify a clause
pub record MeetsConflict (old new : Marking) (clauses : List (List Literal)) : Type 0 where
  pub reached : Propagates old.values new.values clauses
  pub found : HasConflict (marked new.values) clauses

-- what a visit of the clauses with these numbers found: one is falsified, or each of them is settled
abbrev pub NumbersSay : Marking → Marking → List (List Literal) → List ℕ → Bool → Type 0
NumbersSay old new clauses numbers true = MeetsConflict old new clauses
NumbersSay old new clauses numbers false =
    Advances old new clauses × All (λ n. n < length clauses → IsSettled new (length old.trail) (slice_index_or clauses n [])) numbers

-- what a visit of the clauses in which the variable has a false literal found
abbrev pub VariableSays : Marking → Marking → List (List Literal) → ℕ → Bool → Type 0
VariableSays old new clauses variable true = MeetsConflict old new clauses
VariableSays old new clauses variable false =
    Advances old new clauses × All (λ clause. (l : Literal) → Contains clause l → l.variable ≡ variable → Fails (marked old.values) l → IsSettled new (length old.trail) clause) clauses

-- how propagation ended: in a conflict, or with marks under which no clause forces anything more
abbrev pub EndsBy : List (Option Bool) → List (List Literal) → Bool → Type 0
EndsBy marks clauses true = HasConflict (marked marks) clauses
EndsBy marks clauses false = All (IsQuiet (marked marks)) clauses

-- the marks are those that make each literal false
pub record AreAssumed (marks : List (Option Bool)) (clause : List Literal) : Type 0 where
  pub hold : All (Fails (marked marks)) clause
  pub no_more : (set : ℕ → Bool → Bool) → All (Fails set) clause → IsIncluded (marked marks) set
