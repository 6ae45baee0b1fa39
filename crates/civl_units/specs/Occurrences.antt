-- The numbers of the clauses in which literals stand, and of those that force a literal by themselves.
use Rattle.std.specs.Prelude.{◌≡◌, ◌<◌, ◌≤◌, ◌↔◌, ℕ, List, [], ◌∷◌, ◌++◌, Bool, true, false, not, ◌&&◌, nat_eq, if◌then◌else◌, Contains, length, take, replicate, slice_index_or}
use Rattle.std.specs.List.{count_by}
use Rattle.civl_cnf.specs.Literal.{Literal}

-- the numbers of the clauses in which a variable stands, and of those in which its negation stands
pub record BothSigns : Type 0 where
  pub positive : List ℕ
  pub negative : List ℕ

abbrev pub nowhere : BothSigns
nowhere = record { positive = []; negative = [] }

abbrev pub of_sign : Bool → BothSigns → List ℕ
of_sign true both = both.positive
of_sign false both = both.negative

-- one more number at the end of the list of that sign
abbrev pub with_number : Bool → ℕ → BothSigns → BothSigns
with_number true number both = record both { positive = both.positive ++ number ∷ [] }
with_number false number both = record both { negative = both.negative ++ number ∷ [] }

-- the lists of each variable, and the numbers of the clauses that force a literal by themselves
pub record OccurrenceLists : Type 0 where
  pub variables : List BothSigns
  pub units : List ℕ

-- the numbers of the clauses in which the literal stands
abbrev pub numbers_of : OccurrenceLists → Literal → List ℕ
numbers_of lists l = of_sign l.positive (slice_index_or lists.variables l.variable nowhere)

abbrev pub is_literal : Literal → Literal → Bool
is_literal l m = nat_eq m.variable l.variable && (if l.positive then m.positive else not m.positive)

-- how often the literal stands in the clause
abbrev pub times : Literal → List Literal → ℕ
times l clause = count_by (is_literal l) clause

-- each literal's list grew by the number, once for each place at which the literal stands in the clause
abbrev pub AreListed : OccurrenceLists → OccurrenceLists → List Literal → ℕ → Type 0
AreListed old new clause number =
    (l : Literal) → numbers_of new l ≡ numbers_of old l ++ replicate (times l clause) number

-- no two literals of the clause differ: read as a set it has one at most, and forces it by itself, or is falsified by itself
abbrev pub IsSingle : List Literal → Type 0
IsSingle clause = (l m : Literal) → Contains clause l → Contains clause m → l ≡ m

-- the number stands last among the units now, exactly where the clause is single
pub record IsUnitListed (old new : OccurrenceLists) (clause : List Literal) (number : ℕ) : Type 0 where
  pub single : IsSingle clause → new.units ≡ old.units ++ number ∷ []
  pub other : (IsSingle clause → ⊥) → new.units ≡ old.units

-- The clause was added only in part: a front of its literals is listed, and the units are as they were.
pub record IsPartlyAdded (old new : OccurrenceLists) (clause : List Literal) (number : ℕ) : Type 0 where
  pub count : ℕ
  pub within : count ≤ length clause
  pub listed : AreListed old new (take count clause) number
  pub units : new.units ≡ old.units

-- The lists are those of these clauses, numbered from 0: a literal's list has the numbers of the clauses in which it stands, and the units are the single clauses.
pub record AreOccurrences (clauses : List (List Literal)) (lists : OccurrenceLists) : Type 0 where
  pub numbers : (l : Literal) (n : ℕ) → Contains (numbers_of lists l) n ↔ ((n < length clauses) × Contains (slice_index_or clauses n []) l)
  pub singles : (n : ℕ) → Contains lists.units n ↔ ((n < length clauses) × IsSingle (slice_index_or clauses n []))
