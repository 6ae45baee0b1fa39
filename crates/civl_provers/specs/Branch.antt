-- Branches of a search by splitting (Davis, Logemann and Loveland, "A machine program for theorem-proving", 1962): literals that are made false one after the other, with unit propagation after each.
use Rattle.std.specs.Prelude.{◌≡◌, ℕ, ◌<◌, List, Bool, All, Any, length, take, slice_index_or}
use Rattle.civl_cnf.specs.Literal.{Literal}
use Rattle.civl_cnf.specs.ClauseSet.{ClauseSet}
use Rattle.civl_units.specs.Propagation.{Holds, Fails, IsClosed, GivesConflict}

-- Making these literals false and propagating units makes the literal true: it is in each closed set in which they are false.
abbrev pub IsImplied : List (List Literal) → List Literal → Literal → Type 0
IsImplied clauses falses l = (set : ℕ → Bool → Bool) → All (Fails set) falses → IsClosed set clauses → Holds set l

-- propagation makes neither the variable true nor its negation
abbrev pub IsLeftOpen : List (List Literal) → List Literal → ℕ → Type 0
IsLeftOpen clauses falses v = (positive : Bool) → IsImplied clauses falses (record { variable = v; positive = positive }) → ⊥

-- each literal is of a variable that propagation from those before it left open
abbrev pub IsBranch : ClauseSet → List Literal → Type 0
IsBranch set falses =
    (i : ℕ) (d : Literal) → i < length falses → ((slice_index_or falses i d).variable < set.variables) × IsLeftOpen set.clauses (take i falses) (slice_index_or falses i d).variable

-- propagation makes a literal of each clause true
abbrev pub IsTrueBy : List (List Literal) → List Literal → Type 0
IsTrueBy clauses falses = All (λ clause. Any (IsImplied clauses falses) clause) clauses

-- propagation neither refutes the branch nor makes the clauses true
pub record IsUnsettled (set : ClauseSet) (falses : List Literal) : Type 0 where
  pub unrefuted : GivesConflict set.clauses falses → ⊥
  pub untrue : IsTrueBy set.clauses falses → ⊥

-- a branch of so many choices, each of a variable that propagation from the choices before it left open, is neither refuted nor true by propagation
pub record IsUndecided (set : ClauseSet) (depth : ℕ) (falses : List Literal) : Type 0 where
  pub size : length falses ≡ depth
  pub branch : IsBranch set falses
  pub unsettled : IsUnsettled set falses
