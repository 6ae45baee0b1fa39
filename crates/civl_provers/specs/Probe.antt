-- A prover that tries bits.
use Rattle.std.specs.Prelude.{◌≡◌, ℕ, ◌<◌, List, [], ◌∷◌, Bool, ◌&&◌, nat_le, if◌then◌else◌, length, slice_index_or}
use Rattle.std.specs.List.{list_any, list_all}
use Rattle.civl_cnf.specs.Literal.{truth_of}
use Rattle.civl_cnf.specs.ClauseSet.{ClauseSet, assignment}
use Rattle.civl_portfolio.specs.Attempt.{MakesTrue}
use Rattle.civl_portfolio.specs.declared.attempt.Attempt.{Attempt}
use Rattle.civl_portfolio.specs.declared.attempt.Attempt.TheVariants.{Sat, GaveUp}

-- the bits to try, in order, and its counts
pub record ProbeState : Type 0 where
  pub tries : List (List Bool)
  pub asked : ℕ
  pub lacks : ℕ

-- whether there is a bit for each variable, and each clause has a true literal
abbrev pub makes_true : ClauseSet → List Bool → Bool
makes_true set bits = nat_le set.variables (length bits) && list_all (list_any (truth_of (assignment bits))) set.clauses

-- the first try that makes the clause set true
abbrev pub first_true : ClauseSet → List (List Bool) → Attempt
first_true set [] = GaveUp
first_true set (bits ∷ tries) = if makes_true set bits then Sat bits else first_true set tries

-- these bits are the first try that makes the clause set true
pub record IsFirstTrue (set : ClauseSet) (tries : List (List Bool)) (bits : List Bool) : Type 0 where
  pub place : ℕ
  pub below : place < length tries
  pub is : slice_index_or tries place [] ≡ bits
  pub truth : MakesTrue set bits
  pub earlier : (i : ℕ) → i < place → MakesTrue set (slice_index_or tries i []) → ⊥
