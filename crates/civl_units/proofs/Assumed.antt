-- Marks that make the literals of a clause false, one after the other.
use Rattle.std.proofs.Common.{◌≡◌, ℕ, ◌<◌, ◌≤◌, List, length, get_or, sym, ◌∙◌, ap, arith, Bool, true, not}
use Rattle.std.specs.Prelude.{◌≢◌, IsTrue, AllPairs, Option, None, Some, is_some}
use Rattle.civl_units.specs.Propagation.{Fails}
use Rattle.civl_units.specs.Marks.{is_marked, marked, AreAssumed}
use Rattle.civl_cnf.specs.Literal.{Literal}
use Rattle.civl_units.proofs.MarkLemmas.{same_self}

-- The marks are those of the first n literals.
pub record Assumes (marks : List (Option Bool)) (variables : ℕ) (clause : List Literal) (n : ℕ) : Type 0 where
  pub size : length marks ≡ variables
  pub within : (k : ℕ) (d : Literal) → k < n → (get_or clause k d).variable < variables
  pub once : (i j : ℕ) (d : Literal) → i < j → j < n → (get_or clause i d).variable ≡ (get_or clause j d).variable → ⊥
  pub hold : (k : ℕ) (d : Literal) → k < n → Fails (marked marks) (get_or clause k d)
  pub no_more : (v : ℕ) (b : Bool) → IsTrue (marked marks v b) → (k : ℕ) × (k < n) × ((d : Literal) → ((get_or clause k d).variable ≡ v) × (not (get_or clause k d).positive ≡ b))

mark_held : (m : Option Bool) → is_some m ≡ true → (b : Bool) × (is_marked m b ≡ true)
mark_held None e = cc
mark_held (Some a) e = (a, same_self a)

-- a variable that has a mark stands twice
pub stands_twice : (marks : List (Option Bool)) (variables : ℕ) (clause : List Literal) (n : ℕ) (e : Literal) → n < length clause → Assumes marks variables clause n → is_some (get_or marks (get_or clause n e).variable None) ≡ true → AllPairs (λ l m. l.variable ≢ m.variable) clause → ⊥
stands_twice marks variables clause n e below a some once =
    let held = mark_held (get_or marks (get_or clause n e).variable None) some in
    let old = a.no_more (get_or clause n e).variable held.0 held.1 in
    once old.0 n e old.1 below (old.2 e).0

-- all literals
pub assumed_all : (marks : List (Option Bool)) (variables : ℕ) (clause : List Literal) (n : ℕ) → length clause ≤ n → n ≤ length clause → Assumes marks variables clause n → AreAssumed marks clause
assumed_all marks variables clause n above below a = record {
  hold = λ k d low. a.hold k d (omega arith);
  no_more = λ s fails v b held.
      let old = a.no_more v b held in
      let d : Literal = record { variable = 0; positive = true } in
      let is = old.2 d in
      let f = fails old.0 d (omega (arith, old.1)) in
      ap (λ u. s u b) (sym is.0) ∙ ap (λ x. s (get_or clause old.0 d).variable x) (sym is.1) ∙ f;
}
