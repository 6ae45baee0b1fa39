-- Marks, and what a clause says under them.
use Rattle.std.proofs.Common.{◌≡◌, ◌⊎◌, ℕ, ◌+◌, ◌<◌, ◌≤◌, List, get_or, refl, inl, inr, arith, Bool, true, false, not}
use Rattle.std.specs.Prelude.{Contains, Option, None, Some}
use Rattle.std.proofs.lemmas.Bool.Decides.{eqb_tells}
use Rattle.std.proofs.lemmas.Bool.{ltb-true, ltb-false}
use Rattle.std.proofs.Math.Dec.{ltb}
use Rattle.civl_units.specs.Propagation.{Fails}
use Rattle.civl_units.specs.Marks.{same, marked, is_marked}
use Rattle.civl_units.specs.Trail.{IsOpen}
use Rattle.civl_cnf.specs.Literal.{Literal}

pub same_self : (b : Bool) → same b b ≡ true
same_self true = refl
same_self false = refl

below_by : (k n : ℕ) (b : Bool) → ltb k n ≡ b → (k < n) ⊎ (n ≤ k)
below_by k n true e = inl (ltb-true k n e)
below_by k n false e = inr (ltb-false k n e)

pub lt_or_eq : (k n : ℕ) → k < n + 1 → (k < n) ⊎ (k ≡ n)
lt_or_eq k n low = elim (eqb_tells k n) [
  | inl e ↦ inr e.1
  | inr e ↦ let differ = e.1 in inl (omega arith)
]

-- the first n literals: each fails but the open one
abbrev pub Scanned : List (Option Bool) → List Literal → Option Literal → ℕ → Type 0
Scanned marks clause None n = (k : ℕ) (d : Literal) → k < n → Fails (marked marks) (get_or clause k d)
Scanned marks clause (Some o) n =
    Contains clause o × IsOpen marks o × ((k : ℕ) (d : Literal) → k < n → (get_or clause k d ≡ o) ⊎ Fails (marked marks) (get_or clause k d))

pub mark_absent : (m : Option Bool) (b : Bool) → m ≡ None → is_marked m b ≡ true → ⊥
mark_absent None b e h = cc
mark_absent (Some a) b e h = cc

pub not_both : (m : Option Bool) (b : Bool) → is_marked m b ≡ true → is_marked m (not b) ≡ true → ⊥
not_both None b e f = cc
not_both (Some true) true e f = cc
not_both (Some true) false e f = cc
not_both (Some false) true e f = cc
not_both (Some false) false e f = cc
