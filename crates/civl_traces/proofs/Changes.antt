-- What doesn't change.
use Rattle.std.proofs.Common.{◌≡◌, ℕ, ◌+◌, List, [], ◌∷◌, ◌++◌, length, refl, ap₂, true, false}
use Rattle.std.proofs.lemmas.Bool.{eq-eqb}
use Rattle.civl_bits.specs.declared.value.Value.{Value}
use Rattle.civl_bits.specs.declared.value.Value.TheVariants as value
use Rattle.civl_bits.specs.Value.{same_value}
use Rattle.civl_bits.specs.Row.{IsEquivalence-same_row}
use Rattle.civl_conditions.specs.paths.Paths.{Progress}
use Rattle.civl_traces.specs.declared.walked.Changed.{Changed}
use Rattle.civl_traces.specs.Told.{changes, changed}

pub same_self : (v : Value) → same_value v v ≡ true
same_self (value.Bool true) = refl
same_self (value.Bool false) = refl
same_self (value.Word a) = rw (eq-eqb a.0 a.0 refl, eq-eqb a.1 a.1 refl) refl
same_self (value.Row r) = IsEquivalence-same_row.refl r

pub changes_none : (at : ℕ) (vs : List Value) → changes at vs vs ≡ []
changes_none at [] = refl
changes_none at (v ∷ vs) = rw (same_self v) (changes_none (at + 1) vs)

pub unchanged : (p : Progress) → changed p p ≡ []
unchanged p = ap₂ (λ (xs ys : List Changed). xs ++ ys) (changes_none 0 p.store.values) (changes_none (length p.store.values) p.locals)
