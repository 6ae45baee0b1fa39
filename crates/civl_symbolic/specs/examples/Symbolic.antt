-- Worked examples of symbolic values.
use Rattle.std.specs.Prelude.{◌≡◌, ℕ, [], ◌∷◌, Bool, true, false, nat_eq, ◌||◌}
use Rattle.civl_bits.specs.declared.value.Value.TheVariants as value
use Rattle.civl_cnf.specs.Literal.{Literal}
use Rattle.civl_symbolic.specs.declared.symbolic.Symbolic.TheVariants as symbolic
use Rattle.civl_symbolic.specs.Symbolic.{value_under, Shows}

-- variables 0 and 2 are true
abbrev pub two_true : ℕ → Bool
two_true i = nat_eq i 0 || nat_eq i 2

abbrev pub variable : ℕ → Literal
variable i = record { variable = i; positive = true }

abbrev pub negated : ℕ → Literal
negated i = record { variable = i; positive = false }

-- the word of variable 0, the negation of variable 2, and variable 2 is 5; the negation of variable 1 is true; and the bits from variable 1 on show the word 2 of two bits
pub record Examples : Type 0 where
  pub word : value_under two_true (symbolic.Word (variable 0 ∷ negated 2 ∷ variable 2 ∷ [])) ≡ value.Word (3, 5)
  pub truth : value_under two_true (symbolic.Bool (negated 1)) ≡ value.Bool true
  pub shown : Shows two_true 1 (value.Word (2, 2))
