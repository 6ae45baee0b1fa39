use Rattle.std.specs.Int.{bit_at}
use Rattle.std.proofs.Common.{◌≡◌, ◌∙◌, ℕ, ◌+◌, ◌<◌, refl, ap, sym, arith, inl, inr}
use Rattle.std.proofs.lemmas.Bool.{cases_eq}
use Rattle.civl_cnf.specs.Gates.{bit}
use Rattle.civl_symbolic.specs.examples.Symbolic.{two_true}
use Rattle.civl_symbolic.proofs.laws.examples.Goals as goal

shown : (j : ℕ) → j < 2 → bit (two_true (1 + j)) ≡ bit_at 2 j
shown j h = elim (cases_eq j 0) [
  | inl e ↦ ap (λ i. bit (two_true (1 + i))) e ∙ sym (ap (bit_at 2) e)
  | inr ne ↦ let e : j ≡ 1 = omega arith in ap (λ i. bit (two_true (1 + i))) e ∙ sym (ap (bit_at 2) e)
]

pub returns : goal.returns
returns c = record { word = refl; truth = refl; shown = shown }
