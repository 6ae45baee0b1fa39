-- Literals: the opposite of one, and whether two are the same.
use Rattle.std.proofs.Common.{◌≡◌, ap, Bool, ◌⊎◌, refl, inl, inr, true, false, ℕ, ap₂, ◌∙◌}
use Rattle.std.proofs.Math.Bool.{not-not}
use Rattle.std.specs.Prelude.{◌≢◌}
use Rattle.std.proofs.lemmas.Bool.Decides.{eqb_tells}
use Rattle.civl_cnf.specs.Literal.{Literal, opposite}

pub opposite_twice : (l : Literal) → opposite (opposite l) ≡ l
opposite_twice l = ap (λ (b : Bool). record { variable = l.variable; positive = b }) (not-not l.positive)

sign_or_not : (a b : Bool) → (a ≡ b) ⊎ (a ≢ b)
sign_or_not true true = inl refl
sign_or_not true false = inr (λ e. cc)
sign_or_not false true = inr (λ e. cc)
sign_or_not false false = inl refl

pub literal_or_not : (m l : Literal) → (m ≡ l) ⊎ (m ≢ l)
literal_or_not m l = elim (eqb_tells m.variable l.variable) [
  | inl v ↦ elim (sign_or_not m.positive l.positive) [
    | inl p ↦ inl (ap₂ (λ (x : ℕ) (b : Bool). record { variable = x; positive = b }) v.1 p)
    | inr p ↦ inr (λ e. p (ap (λ (x : Literal). x.positive) e))
  ]
  | inr v ↦ inr (λ e. v.1 (ap (λ (x : Literal). x.variable) e))
]

pub literal_is : (m l : Literal) → m.variable ≡ l.variable → m.positive ≡ l.positive → m ≡ l
literal_is m l v p = ap (λ (x : ℕ). record { variable = x; positive = m.positive }) v ∙ ap (λ (x : Bool). record { variable = l.variable; positive = x }) p
