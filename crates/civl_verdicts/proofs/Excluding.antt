-- Verdicts exclude each other.
use Rattle.std.proofs.Common.{◌≡◌, ℕ, zero, suc, ◌<◌, true, false, List, Some, slice_get, refl, sym, ap, ◌∙◌, ◌⊎◌, inl, inr, arith}
use Rattle.civl_bits.specs.declared.value.Value.{Value}
use Rattle.civl_tree.specs.declared.program.Program.{Program}
use Rattle.civl_conditions.specs.declared.condition.Condition.{Condition}
use Rattle.civl_conditions.specs.Listed.{conditions}
use Rattle.civl_conditions.specs.Violated.{Violates, Holds, violated}
use Rattle.civl_verdicts.specs.Verdicts.{IsReached}

pub not_both : (program : Program) (condition : Condition) (values : List Value) → Holds program condition → Violates program condition values → ⊥
not_both program condition values holds violates =
    let no : violated program condition values ≡ false = holds values violates.fit in
    let yes : violated program condition values ≡ true = violates.fail in
    cc

-- the first of two places, if they differ, has a condition that holds
pub not_before : (program : Program) (c d : Condition) (i j : ℕ) (values : List Value) → IsReached program c i → IsReached program d j → Violates program c values → i < j → ⊥
not_before program c d i j values first second violates less = not_both program c values (second.before i c less first.there) violates

same_condition : {c d : Condition} → Some c ≡ Some d → c ≡ d
same_condition {c} {d} e = cc

-- two numbers are in order, or the same
abbrev Ordered : ℕ → ℕ → Type 0
Ordered m n = (m < n) ⊎ ((m ≡ n) ⊎ (n < m))

order : (m n : ℕ) → Ordered m n
order zero zero = inr (inl refl)
order zero (suc n) = inl (omega arith)
order (suc m) zero = inr (inr (omega arith))
order (suc m) (suc n) = elim (order m n) [
  | inl less ↦ inl (omega (arith, less))
  | inr rest ↦ elim rest [
    | inl same ↦ inr (inl (ap suc same))
    | inr more ↦ inr (inr (omega (arith, more)))
  ]
]

pub same_place : (program : Program) (c d : Condition) (i j : ℕ) (vs ws : List Value) → IsReached program c i → IsReached program d j → Violates program c vs → Violates program d ws → c ≡ d
same_place program c d i j vs ws first second one other = elim (order i j) [
  | inl less ↦ absurd (not_before program c d i j vs first second one less)
  | inr rest ↦ elim rest [
    | inl same ↦ same_condition (sym first.there ∙ ap (slice_get (conditions program)) same ∙ second.there)
    | inr more ↦ absurd (not_before program d c j i ws second first other more)
  ]
]
