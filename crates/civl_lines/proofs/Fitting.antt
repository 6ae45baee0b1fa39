-- False parts end within their formula.
use Rattle.std.proofs.Common.{◌≡◌, ℕ, ◌+◌, ◌≤◌, List, [], ◌∷◌, length, Some, zero, suc, subst, ap, arith}
use Rattle.std.specs.Prelude.{slice_get, Option, unwrap_or}
use Rattle.civl_tree.specs.Spelling.{spell_expr}
use Rattle.civl_reasons.specs.Reasons.{Subformula}
use Rattle.civl_reasons.specs.Laws.{AreApart}

apart_le : (low : ℕ) (ps : List Subformula) (high : ℕ) → AreApart low ps high → low ≤ high
apart_le low [] high h = h
apart_le low (p ∷ ps) high h = omega (arith, h.0, apart_le (p.token + length (spell_expr p.expr)) ps high h.1)

pub apart_fits : (low : ℕ) (ps : List Subformula) (high at : ℕ) (p : Subformula) → AreApart low ps high → slice_get ps at ≡ Some p
    → p.token + length (spell_expr p.expr) ≤ high
apart_fits low [] high at p h is = absurd (none_is p is)
  where
    none_is : (p : Subformula) → slice_get {X = Subformula} [] at ≡ Some p → ⊥
    none_is p is = cc
apart_fits low (q ∷ ps) high zero p h is =
    let same : q ≡ p = ap (λ (o : Option Subformula). unwrap_or o q) is in
    apart_le _ ps high (subst (λ (s : Subformula). AreApart (s.token + length (spell_expr s.expr)) ps high) same h.1)
apart_fits low (q ∷ ps) high (suc at) p h is = apart_fits (q.token + length (spell_expr q.expr)) ps high at p h.1 is
