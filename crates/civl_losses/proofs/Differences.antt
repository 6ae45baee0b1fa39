-- The globals that differ, from a place on: where one of the lists has no more elements, nothing differs.
use Rattle.std.proofs.Common.{◌≡◌, ℕ, ◌<◌, ◌≤◌, Bool, List, [], ◌∷◌, length, drop, refl, ap, ◌∙◌, arith, min, ◌⊎◌, inl, inr}
use Rattle.std.proofs.lemmas.List.{drop_all}
use Rattle.std.proofs.lemmas.Bool.{cases_lt}
use Rattle.civl_bits.specs.declared.value.Value.{Value}
use Rattle.civl_tree.specs.declared.program.Global.{Global}
use Rattle.civl_losses.specs.Losses.{globals_differ}

no_after : (test : Global → Bool) (n : ℕ) (gs : List Global) (ws : List Value) → globals_differ test n gs [] ws ≡ []
no_after test n [] ws = refl
no_after test n (g ∷ gs) ws = refl

no_before : (test : Global → Bool) (n : ℕ) (gs : List Global) (vs : List Value) → globals_differ test n gs vs [] ≡ []
no_before test n [] vs = refl
no_before test n (g ∷ gs) [] = refl
no_before test n (g ∷ gs) (v ∷ vs) = refl

module _ (test : Global → Bool) (gs : List Global) (vs ws : List Value) (i n : ℕ) where
  pub globals_past : min (min (length gs) (length vs)) (length ws) ≤ i → globals_differ test n (drop i gs) (drop i vs) (drop i ws) ≡ []
  globals_past end = first (cases_lt i (length gs))
    where
      second : i < length gs → (i < length vs) ⊎ (length vs ≤ i) → globals_differ test n (drop i gs) (drop i vs) (drop i ws) ≡ []
      second more (inl moreover) =
          ap (λ (us : List Value). globals_differ test n (drop i gs) (drop i vs) us) (drop_all i ws (omega arith)) ∙ no_before test n (drop i gs) (drop i vs)
      second more (inr gone) = ap (λ (us : List Value). globals_differ test n (drop i gs) us (drop i ws)) (drop_all i vs gone) ∙ no_after test n (drop i gs) (drop i ws)

      first : (i < length gs) ⊎ (length gs ≤ i) → globals_differ test n (drop i gs) (drop i vs) (drop i ws) ≡ []
      first (inl more) = second more (cases_lt i (length vs))
      first (inr gone) = ap (λ (hs : List Global). globals_differ test n hs (drop i vs) (drop i ws)) (drop_all i gs gone)
