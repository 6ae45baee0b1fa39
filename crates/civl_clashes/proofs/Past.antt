-- Where one of the lists has no more elements, nothing differs, and nothing is carried.
use Rattle.std.proofs.Common.{◌≡◌, ℕ, ◌<◌, ◌≤◌, Bool, List, [], ◌∷◌, length, drop, refl, ap, ◌∙◌, arith, min, ◌⊎◌, inl, inr}
use Rattle.std.proofs.lemmas.List.{drop_all}
use Rattle.std.proofs.lemmas.Bool.{cases_lt}
use Rattle.civl_bits.specs.declared.value.Value.{Value}
use Rattle.civl_tree.specs.declared.program.Global.{Global}
use Rattle.civl_clashes.specs.declared.violations.Which.{Which}
use Rattle.civl_clashes.specs.declared.violations.Carried.{Carried}
use Rattle.civl_tree.specs.declared.action.Param.{Param}
use Rattle.civl_clashes.specs.Losses.{by_globals, by_params, by_outs}
use Rattle.civl_clashes.specs.Differences.{globals_differ, outs_differ}

no_kept : (test : Global → Bool) (n : ℕ) (gs : List Global) (ws : List Value) → globals_differ test n gs [] ws ≡ []
no_kept test n [] ws = refl
no_kept test n (g ∷ gs) ws = refl

no_exchanged : (test : Global → Bool) (n : ℕ) (gs : List Global) (vs : List Value) → globals_differ test n gs vs [] ≡ []
no_exchanged test n [] vs = refl
no_exchanged test n (g ∷ gs) [] = refl
no_exchanged test n (g ∷ gs) (v ∷ vs) = refl

module _ (test : Global → Bool) (gs : List Global) (vs ws : List Value) (i n : ℕ) where
  pub globals_past : min (min (length gs) (length vs)) (length ws) ≤ i → globals_differ test n (drop i gs) (drop i vs) (drop i ws) ≡ []
  globals_past end = first (cases_lt i (length gs))
    where
      second : i < length gs → (i < length vs) ⊎ (length vs ≤ i) → globals_differ test n (drop i gs) (drop i vs) (drop i ws) ≡ []
      second more (inl moreover) = ap (λ (us : List Value). globals_differ test n (drop i gs) (drop i vs) us) (drop_all i ws (omega arith)) ∙ no_exchanged test n (drop i gs) (drop i vs)
      second more (inr gone) = ap (λ (us : List Value). globals_differ test n (drop i gs) us (drop i ws)) (drop_all i vs gone) ∙ no_kept test n (drop i gs) (drop i ws)

      first : (i < length gs) ⊎ (length gs ≤ i) → globals_differ test n (drop i gs) (drop i vs) (drop i ws) ≡ []
      first (inl more) = second more (cases_lt i (length vs))
      first (inr gone) = ap (λ (hs : List Global). globals_differ test n hs (drop i vs) (drop i ws)) (drop_all i gs gone)

no_outs : (which : Which) (n : ℕ) (vs : List Value) → outs_differ which n vs [] ≡ []
no_outs which n [] = refl
no_outs which n (v ∷ vs) = refl

module _ (which : Which) (vs ws : List Value) (i n : ℕ) where
  pub outs_past : min (length vs) (length ws) ≤ i → outs_differ which n (drop i vs) (drop i ws) ≡ []
  outs_past end = either (cases_lt i (length vs))
    where
      either : (i < length vs) ⊎ (length vs ≤ i) → outs_differ which n (drop i vs) (drop i ws) ≡ []
      either (inl more) = ap (λ (us : List Value). outs_differ which n (drop i vs) us) (drop_all i ws (omega arith)) ∙ no_outs which n (drop i vs)
      either (inr gone) = ap (λ (us : List Value). outs_differ which n us (drop i ws)) (drop_all i vs gone)

module _ {A : Type 0} (carried : ℕ → List A → List Value → List Carried) (nothing : (n : ℕ) (vs : List Value) → carried n [] vs ≡ []) (none : (n : ℕ) (xs : List A) → carried n xs [] ≡ []) (xs : List A) (vs : List Value) (i n : ℕ) where
  past : min (length xs) (length vs) ≤ i → carried n (drop i xs) (drop i vs) ≡ []
  past end = either (cases_lt i (length xs))
    where
      either : (i < length xs) ⊎ (length xs ≤ i) → carried n (drop i xs) (drop i vs) ≡ []
      either (inl more) = ap (λ (ws : List Value). carried n (drop i xs) ws) (drop_all i vs (omega arith)) ∙ none n (drop i xs)
      either (inr gone) = ap (λ (ys : List A). carried n ys (drop i vs)) (drop_all i xs gone) ∙ nothing n (drop i vs)

no_by_globals : (n : ℕ) (xs : List Global) → by_globals n xs [] ≡ []
no_by_globals n [] = refl
no_by_globals n (x ∷ xs) = refl

pub by_globals_past : (xs : List Global) (vs : List Value) (i n : ℕ) → min (length xs) (length vs) ≤ i → by_globals n (drop i xs) (drop i vs) ≡ []
by_globals_past xs vs i n end = past by_globals (λ n ws. refl) no_by_globals xs vs i n end

no_by_params : (n : ℕ) (xs : List Param) → by_params n xs [] ≡ []
no_by_params n [] = refl
no_by_params n (x ∷ xs) = refl

pub by_params_past : (xs : List Param) (vs : List Value) (i n : ℕ) → min (length xs) (length vs) ≤ i → by_params n (drop i xs) (drop i vs) ≡ []
by_params_past xs vs i n end = past by_params (λ n ws. refl) no_by_params xs vs i n end

no_by_outs : (n : ℕ) (xs : List Param) → by_outs n xs [] ≡ []
no_by_outs n [] = refl
no_by_outs n (x ∷ xs) = refl

pub by_outs_past : (xs : List Param) (vs : List Value) (i n : ℕ) → min (length xs) (length vs) ≤ i → by_outs n (drop i xs) (drop i vs) ≡ []
by_outs_past xs vs i n end = past by_outs (λ n ws. refl) no_by_outs xs vs i n end
