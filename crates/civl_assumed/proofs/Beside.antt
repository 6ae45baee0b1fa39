-- Where one of two lists has no more elements, there are no permissions.
use Rattle.std.proofs.Common.{◌≡◌, ℕ, ◌<◌, ◌≤◌, List, [], ◌∷◌, length, drop, refl, ap, ◌∙◌, arith, min, ◌⊎◌, inl, inr}
use Rattle.std.proofs.lemmas.List.{drop_all}
use Rattle.std.proofs.lemmas.Bool.{cases_lt}
use Rattle.civl_bits.specs.declared.value.Value.{Value}
use Rattle.civl_tree.specs.declared.action.Param.{Param}
use Rattle.civl_tree.specs.declared.program.Global.{Global}
use Rattle.civl_meaning.specs.Permissions.{of_globals, of_params}

module _ {A : Type 0} (permissions : List A → List Value → List (List ℕ)) (nothing : (vs : List Value) → permissions [] vs ≡ []) (none : (xs : List A) → permissions xs [] ≡ []) (xs : List A) (vs : List Value) (i : ℕ) where
  past : min (length xs) (length vs) ≤ i → permissions (drop i xs) (drop i vs) ≡ []
  past end = either (cases_lt i (length xs))
    where
      either : (i < length xs) ⊎ (length xs ≤ i) → permissions (drop i xs) (drop i vs) ≡ []
      either (inl more) = ap (λ (ws : List Value). permissions (drop i xs) ws) (drop_all i vs (omega arith)) ∙ none (drop i xs)
      either (inr gone) = ap (λ (ys : List A). permissions ys (drop i vs)) (drop_all i xs gone) ∙ nothing (drop i vs)

no_values : (gs : List Global) → of_globals gs [] ≡ []
no_values [] = refl
no_values (g ∷ gs) = refl

pub globals_past : (gs : List Global) (vs : List Value) (i : ℕ) → min (length gs) (length vs) ≤ i → of_globals (drop i gs) (drop i vs) ≡ []
globals_past gs vs i end = past of_globals (λ ws. refl) no_values gs vs i end

no_args : (ps : List Param) → of_params ps [] ≡ []
no_args [] = refl
no_args (p ∷ ps) = refl

pub params_past : (ps : List Param) (vs : List Value) (i : ℕ) → min (length ps) (length vs) ≤ i → of_params (drop i ps) (drop i vs) ≡ []
params_past ps vs i end = past of_params (λ ws. refl) no_args ps vs i end
