-- Where one of the lists has no more elements, nothing is said; and texts that are joined, by the first of them.
use Rattle.std.specs.Prelude.{codes}
use Rattle.std.specs.List.{flat_map}
use Rattle.std.proofs.Common.{◌≡◌, ℕ, ◌<◌, ◌≤◌, List, [], ◌∷◌, ◌++◌, length, drop, get_or, refl, ap, ◌∙◌, arith, min, ◌⊎◌, inl, inr}
use Rattle.std.proofs.lemmas.List.{drop_all}
use Rattle.std.proofs.lemmas.Bool.{cases_lt}
use Rattle.civl_bits.specs.declared.value.Value.{Value}
use Rattle.civl_tree.specs.declared.name.Name.{Name}
use Rattle.civl_tree.specs.declared.action.Param.{Param}
use Rattle.civl_tree.specs.declared.action.Choice.{Choice}
use Rattle.civl_tree.specs.declared.program.Global.{Global}
use Rattle.civl_tree.specs.rules.Names.{param_names}
use Rattle.civl_firing.specs.Scope.{choice_names}
use Rattle.civl_verdicts.specs.models.Text.{listed}
use Rattle.civl_action_stories.specs.Actors.{changes, equations}

-- the first of some texts, and the others
pub listed_is : (texts : List (List ℕ)) (first : List ℕ) → 0 < length texts → first ≡ get_or texts 0 first
    → first ++ flat_map (λ text. codes ", " ++ text) (drop 1 texts) ≡ listed texts
listed_is [] first some is = absurd (omega arith)
listed_is (text ∷ texts) first some is = ap (λ (t : List ℕ). t ++ flat_map (λ text. codes ", " ++ text) texts) is

module _ {A : Type 0} (said : List A → List Value → List (List ℕ)) (nothing : (vs : List Value) → said [] vs ≡ []) (none : (xs : List A) → said xs [] ≡ []) (xs : List A) (vs : List Value) (i : ℕ) where
  past : min (length xs) (length vs) ≤ i → said (drop i xs) (drop i vs) ≡ []
  past end = either (cases_lt i (length xs))
    where
      either : (i < length xs) ⊎ (length xs ≤ i) → said (drop i xs) (drop i vs) ≡ []
      either (inl more) = ap (λ (ws : List Value). said (drop i xs) ws) (drop_all i vs (omega arith)) ∙ none (drop i xs)
      either (inr gone) = ap (λ (ys : List A). said ys (drop i vs)) (drop_all i xs gone) ∙ nothing (drop i vs)

no_params : (ps : List Param) → equations (param_names ps) [] ≡ []
no_params [] = refl
no_params (p ∷ ps) = refl

pub params_past : (ps : List Param) (vs : List Value) (i : ℕ) → min (length ps) (length vs) ≤ i → equations (param_names (drop i ps)) (drop i vs) ≡ []
params_past ps vs i end = past (λ qs ws. equations (param_names qs) ws) (λ ws. refl) no_params ps vs i end

no_choices : (cs : List Choice) → equations (choice_names cs) [] ≡ []
no_choices [] = refl
no_choices (c ∷ cs) = refl

pub choices_past : (cs : List Choice) (vs : List Value) (i : ℕ) → min (length cs) (length vs) ≤ i → equations (choice_names (drop i cs)) (drop i vs) ≡ []
choices_past cs vs i end = past (λ ds ws. equations (choice_names ds) ws) (λ ws. refl) no_choices cs vs i end

no_before : (gs : List Global) (ws : List Value) → changes gs [] ws ≡ []
no_before [] ws = refl
no_before (g ∷ gs) ws = refl

no_after : (gs : List Global) (vs : List Value) → changes gs vs [] ≡ []
no_after [] vs = refl
no_after (g ∷ gs) [] = refl
no_after (g ∷ gs) (v ∷ vs) = refl

module _ (gs : List Global) (vs ws : List Value) (i : ℕ) where
  pub changes_past : min (min (length gs) (length vs)) (length ws) ≤ i → changes (drop i gs) (drop i vs) (drop i ws) ≡ []
  changes_past end = first (cases_lt i (length gs))
    where
      second : i < length gs → (i < length vs) ⊎ (length vs ≤ i) → changes (drop i gs) (drop i vs) (drop i ws) ≡ []
      second more (inl moreover) = ap (λ (us : List Value). changes (drop i gs) (drop i vs) us) (drop_all i ws (omega arith)) ∙ no_after (drop i gs) (drop i vs)
      second more (inr gone) = ap (λ (us : List Value). changes (drop i gs) us (drop i ws)) (drop_all i vs gone) ∙ no_before (drop i gs) (drop i ws)

      first : (i < length gs) ⊎ (length gs ≤ i) → changes (drop i gs) (drop i vs) (drop i ws) ≡ []
      first (inl more) = second more (cases_lt i (length vs))
      first (inr gone) = ap (λ (hs : List Global). changes hs (drop i vs) (drop i ws)) (drop_all i gs gone)
