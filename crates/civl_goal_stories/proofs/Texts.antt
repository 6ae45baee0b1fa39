-- Texts of changes, one behind the other.
use Rattle.std.proofs.Common.{◌≡◌, ◌∙◌, ℕ, ◌+◌, ◌<◌, ◌≤◌, ◌⊎◌, inl, inr, List, [], ◌∷◌, ◌++◌}
use Rattle.std.proofs.Common.{length, drop, get_or, min, refl, sym, ap, ap₂, arith}
use Rattle.std.proofs.lemmas.List.{drop_all, drop_more}
use Rattle.std.proofs.lemmas.Bool.{cases_lt}
use Rattle.civl_bits.specs.declared.value.Value.{Value}
use Rattle.civl_tree.specs.declared.name.Name.{Name}
use Rattle.civl_goal_stories.specs.Frames.{change_at, changes}

module _ (names : List Name) (first i : ℕ) where
  -- what is told of these values, which stand behind so many
  abbrev told : List Value → List Value → List (List ℕ)
  told vs ws = changes names (first + i) vs ws

  opened : (vs : List Value) (v : Value) → i < length vs → v ≡ get_or vs i v → drop i vs ≡ v ∷ drop (i + 1) vs
  opened vs v below is = drop_more vs i v below ∙ ap (λ (w : Value). w ∷ drop (i + 1) vs) (sym is)

  pub change_here : (vs ws : List Value) (v w : Value) → i < length vs → v ≡ get_or vs i v → i < length ws → w ≡ get_or ws i w
      → told (drop i vs) (drop i ws)
      ≡ change_at names (first + i) v w ++ changes names (first + (i + 1)) (drop (i + 1) vs) (drop (i + 1) ws)
  change_here vs ws v w below is also here =
      let behind : first + i + 1 ≡ first + (i + 1) = omega arith in
      ap₂ told (opened vs v below is) (opened ws w also here)
      ∙ ap (λ (k : ℕ). change_at names (first + i) v w ++ changes names k (drop (i + 1) vs) (drop (i + 1) ws)) behind

  no_after : (vs : List Value) → told vs [] ≡ []
  no_after [] = refl
  no_after (v ∷ vs) = refl

  pub no_change : (vs ws : List Value) → min (length vs) (length ws) ≤ i → told (drop i vs) (drop i ws) ≡ []
  no_change vs ws end = either (cases_lt i (length vs))
    where
      either : (i < length vs) ⊎ (length vs ≤ i) → told (drop i vs) (drop i ws) ≡ []
      either (inl more) = ap (told (drop i vs)) (drop_all i ws (omega arith)) ∙ no_after (drop i vs)
      either (inr gone) = ap (λ (us : List Value). told us (drop i ws)) (drop_all i vs gone)
