-- The store with the shadow's values, one value at a time.
use Rattle.std.proofs.Common.{◌≡◌, ℕ, ◌+◌, ◌<◌, ◌≤◌, List, [], ◌∷◌, drop, length, get_or, refl, sym, ap, ◌∙◌}
use Rattle.std.proofs.lemmas.List.{drop_all}
use Rattle.std.specs.Prelude.{nat_eq, if◌then◌else◌}
use Rattle.civl_bits.specs.declared.value.Value.{Value}
use Rattle.civl_tree.specs.declared.program.Global.{Global}
use Rattle.civl_tree.proofs.Lists.{drop_is}
use Rattle.civl_reduction.specs.blocks.Shadow.{merged_values}
use Rattle.civl_shadows.specs.inner.Merging.{picked}
use Rattle.civl_shadows.proofs.Dropping.{tail, drop_tail}

merged_none : (first : ℕ) (gs : List Global) (vs : List Value) → merged_values first gs vs [] ≡ vs
merged_none first [] vs = refl
merged_none first (g ∷ gs) [] = refl
merged_none first (g ∷ gs) (v ∷ vs) = refl

merged_more : (first : ℕ) (gs : List Global) (v : Value) (vs ws : List Value) → merged_values first gs (v ∷ vs) ws ≡ picked first gs v ws ∷ merged_values first (tail gs) vs (tail ws)
merged_more first [] v vs ws = refl
merged_more first (g ∷ gs) v vs [] = ap (λ (l : List Value). v ∷ l) (sym (merged_none first gs vs))
merged_more first (g ∷ gs) v vs (w ∷ ws) = refl

-- the value at a place, and those behind it
pub merged_at : (first at : ℕ) (gs : List Global) (vs ws : List Value) (v : Value) → at < length vs → v ≡ get_or vs at v
    → merged_values first (drop at gs) (drop at vs) (drop at ws) ≡ picked first (drop at gs) v (drop at ws) ∷ merged_values first (drop (at + 1) gs) (drop (at + 1) vs) (drop (at + 1) ws)
merged_at first at gs vs ws v h e =
    ap (λ (l : List Value). merged_values first (drop at gs) l (drop at ws)) (drop_is vs at v h e)
    ∙ (merged_more first (drop at gs) v (drop (at + 1) vs) (drop at ws)
    ∙ (ap (λ (l : List Global). picked first (drop at gs) v (drop at ws) ∷ merged_values first l (drop (at + 1) vs) (tail (drop at ws))) (sym (drop_tail at gs))
    ∙ ap (λ (l : List Value). picked first (drop at gs) v (drop at ws) ∷ merged_values first (drop (at + 1) gs) (drop (at + 1) vs) l) (sym (drop_tail at ws))))

pub merged_end : (first at : ℕ) (gs : List Global) (vs ws : List Value) → length vs ≤ at → merged_values first (drop at gs) (drop at vs) (drop at ws) ≡ []
merged_end first at gs vs ws h = ap (λ (l : List Value). merged_values first (drop at gs) l (drop at ws)) (drop_all at vs h) ∙ none first (drop at gs) (drop at ws)
  where
    none : (first : ℕ) (gs : List Global) (ws : List Value) → merged_values first gs [] ws ≡ []
    none first [] ws = refl
    none first (g ∷ gs) ws = refl

-- ---- one value

pub picked_past : (first at : ℕ) (gs : List Global) (v : Value) (ws : List Value) → length gs ≤ at → picked first (drop at gs) v (drop at ws) ≡ v
picked_past first at gs v ws h = ap (λ (l : List Global). picked first l v (drop at ws)) (drop_all at gs h)

pub picked_none : (first at : ℕ) (gs : List Global) (v : Value) (ws : List Value) → length ws ≤ at → picked first (drop at gs) v (drop at ws) ≡ v
picked_none first at gs v ws h = ap (λ (l : List Value). picked first (drop at gs) v l) (drop_all at ws h) ∙ none (drop at gs)
  where
    none : (gs : List Global) → picked first gs v [] ≡ v
    none [] = refl
    none (g ∷ gs) = refl

pub picked_there : (first at : ℕ) (gs : List Global) (v : Value) (ws : List Value) (g : Global) (w : Value) → at < length gs → g ≡ get_or gs at g → at < length ws → w ≡ get_or ws at w
    → picked first (drop at gs) v (drop at ws) ≡ (if nat_eq g.first first then w else v)
picked_there first at gs v ws g w h e i f =
    ap (λ (l : List Global). picked first l v (drop at ws)) (drop_is gs at g h e) ∙ ap (λ (l : List Value). picked first (g ∷ drop (at + 1) gs) v l) (drop_is ws at w i f)
