-- The first of the places in items, item by item.
use Rattle.std.proofs.Common.{◌≡◌, ℕ, ◌+◌, ◌<◌, ◌≤◌, List, [], ◌∷◌, ◌++◌, map, drop, length, get_or, None, Some, refl, sym, ap, ◌∙◌}
use Rattle.std.specs.Prelude.{Option, option_map}
use Rattle.std.proofs.lemmas.List.{drop_more, drop_all, map-append}
use Rattle.civl_tree.specs.rules.Rules.{Place, statement_places, each_place, first_of}
use Rattle.civl_names.proofs.walks.Walking.{or_first, first_append}
use Rattle.civl_goals.specs.Told.{told}

module _ {T R : Type 0} (tell : Place → R) (f : ℕ → T → List Place) (items : List T) (at : ℕ) where
  step : (item : T) → at < length items → item ≡ get_or items at item → each_place f at (drop at items) ≡ f at item ++ each_place f (at + 1) (drop (at + 1) items)
  unfolding each_place
  step item l e = ap (each_place f at) (drop_more items at item l ∙ ap (λ (x : T). x ∷ drop (at + 1) items) (sym e))

  abbrev from_next : Option R
  from_next = first_of (map tell (each_place f (at + 1) (drop (at + 1) items)))

  split : (item : T) → at < length items → item ≡ get_or items at item
      → first_of (map tell (each_place f at (drop at items))) ≡ or_first (first_of (map tell (f at item))) from_next
  split item l e =
      ap (λ (places : List Place). first_of (map tell places)) (step item l e)
      ∙ ap first_of (map-append tell (f at item) (each_place f (at + 1) (drop (at + 1) items)))
      ∙ first_append (map tell (f at item)) (map tell (each_place f (at + 1) (drop (at + 1) items)))

  -- the item at this place has one, and it is the first of all that are left
  pub found_item : (item : T) (place : R) → at < length items → item ≡ get_or items at item → Some place ≡ first_of (map tell (f at item))
      → first_of (map tell (each_place f at (drop at items))) ≡ Some place
  found_item item place l e h = split item l e ∙ ap (λ (o : Option R). or_first o from_next) (sym h)

  -- it has none
  pub found_behind : (item : T) → at < length items → item ≡ get_or items at item → None ≡ first_of (map tell (f at item))
      → from_next ≡ first_of (map tell (each_place f at (drop at items)))
  found_behind item l e h = sym (split item l e ∙ ap (λ (o : Option R). or_first o from_next) (sym h))

  -- no item is left
  pub found_none : length items ≤ at → first_of (map tell (each_place f at (drop at items))) ≡ None
  unfolding each_place
  found_none l = ap (λ (xs : List T). first_of (map tell (each_place f at xs))) (drop_all at items l)

-- a statement of an item is told with the item
pub first_told : (item : ℕ) (numbers : List ℕ) → first_of (map told (statement_places item numbers)) ≡ option_map (λ number. (item, number)) (first_of numbers)
first_told item [] = refl
first_told item (number ∷ numbers) = refl

-- the first of two lists of places
pub first_both : (xs ys : List Place) → first_of (map told (xs ++ ys)) ≡ or_first (first_of (map told xs)) (first_of (map told ys))
first_both [] ys = refl
first_both (x ∷ xs) ys = refl
