-- Values that have their sorts: several lists of them, zeros, and one value set.
use Rattle.std.proofs.Common.{◌≡◌, ℕ, zero, suc, ◌+◌, Bool, true, false, List, [], ◌∷◌, ◌++◌, map, length, take, drop, refl, sym, ap, ◌∙◌, Some, slice_get, slice_set, add-one}
use Rattle.std.specs.Prelude.{if◌then◌else◌}
use Rattle.std.specs.List.{list_any}
use Rattle.std.specs.Str.{bytes_eq}
use Rattle.std.proofs.lemmas.Bool.{false≢true, or_parts}
use Rattle.civl_bits.specs.declared.value.Value.{Value}
use Rattle.civl_tree.specs.declared.name.Name.{Name}
use Rattle.civl_tree.specs.declared.expr.Sort.{Sort}
use Rattle.civl_tree.specs.rules.Scopes.{Binding, sort_in}
use Rattle.civl_firing.specs.values.Values.{HasSort, HaveSorts, zero_of, is_sort}
use Rattle.civl_firing.proofs.values.Zeros.{zeros_have_their_sorts}
use Rattle.civl_firing.specs.Truth.{place_of}
use Rattle.civl_firing.proofs.Having.{no_sorts, more_sorts, first_sort, rest_sorts, Found, nothing_found, found_more}
use Rattle.civl_meaning.proofs.Bindings.{names_of, sorts_of}

-- ---- several lists

-- those of the first declarations
pub first_values : {A : Type 0} (sort_at : A → Sort) (xs : List A) (others : List Sort) (values : List Value) → HaveSorts values (map sort_at xs ++ others) → HaveSorts (take (length xs) values) (map sort_at xs)
first_values sort_at [] others values h = no_sorts
first_values sort_at (x ∷ xs) others [] h = absurd (false≢true h.are)
first_values sort_at (x ∷ xs) others (v ∷ values) h =
    more_sorts v (sort_at x) (take (length xs) values) (map sort_at xs) (first_sort v (sort_at x) values (map sort_at xs ++ others) h) (first_values sort_at xs others values (rest_sorts v (sort_at x) values (map sort_at xs ++ others) h))

-- and of those behind them
pub rest_values : {A : Type 0} (sort_at : A → Sort) (xs : List A) (others : List Sort) (values : List Value) → HaveSorts values (map sort_at xs ++ others) → HaveSorts (drop (length xs) values) others
rest_values sort_at [] others values h = h
rest_values sort_at (x ∷ xs) others [] h = absurd (false≢true h.are)
rest_values sort_at (x ∷ xs) others (v ∷ values) h = rest_values sort_at xs others values (rest_sorts v (sort_at x) values (map sort_at xs ++ others) h)

-- ---- zeros

pub zeros_fit : {A : Type 0} (sort_at : A → Sort) (xs : List A) → ((i : ℕ) (x : A) → slice_get xs i ≡ Some x → is_sort (sort_at x) ≡ true) → HaveSorts (map (λ x. zero_of (sort_at x)) xs) (map sort_at xs)
zeros_fit sort_at [] h = no_sorts
zeros_fit sort_at (x ∷ xs) h =
    more_sorts (zero_of (sort_at x)) (sort_at x) (map (λ y. zero_of (sort_at y)) xs) (map sort_at xs) (zeros_have_their_sorts (sort_at x) (h zero x refl)) (zeros_fit sort_at xs (λ i y e. h (suc i) y e))

pub none_at : {A : Type 0} (p : A → Bool) (xs : List A) → list_any p xs ≡ false → (i : ℕ) (x : A) → slice_get xs i ≡ Some x → p x ≡ false
none_at p [] n i x e = absurd (cc)
none_at p (y ∷ ys) n zero x e = let q : y ≡ x = cc in ap p (sym q) ∙ (or_parts (p y) (list_any p ys) n).0
none_at p (y ∷ ys) n (suc i) x e = none_at p ys (or_parts (p y) (list_any p ys) n).1 i x e

-- ---- the values of bindings

pub found_in : (bs : List Binding) (values : List Value) → HaveSorts values (sorts_of bs) → Found (names_of bs) values bs
found_in [] [] h = nothing_found
found_in [] (v ∷ values) h = absurd (false≢true h.are)
found_in (b ∷ bs) [] h = absurd (false≢true h.are)
found_in (b ∷ bs) (v ∷ values) h = found_more b.name (names_of bs) v values b.sort bs (first_sort v b.sort values (sorts_of bs) h) (found_in bs values (rest_sorts v b.sort values (sorts_of bs) h))

-- a value of its sort is set under a name; where there is no such name nothing changes
pub set_fits : (bs : List Binding) (values : List Value) (name : Name) (v : Value) → HaveSorts values (sorts_of bs) → ((s : Sort) → sort_in bs name ≡ Some s → HasSort v s) → HaveSorts (slice_set values (place_of (names_of bs) name) v) (sorts_of bs)
set_fits [] [] name v h f = no_sorts
set_fits [] (w ∷ values) name v h f = absurd (false≢true h.are)
set_fits (b ∷ bs) [] name v h f = absurd (false≢true h.are)
set_fits (b ∷ bs) (w ∷ values) name v h f = by_first (bytes_eq b.name.bytes name.bytes) f (λ g. set_fits bs values name v (rest_sorts w b.sort values (sorts_of bs) h) g)
  where
    place : ℕ
    place = place_of (names_of bs) name

    by_first : (c : Bool) → ((s : Sort) → (if c then Some b.sort else sort_in bs name) ≡ Some s → HasSort v s) →
        (((s : Sort) → sort_in bs name ≡ Some s → HasSort v s) → HaveSorts (slice_set values place v) (sorts_of bs)) →
        HaveSorts (slice_set (w ∷ values) (if c then 0 else place + 1) v) (b.sort ∷ sorts_of bs)
    by_first true g later = more_sorts v b.sort values (sorts_of bs) (g b.sort refl) (rest_sorts w b.sort values (sorts_of bs) h)
    by_first false g later = rw (add-one place) (more_sorts w b.sort (slice_set values place v) (sorts_of bs) (first_sort w b.sort values (sorts_of bs) h) (later g))
