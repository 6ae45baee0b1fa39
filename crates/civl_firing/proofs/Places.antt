-- The place of a name among names.
use Rattle.std.proofs.Common.{◌≡◌, ℕ, ◌+◌, ◌<◌, Bool, true, false, cond, List, ◌∷◌, length, drop, get_or, slice_get, Some, Decides, sym, ap, ◌∙◌, refl, arith, add-one, add-zero, zero-add, drop-cons, zero, suc, ◌≤◌}
use Rattle.std.specs.Str.{bytes_eq}
use Rattle.std.proofs.lemmas.Slice.Eq.{bytes_eq-Decides}
use Rattle.std.proofs.lemmas.Option.{get_or_from_slice_get}
use Rattle.std.proofs.lemmas.List.{get_or_past}
use Rattle.civl_tree.specs.declared.name.Name.{Name}
use Rattle.civl_firing.specs.Truth.{place_of}
use Rattle.civl_firing.specs.Table.{bit_of, bits_from, store_at}

-- a test is false where what it decides isn't so
is_false : (b : Bool) (P : Type 0) → Decides b P → (P → ⊥) → b ≡ false
is_false true P decides refuted = absurd (refuted (decides.0 refl))
is_false false P decides refuted = refl

-- at the first of the rest
pub place_of-drop : (names : List Name) (i : ℕ) (known name : Name) → i < length names → slice_get names i ≡ Some known → place_of (drop i names) name ≡ cond (bytes_eq known.bytes name.bytes) 0 (place_of (drop (i + 1) names) name + 1)
place_of-drop names i known name below is =
    let here : drop i names ≡ known ∷ drop (i + 1) names = rw (add-one, drop-cons names i known, get_or_from_slice_get names i known known is) refl in
    ap (λ (ns : List Name). place_of ns name) here

-- at a name that is the one sought
pub place_of-here : (names : List Name) (i : ℕ) (known name : Name) → i < length names → slice_get names i ≡ Some known → known ≡ name → place_of (drop i names) name ≡ 0
place_of-here names i known name below is same =
    let test : bytes_eq known.bytes name.bytes ≡ true = (bytes_eq-Decides known.bytes name.bytes).1 (ap (λ (n : Name). n.bytes) same) in
    place_of-drop names i known name below is ∙ ap (λ b. cond b 0 (place_of (drop (i + 1) names) name + 1)) test

-- past a name that is another one
pub place_of-past : (names : List Name) (i : ℕ) (known name : Name) → i < length names → slice_get names i ≡ Some known → (known ≡ name → ⊥) → place_of (drop i names) name ≡ place_of (drop (i + 1) names) name + 1
place_of-past names i known name below is other =
    let differ : known.bytes ≡ name.bytes → ⊥ = λ e. other (ap (λ (b : List ℕ). record { bytes = b }) e) in
    let test : bytes_eq known.bytes name.bytes ≡ false = is_false _ _ (bytes_eq-Decides known.bytes name.bytes) differ in
    place_of-drop names i known name below is ∙ ap (λ b. cond b 0 (place_of (drop (i + 1) names) name + 1)) test

pub length-bits_from : (place count number : ℕ) → length (bits_from place count number) ≡ count
length-bits_from place zero number = refl
length-bits_from place (suc count) number = ap suc (length-bits_from (suc place) count number)

-- a bit of the store with this number
pub get_or-bits_from : (place count number i : ℕ) → i < count → get_or (bits_from place count number) i false ≡ bit_of (place + i) number
get_or-bits_from place zero number i below = absurd (omega arith)
get_or-bits_from place (suc count) number zero below = ap (λ p. bit_of p number) (sym (add-zero place))
get_or-bits_from place (suc count) number (suc i) below =
    get_or-bits_from (suc place) count number i (omega arith) ∙ ap (λ p. bit_of p number) (omega arith)

pub stored_at : (count number i : ℕ) → i < count → get_or (store_at count number) i false ≡ bit_of i number
stored_at count number i below = get_or-bits_from 0 count number i below ∙ ap (λ p. bit_of p number) (zero-add i)

pub stored_past : (count number i : ℕ) → count ≤ i → get_or (store_at count number) i false ≡ false
stored_past count number i past = get_or_past (store_at count number) i false (omega (arith, length-bits_from 0 count number))

pub ruleset stored = (stored_at, stored_past)
