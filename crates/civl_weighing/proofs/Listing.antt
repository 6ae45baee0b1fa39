-- Lists of weights.
use Rattle.std.proofs.Common.{◌≡◌, ℕ, zero, suc, ◌+◌, ◌<◌, ◌≤◌, List, [], ◌∷◌, ◌++◌, map, length, take, get_or, refl, sym, ap, ◌∙◌, subst, arith, Option, Bor}
use Rattle.std.specs.Prelude.{None, Some, slice_get}
use Rattle.std.specs.Option.{option_map_or, option_copied}
use Rattle.std.specs.Slice.{IsItemAt}
use Rattle.std.proofs.lemmas.List.{take_more, take_all, map-append, length-map}
use Rattle.std.proofs.lemmas.Option.{slice_get_past, slice_get_read, slice_get-get_or}
use Rattle.civl_conditions.specs.Weights.{summed}
use Rattle.civl_weighing.specs.declared.weight.Weight.{Weight}
use Rattle.civl_weighing.specs.Weighing.{capped, Weighs, AreWeights, IsSum, IsAt, AreSummed}
use Rattle.civl_weighing.proofs.Capping.{weighs_same, sum_weighs}
use Rattle.civl_weighing.proofs.Summing.{summed_append}

-- ---- what is pushed

pub pushed : {ws new : List Weight} {ns : List ℕ} {w : Weight} {n : ℕ} → new ≡ ws ++ w ∷ [] → AreWeights ws ns → Weighs w n → AreWeights new (ns ++ n ∷ [])
pushed {ws} {new} {ns} {w} {n} e h k = record {
  are = ap (λ (vs : List Weight). map (λ w. w.number) vs) e ∙ map-append (λ w. w.number) ws (w ∷ [])
      ∙ ap (λ (ms : List ℕ). ms ++ w.number ∷ []) h.are ∙ ap (λ (m : ℕ). map capped ns ++ m ∷ []) k.is ∙ sym (map-append capped ns (n ∷ []));
}

-- one more
pub each_more : {A : Type 0} (f : A → ℕ) (xs : List A) (i : ℕ) (x : A) {ws new : List Weight} {w : Weight} → i < length xs → x ≡ get_or xs i x → new ≡ ws ++ w ∷ [] → AreWeights ws (map f (take i xs)) → Weighs w (f x)
    → AreWeights new (map f (take (i + 1) xs))
each_more f xs i x {ws} {new} {w} l e n h k =
    let more : map f (take (i + 1) xs) ≡ map f (take i xs) ++ f x ∷ [] = ap (map f) (take_more xs i x l ∙ ap (λ y. take i xs ++ y ∷ []) (sym e)) ∙ map-append f (take i xs) (x ∷ []) in
    subst (AreWeights new) (sym more) (pushed n h k)

-- one more, of items that are copied
pub each_more_at : {A : Type 0} (f : A → ℕ) (xs : List A) (i : ℕ) (d : A) {ws new : List Weight} {w : Weight} → i < length xs → new ≡ ws ++ w ∷ [] → AreWeights ws (map f (take i xs)) → Weighs w (f (get_or xs i d))
    → AreWeights new (map f (take (i + 1) xs))
each_more_at f xs i d {ws} {new} {w} l n h k =
    let more : map f (take (i + 1) xs) ≡ map f (take i xs) ++ f (get_or xs i d) ∷ [] = ap (map f) (take_more xs i d l) ∙ map-append f (take i xs) (get_or xs i d ∷ []) in
    subst (AreWeights new) (sym more) (pushed n h k)

-- ---- what is at a place

at_place : (ws : List Weight) (ns : List ℕ) (at : ℕ) (w : Weight) → map (λ w. w.number) ws ≡ map capped ns → slice_get ws at ≡ Some w → w.number ≡ capped (get_or ns at 0)
at_place [] ns at w h e = absurd (none_some e)
  where
    none_some : {w : Weight} → None ≡ Some w → ⊥
    none_some e = cc
at_place (v ∷ ws) [] at w h e = absurd (cons_nil h)
  where
    cons_nil : {m : ℕ} {ms : List ℕ} → m ∷ ms ≡ [] → ⊥
    cons_nil e = cc
at_place (v ∷ ws) (n ∷ ns) zero w h e = sym (ap (λ (v : Weight). v.number) (some_same e)) ∙ head_same h
  where
    some_same : {v w : Weight} → Some v ≡ Some w → v ≡ w
    some_same e = cc

    head_same : {m n : ℕ} {ms ns : List ℕ} → m ∷ ms ≡ n ∷ ns → m ≡ n
    head_same e = cc
at_place (v ∷ ws) (n ∷ ns) (suc at) w h e = at_place ws ns at w (tail_same h) e
  where
    tail_same : {m n : ℕ} {ms ns : List ℕ} → m ∷ ms ≡ n ∷ ns → ms ≡ ns
    tail_same e = cc

pub found_at : {ws : List Weight} {at : ℕ} {w : Weight} → slice_get ws at ≡ Some w → IsAt ws at w
found_at {ws} {at} {w} e = record { is = λ ns h. record { is = at_place ws ns at w h.are e } }

behind_last : (ws : List Weight) (ns : List ℕ) (at : ℕ) → map (λ w. w.number) ws ≡ map capped ns → slice_get ws at ≡ None → get_or ns at 0 ≡ 0
behind_last ws [] at h e = refl
behind_last [] (n ∷ ns) at h e = absurd (nil_cons h)
  where
    nil_cons : {m : ℕ} {ms : List ℕ} → [] ≡ m ∷ ms → ⊥
    nil_cons e = cc
behind_last (w ∷ ws) (n ∷ ns) zero h e = absurd (some_none e)
  where
    some_none : {w : Weight} → Some w ≡ None → ⊥
    some_none e = cc
behind_last (w ∷ ws) (n ∷ ns) (suc at) h e = behind_last ws ns at (tail_same h) e
  where
    tail_same : {m n : ℕ} {ms ns : List ℕ} → m ∷ ms ≡ n ∷ ns → ms ≡ ns
    tail_same e = cc

pub none_at : {ws : List Weight} {at : ℕ} {w : Weight} → slice_get ws at ≡ None → Weighs w 0 → IsAt ws at w
none_at {ws} {at} {w} e h = record { is = λ ns k. weighs_same (sym (behind_last ws ns at k.are e)) h }

-- ---- sums

as_many : (ws : List Weight) (ns : List ℕ) → map (λ w. w.number) ws ≡ map capped ns → length ns ≡ length ws
as_many ws ns h = sym (length-map ns capped) ∙ sym (ap length h) ∙ length-map ws (λ w. w.number)

-- one more
pub total_more : (ws : List Weight) (ns : List ℕ) (i : ℕ) (d : Weight) {total sum : Weight} → i < length ws → AreWeights ws ns → IsSum total (get_or ws i d) sum → Weighs total (summed (take i ns)) → Weighs sum (summed (take (i + 1) ns))
total_more ws ns i d {total} {sum} l h s k =
    let here : Weighs (get_or ws i d) (get_or ns i 0) = (found_at (slice_get-get_or ws i d l)).is ns h in
    let same : summed (take (i + 1) ns) ≡ summed (take i ns) + get_or ns i 0 =
    ap summed (take_more ns i 0 (omega (arith, as_many ws ns h.are))) ∙ summed_append (take i ns) (get_or ns i 0 ∷ []) ∙ omega arith in
    weighs_same (sym same) (sum_weighs s k here)

-- all
pub total_all : (ws : List Weight) (ns : List ℕ) (i : ℕ) {total : Weight} → length ws ≤ i → AreWeights ws ns → Weighs total (summed (take i ns)) → Weighs total (summed ns)
total_all ws ns i l h k = weighs_same (ap summed (take_all i ns (omega (arith, as_many ws ns h.are)))) k

-- what is at a place of mapped items
pub mapped_at : {A : Type 0} (f : A → ℕ) (xs : List A) (at : ℕ) → get_or (map f xs) at 0 ≡ option_map_or f (slice_get xs at) 0
mapped_at f [] at = refl
mapped_at f (x ∷ xs) zero = refl
mapped_at f (x ∷ xs) (suc at) = mapped_at f xs at

-- ---- items behind references

map_twice : {A B : Type 0} (f : B → ℕ) (g : A → B) (xs : List A) → map (λ x. f (g x)) xs ≡ map f (map g xs)
map_twice f g [] = refl
map_twice f g (x ∷ xs) = ap (λ (ns : List ℕ). f (g x) ∷ ns) (map_twice f g xs)

pub through : {A B : Type 0} (f : B → ℕ) (g : A → B) (xs : List A) {ws : List Weight} → AreWeights ws (map (λ x. f (g x)) xs) → AreWeights ws (map f (map g xs))
through f g xs {ws} h = subst (AreWeights ws) (map_twice f g xs) h

-- what is at a place of weights that are lent
pub listed_at : {A : Type 0} (f : A → ℕ) (xs : List A) (at : ℕ) {shown ws : List Weight} {w : Weight} → shown ≡ ws → AreWeights ws (map f xs) → IsAt shown at w → Weighs w (option_map_or f (slice_get xs at) 0)
listed_at f xs at {shown} {ws} {w} e h k = weighs_same (mapped_at f xs at) (k.is (map f xs) (subst (λ (vs : List Weight). AreWeights vs (map f xs)) (sym e) h))

-- the length of the list at a place
length_at : {A : Type 0} (xs : List (List A)) (at : ℕ) → get_or (map length xs) at 0 ≡ length (get_or xs at [])
length_at [] at = refl
length_at (x ∷ xs) zero = refl
length_at (x ∷ xs) (suc at) = length_at xs at

pub lengths_at : {A : Type 0} (xs : List (List A)) (at : ℕ) {shown ws : List Weight} {w : Weight} → shown ≡ ws → AreWeights ws (map length xs) → IsAt shown at w → Weighs w (length (get_or xs at []))
lengths_at xs at {shown} {ws} {w} e h k = weighs_same (length_at xs at) (k.is (map length xs) (subst (λ (vs : List Weight). AreWeights vs (map length xs)) (sym e) h))

-- all
pub each_all : {A : Type 0} (f : A → ℕ) (xs : List A) (i : ℕ) {ws : List Weight} → length xs ≤ i → AreWeights ws (map f (take i xs)) → AreWeights ws (map f xs)
each_all f xs i {ws} l h = subst (λ (ys : List _). AreWeights ws (map f ys)) (take_all i xs l) h

-- those at places that are lent
pub summed_at : (ns : List ℕ) {ws : List Weight} {shown places : List ℕ} {w : Weight} → shown ≡ places → AreSummed ws shown w → AreWeights ws ns → Weighs w (summed (map (λ at. get_or ns at 0) places))
summed_at ns e s h = weighs_same (ap (λ (ps : List ℕ). summed (map (λ at. get_or ns at 0) ps)) e) (s.is ns h)

-- weights at a number and over a list that are other ones
pub moved : {A : Type 0} (f : ℕ → A → ℕ) {k m : ℕ} {xs ys : List A} {ws : List Weight} → k ≡ m → xs ≡ ys → AreWeights ws (map (f k) xs) → AreWeights ws (map (f m) ys)
moved f {k} {m} {xs} {ys} {ws} e d h = subst (λ (zs : List _). AreWeights ws (map (f m) zs)) d (subst (λ (n : ℕ). AreWeights ws (map (f n) xs)) e h)

-- ---- what is got from a slice

pub got : {A : Type 0} (xs : List A) (i : ℕ) (r : Option (Bor A)) → IsItemAt xs i r → option_copied r ≡ slice_get xs i
got xs i None h = sym (slice_get_past xs i h.3)
got xs i (Some x) h = sym (slice_get_read xs (length xs) i x.now refl h.3.0 h.1)

-- what is got from a list that is lent
pub got_of : {A : Type 0} (shown xs : List A) (i : ℕ) (r : Option (Bor A)) → shown ≡ xs → IsItemAt shown i r → slice_get xs i ≡ option_copied r
got_of shown xs i r e h = ap (λ l. slice_get l i) (sym e) ∙ sym (got shown i r h)
