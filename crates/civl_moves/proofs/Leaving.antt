-- Which terms a move leaves as they were.
use Rattle.std.specs.Prelude.{slice_index_or, take}
use Rattle.std.proofs.Common.{◌≡◌, ◌∙◌, ℕ, zero, suc, ◌+◌, ◌<◌, true, List, [], ◌∷◌, ◌++◌, length, map, set, refl, sym, ap, subst, arith, Some}
use Rattle.std.proofs.lemmas.List.{take_more, length-take-le, map-append}
use Rattle.std.proofs.lemmas.Option.{none-some}
use Rattle.std.proofs.lemmas.Bool.{or_left, or_right}
use Rattle.civl_tree.specs.declared.name.Name.{Name}
use Rattle.civl_tree.specs.rules.Names.{same_name, has_name}
use Rattle.civl_tree.proofs.Naming.{bytes_same}
use Rattle.civl_firing.specs.Truth.{place_of}
use Rattle.civl_actions.specs.Actions.{LeavesOthers}
use Rattle.civl_actions.proofs.Leaving.{leaves_none, leaves_set}
use Rattle.civl_moves.specs.declared.sweep.Stop.{Stop}
use Rattle.civl_moves.specs.Branches.{KeepsSame}
use Rattle.civl_moves.specs.Calls.{with_outs_of}

-- ---- writes

own_name : (x : Name) (xs : List Name) → has_name (x ∷ xs) x ≡ true
own_name x xs = or_left (same_name x x) (has_name xs x) (bytes_same x x refl)

-- one name is written
pub one_written : (names : List Name) (ids after : List ℕ) (x : Name) (id : ℕ) → after ≡ set ids (place_of names x) id → LeavesOthers names (x ∷ []) ids after
one_written names ids after x id e = subst (LeavesOthers names (x ∷ []) ids) (sym e) (leaves_set names (x ∷ []) ids ids x id (own_name x []) (leaves_none names (x ∷ []) ids))

-- results are written
all_written : (names written : List Name) (before ids : List ℕ) (rs : List Name) (outs : List ℕ) → ((x : Name) → has_name rs x ≡ true → has_name written x ≡ true) → LeavesOthers names written before ids → LeavesOthers names written before (with_outs_of names ids rs outs)
all_written names written before ids [] outs f h = h
all_written names written before ids (r ∷ rs) [] f h = h
all_written names written before ids (r ∷ rs) (o ∷ outs) f h =
    all_written names written before (set ids (place_of names r) o) rs outs (λ x e. f x (or_right (same_name x r) (has_name rs x) e)) (leaves_set names written before ids r o (f r (own_name r rs)) h)

pub results_written : (names : List Name) (ids after : List ℕ) (rs : List Name) (outs : List ℕ) → after ≡ with_outs_of names ids rs outs → LeavesOthers names rs ids after
results_written names ids after rs outs e = subst (LeavesOthers names rs ids) (sym e) (all_written names rs ids ids rs outs (λ x h. h) (leaves_none names rs ids))

-- ---- terms that are the same in both branches

pub same_none : KeepsSame [] [] []
same_none place id e f = e

same_push : (xs ys ids : List ℕ) (x y id : ℕ) → length ids ≡ length xs → length ys ≡ length xs → (x ≡ y → id ≡ x) → KeepsSame xs ys ids → KeepsSame (xs ++ x ∷ []) (ys ++ y ∷ []) (ids ++ id ∷ [])
same_push [] [] [] x y id l m f h zero i e g =
    let a : x ≡ i = cc in
    let b : y ≡ i = cc in
    ap (λ (k : ℕ). Some k) (f (a ∙ sym b) ∙ a)
same_push [] [] [] x y id l m f h (suc place) i e g = absurd (none-some i e)
same_push [] [] (z ∷ ids) x y id l m f h place i e g = absurd (omega (arith, l))
same_push [] (z ∷ ys) ids x y id l m f h place i e g = absurd (omega (arith, m))
same_push (z ∷ xs) [] ids x y id l m f h place i e g = absurd (omega (arith, m))
same_push (z ∷ xs) (w ∷ ys) [] x y id l m f h place i e g = absurd (omega (arith, l))
same_push (z ∷ xs) (w ∷ ys) (v ∷ ids) x y id l m f h zero i e g = h zero i e g
same_push (z ∷ xs) (w ∷ ys) (v ∷ ids) x y id l m f h (suc place) i e g = same_push xs ys ids x y id (omega (arith, l)) (omega (arith, m)) f (λ p k. h (suc p) k) place i e g

pub same_step : (xs ys ids more : List ℕ) (i id : ℕ) → i < length xs → i < length ys → length ids ≡ i → (slice_index_or xs i 0 ≡ slice_index_or ys i 0 → id ≡ slice_index_or xs i 0) → KeepsSame (take i xs) (take i ys) ids → more ≡ ids ++ id ∷ []
    → KeepsSame (take (i + 1) xs) (take (i + 1) ys) more
same_step xs ys ids more i id l m n f h e =
    let x = slice_index_or xs i 0 in
    let y = slice_index_or ys i 0 in
    let a = length-take-le i xs (omega (arith, l)) in
    let b = length-take-le i ys (omega (arith, m)) in
    let next = same_push (take i xs) (take i ys) ids x y id (omega (arith, a, n)) (omega (arith, a, b)) f h in
    subst (λ (zs : List ℕ). KeepsSame (take (i + 1) xs) (take (i + 1) ys) zs) (sym e)
    (subst (λ (zs : List ℕ). KeepsSame (take (i + 1) xs) zs (ids ++ id ∷ [])) (sym (take_more ys i 0 m))
    (subst (λ (zs : List ℕ). KeepsSame zs (take i ys ++ y ∷ []) (ids ++ id ∷ [])) (sym (take_more xs i 0 l)) next))

-- ---- stops

pub numbers_push : (stops after : List Stop) (s : Stop) (number : ℕ) → after ≡ stops ++ s ∷ [] → s.number ≡ number → map (λ (s : Stop). s.number) after ≡ map (λ (s : Stop). s.number) stops ++ number ∷ []
numbers_push stops after s number e n =
    ap (map (λ (s : Stop). s.number)) e ∙ map-append (λ (s : Stop). s.number) stops (s ∷ []) ∙ ap (λ (k : ℕ). map (λ (s : Stop). s.number) stops ++ k ∷ []) n
