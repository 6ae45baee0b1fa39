-- The place of an invariant of a step among all invariants, counted from a place on.
use Rattle.std.specs.Prelude.{drop, nat_eq, if◌then◌else◌}
use Rattle.std.proofs.Common.{◌≡◌, ◌∙◌, ℕ, ◌+◌, ◌-◌, ◌≤◌, ◌<◌, Bool, true, false, List, ◌∷◌, length, get_or, sym, ap, arith}
use Rattle.std.proofs.lemmas.Bool.{ne_eqb}
use Rattle.std.proofs.lemmas.List.{drop_more, drop_all}
use Rattle.civl_tree.specs.declared.program.Invariant.{Invariant}
use Rattle.civl_path_stories.specs.Paths.{place_among}

abbrev pub from_here : ℕ → List Invariant → ℕ → ℕ → ℕ
from_here step is k left = k + place_among step left (drop k is)

one_counted : (step left : ℕ) (i : Invariant) (is : List Invariant) (b : Bool) → nat_eq i.step step ≡ b → place_among step left (i ∷ is)
    ≡ (if b then (if nat_eq left 0 then 0 else place_among step (left - 1) is + 1) else place_among step left is + 1)
one_counted step left i is b e =
    ap (λ b. if b then (if nat_eq left 0 then 0 else place_among step (left - 1) is + 1) else place_among step left is + 1) e

module _ (step : ℕ) (is : List Invariant) (k : ℕ) (i : Invariant) (below : k < length is) (here : i ≡ get_or is k i) where
  opened : drop k is ≡ i ∷ drop (k + 1) is
  opened = drop_more is k i below ∙ ap (λ (j : Invariant). j ∷ drop (k + 1) is) (sym here)

  here_is : (left : ℕ) (b : Bool) → nat_eq i.step step ≡ b → place_among step left (drop k is)
      ≡ (if b then (if nat_eq left 0 then 0 else place_among step (left - 1) (drop (k + 1) is) + 1) else place_among step left (drop (k + 1) is) + 1)
  here_is left b e = ap (place_among step left) opened ∙ one_counted step left i (drop (k + 1) is) b e

  pub found_here : nat_eq i.step step ≡ true → (left : ℕ) → left ≡ 0 → from_here step is k left ≡ k
  found_here e left z =
      let none : place_among step left (drop k is) ≡ 0 = ap (λ n. place_among step n (drop k is)) z ∙ here_is 0 true e in
      omega (arith, none)

  pub counted_down : nat_eq i.step step ≡ true → (left : ℕ) → (left ≡ 0 → ⊥) → from_here step is (k + 1) (left - 1) ≡ from_here step is k left
  counted_down e left z =
      let more : place_among step left (drop k is) ≡ place_among step (left - 1) (drop (k + 1) is) + 1 =
      here_is left true e ∙ ap (λ (b : Bool). if b then 0 else place_among step (left - 1) (drop (k + 1) is) + 1) (ne_eqb left 0 z) in
      omega (arith, more)

  pub passed_over : nat_eq i.step step ≡ false → (left : ℕ) → from_here step is (k + 1) left ≡ from_here step is k left
  passed_over e left = omega (arith, here_is left false e)

pub none_left : (step : ℕ) (is : List Invariant) (k left : ℕ) → length is ≤ k → from_here step is k left ≡ k
none_left step is k left l = let none : place_among step left (drop k is) ≡ 0 = ap (place_among step left) (drop_all k is l) in omega (arith, none)

pub ruleset counting = (found_here, counted_down, passed_over, none_left)
