-- The place among all invariants of the i-th one of a step, as it is counted.
use Rattle.std.specs.Prelude.{drop, nat_eq, if◌then◌else◌}
use Rattle.std.proofs.Common.{◌≡◌, ◌∙◌, ℕ, zero, suc, ◌+◌, ◌-◌, ◌≤◌, ◌<◌, Bool, true, false, List, ◌∷◌, length, get_or, refl, sym, ap, arith}
use Rattle.std.proofs.lemmas.List.{drop_more, drop_all}
use Rattle.std.proofs.lemmas.Bool.Decides.{nat_tests}
use Rattle.civl_tree.specs.declared.program.Invariant.{Invariant}
use Rattle.civl_action_stories.specs.Starts.{invariant_place}

-- the place where this many are still to be passed over from the place k on
abbrev pub from_here : ℕ → List Invariant → ℕ → ℕ → ℕ
from_here step is k left = k + invariant_place step (drop k is) left

abbrev chosen : ℕ → List Invariant → ℕ → Bool → ℕ
chosen step is left b =
    if b then (if nat_eq left 0 then 0 else invariant_place step is (left - 1) + 1) else invariant_place step is left + 1

module _ (step : ℕ) (is : List Invariant) (k : ℕ) (i : Invariant) (below : k < length is) (here : i ≡ get_or is k i) where
  opened : drop k is ≡ i ∷ drop (k + 1) is
  opened = drop_more is k i below ∙ ap (λ (j : Invariant). j ∷ drop (k + 1) is) (sym here)

  one : (left : ℕ) (b : Bool) → nat_eq i.step step ≡ b → invariant_place step (drop k is) left ≡ chosen step (drop (k + 1) is) left b
  one left b e = ap (λ (js : List Invariant). invariant_place step js left) opened ∙ ap (chosen step (drop (k + 1) is) left) e

  pub found_here : nat_eq i.step step ≡ true → (left : ℕ) → left ≡ 0 → from_here step is k left ≡ k
  found_here e zero z = let h : invariant_place step (drop k is) 0 ≡ 0 = one 0 true e in omega (arith, h)
  found_here e (suc left) z = absurd (omega (arith, z))

  pub counted_down : nat_eq i.step step ≡ true → (left : ℕ) → (left ≡ 0 → ⊥) → from_here step is (k + 1) (left - 1) ≡ from_here step is k left
  counted_down e zero z = absurd (z refl)
  counted_down e (suc left) z =
      let rest = invariant_place step (drop (k + 1) is) (suc left - 1) + 1 in
      let more : nat_eq (suc left) 0 ≡ false = grind (arith, nat_tests) in
      let h : invariant_place step (drop k is) (suc left) ≡ rest = one (suc left) true e ∙ ap (λ b. if◌then◌else◌ {A = ℕ} b 0 rest) more in
      omega (arith, h)

  pub passed_over : nat_eq i.step step ≡ false → (left : ℕ) → from_here step is (k + 1) left ≡ from_here step is k left
  passed_over e left =
      let h : invariant_place step (drop k is) left ≡ invariant_place step (drop (k + 1) is) left + 1 = one left false e in
      omega (arith, h)

pub none_left : (step : ℕ) (is : List Invariant) (k left : ℕ) → length is ≤ k → from_here step is k left ≡ k
none_left step is k left l = omega (arith, ap (λ (js : List Invariant). invariant_place step js left) (drop_all k is l))

pub ruleset placing = (found_here, counted_down, passed_over, none_left)
