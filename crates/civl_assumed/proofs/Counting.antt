-- The invariant of a step at a place among those of the step, and whether it holds.
use Rattle.std.specs.Prelude.{map, filter, drop, slice_get, nat_eq, not, if◌then◌else◌}
use Rattle.std.specs.Option.{option_map_or}
use Rattle.std.proofs.Common.{◌≡◌, ◌∙◌, ℕ, zero, suc, ◌+◌, ◌-◌, ◌≤◌, ◌<◌, Bool, true, false, List, ◌∷◌, length, get_or, refl, sym, ap, arith, Option, Some, None}
use Rattle.std.proofs.lemmas.List.{drop_more, drop_all}
use Rattle.civl_tree.specs.declared.expr.Expr.{Expr}
use Rattle.civl_tree.specs.declared.program.Invariant.{Invariant}
use Rattle.civl_tree.specs.declared.program.Program.{Program}
use Rattle.civl_firing.specs.declared.store.Store.{Store}
use Rattle.civl_conditions.specs.Invariants.{invariant_at, holds_of_globals, invariant_lost}

abbrev pub of_step : ℕ → List Invariant → List Expr
of_step step is = map (λ i. i.expr) (filter (λ i. nat_eq i.step step) is)

-- the one at a place among those from here on
abbrev pub from_here : ℕ → List Invariant → ℕ → ℕ → Option Expr
from_here step is k left = slice_get (of_step step (drop k is)) left

one_kept : (step : ℕ) (i : Invariant) (is : List Invariant) (b : Bool) → nat_eq i.step step ≡ b → of_step step (i ∷ is) ≡ (if b then i.expr ∷ of_step step is else of_step step is)
one_kept step i is true e = ap (λ b. map (λ (j : Invariant). j.expr) (if b then i ∷ filter (λ j. nat_eq j.step step) is else filter (λ j. nat_eq j.step step) is)) e
one_kept step i is false e = ap (λ b. map (λ (j : Invariant). j.expr) (if b then i ∷ filter (λ j. nat_eq j.step step) is else filter (λ j. nat_eq j.step step) is)) e

module _ (step : ℕ) (is : List Invariant) (k : ℕ) (i : Invariant) (below : k < length is) (here : i ≡ get_or is k i) where
  opened : drop k is ≡ i ∷ drop (k + 1) is
  opened = drop_more is k i below ∙ ap (λ (j : Invariant). j ∷ drop (k + 1) is) (sym here)

  pub found_here : nat_eq i.step step ≡ true → (left : ℕ) → left ≡ 0 → from_here step is k left ≡ Some i.expr
  found_here e left z = ap (from_here step is k) z ∙ ap (λ es. slice_get es 0) (ap (of_step step) opened ∙ one_kept step i (drop (k + 1) is) true e)

  pub counted_down : nat_eq i.step step ≡ true → (left : ℕ) → (left ≡ 0 → ⊥) → from_here step is (k + 1) (left - 1) ≡ from_here step is k left
  counted_down e zero z = absurd (z refl)
  counted_down e (suc left) z =
      let m : suc left - 1 ≡ left = omega arith in
      ap (from_here step is (k + 1)) m ∙ sym (ap (λ es. slice_get es (suc left)) (ap (of_step step) opened ∙ one_kept step i (drop (k + 1) is) true e))

  pub passed_over : nat_eq i.step step ≡ false → (left : ℕ) → from_here step is (k + 1) left ≡ from_here step is k left
  passed_over e left = sym (ap (λ es. slice_get es left) (ap (of_step step) opened ∙ one_kept step i (drop (k + 1) is) false e))

pub none_left : (step : ℕ) (is : List Invariant) (k left : ℕ) → length is ≤ k → from_here step is k left ≡ None
none_left step is k left l = ap (λ js. slice_get (of_step step js) left) (drop_all k is l)

-- what is said of the one that is there
pub lost_there : (program : Program) (step place : ℕ) (g : Store) (e : Expr) → invariant_at program step place ≡ Some e → not (holds_of_globals program g e) ≡ invariant_lost program step place g
lost_there program step place g e at = sym (ap (λ (o : Option Expr). option_map_or (λ d. not (holds_of_globals program g d)) o false) at)
