-- What is said of each of a list, item by item.
use Rattle.std.proofs.Common.{◌≡◌, ℕ, zero, suc, ◌+◌, ◌<◌, ◌≤◌, List, [], ◌∷◌, ◌++◌, drop, length, get_or, refl, sym, ap, ◌∙◌, append-nil, arith}
use Rattle.std.specs.Prelude.{nat_eq, count_by, filter}
use Rattle.std.proofs.lemmas.List.{append_assoc, drop_more, drop_all, length-map}
use Rattle.std.proofs.lemmas.List.Sums.{length-filter}
use Rattle.civl_tree.specs.declared.program.Program.{Program}
use Rattle.civl_conditions.specs.Steps.{each_at, step_invariants}

module _ {A B : Type 0} (f : ℕ → A → List B) (xs : List A) (i : ℕ) where
  -- the item at this place, and those behind
  split : (x : A) → i < length xs → x ≡ get_or xs i x → each_at f i (drop i xs) ≡ f i x ++ each_at f (i + 1) (drop (i + 1) xs)
  split x l e = ap (each_at f i) (drop_more xs i x l ∙ ap (λ (y : A). y ∷ drop (i + 1) xs) (sym e))

  -- what is said of one more item stands behind the others
  pub pushed : (x : A) → i < length xs → x ≡ get_or xs i x → (before after all : List B) → after ≡ before ++ f i x → before ++ each_at f i (drop i xs) ≡ all
      → after ++ each_at f (i + 1) (drop (i + 1) xs) ≡ all
  pushed x l e before after all h k =
      ap (λ (ys : List B). ys ++ each_at f (i + 1) (drop (i + 1) xs)) h ∙ append_assoc before (f i x) (each_at f (i + 1) (drop (i + 1) xs))
      ∙ ap (λ (ys : List B). before ++ ys) (sym (split x l e)) ∙ k

  -- at the end nothing is left
  pub all_pushed : length xs ≤ i → (before all : List B) → before ++ each_at f i (drop i xs) ≡ all → before ≡ all
  all_pushed l before all k =
      sym (append-nil before) ∙ ap (λ (ys : List A). before ++ each_at f i ys) (sym (drop_all i xs l)) ∙ k

-- some item is at a place within
item_at : {A : Type 0} (xs : List A) (i : ℕ) → i < length xs → (x : A) × (x ≡ get_or xs i x)
item_at [] i l = absurd (omega arith)
item_at (x ∷ xs) zero l = (x, refl)
item_at (x ∷ xs) (suc i) l = item_at xs i (omega arith)

-- the same where what is said is the same of each item
pub one_pushed : {A B : Type 0} (g : ℕ → B) (xs : List A) (i : ℕ) → i < length xs → (before after all : List B) → after ≡ before ++ g i ∷ []
    → before ++ each_at (λ k x. g k ∷ []) i (drop i xs) ≡ all → after ++ each_at (λ k x. g k ∷ []) (i + 1) (drop (i + 1) xs) ≡ all
one_pushed g xs i l before after all h k =
    let item = item_at xs i l in pushed (λ n x. g n ∷ []) xs i item.0 l item.1 before after all h k

-- a step has as many invariants as name it
pub invariants_counted : (program : Program) (step : ℕ) → length (step_invariants program step) ≡ count_by (λ i. nat_eq i.step step) program.invariants
invariants_counted program step =
    length-map (filter (λ i. nat_eq i.step step) program.invariants) (λ i. i.expr) ∙ length-filter (λ i. nat_eq i.step step) program.invariants
