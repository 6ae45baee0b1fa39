-- What is among the conditions of a program: elements of lists, of lists of lists, and of the lists of its steps.
use Rattle.std.proofs.Common.{◌≡◌, ◌⊎◌, ℕ, zero, suc, ◌+◌, ◌<◌, ◌≤◌, Bool, true, false, if◌then◌else◌, List, [], ◌∷◌, ◌++◌, length, flat_map, Contains, Some, slice_get, slice_index_or, sym, ap, ◌∙◌, subst, inl, inr, arith}
use Rattle.std.proofs.lemmas.Bool.{false≢true, cases_lt}
use Rattle.std.proofs.lemmas.Option.{same_Some, none-some}
use Rattle.std.proofs.lemmas.List.Elements.{Contains-append_left, Contains-append_right}
use Rattle.civl_tree.specs.declared.program.Proc.{Proc}
use Rattle.civl_tree.specs.declared.program.Program.{Program}
use Rattle.civl_tree.proofs.Pairs.{contains_here}
use Rattle.civl_conditions.specs.declared.condition.Condition.{Condition}
use Rattle.civl_conditions.specs.Steps.{each_at, steps_to}
use Rattle.civl_conditions.specs.Listed.{at_step, conditions}

-- ---- lists

pub shown : {A : Type 0} (b : Bool) (x : A) (xs : List A) → b ≡ true → Contains xs x → Contains (if b then xs else []) x
shown true x xs e h = h
shown false x xs e h = absurd (false≢true e)

pub in_flat : {A B : Type 0} (f : A → List B) (xs : List A) (k : ℕ) (x : A) (y : B) → k < length xs → slice_index_or xs k x ≡ x → Contains (f x) y → Contains (flat_map f xs) y
in_flat f [] k x y l e h = absurd (omega (arith, l))
in_flat f (z ∷ zs) zero x y l e h = Contains-append_left (f z) (flat_map f zs) y (subst (λ a. Contains (f a) y) (sym e) h)
in_flat f (z ∷ zs) (suc k) x y l e h = Contains-append_right (f z) (flat_map f zs) y (in_flat f zs k x y (omega (arith, l)) e h)

pub in_each : {A B : Type 0} (f : ℕ → A → List B) (at : ℕ) (xs : List A) (i n : ℕ) (x : A) (y : B) → slice_get xs i ≡ Some x → n ≡ at + i → Contains (f n x) y → Contains (each_at f at xs) y
in_each f at [] i n x y e s h = absurd (none-some x e)
in_each f at (z ∷ zs) zero n x y e s h =
    let here : n ≡ at = omega (arith, s) in
    Contains-append_left (f at z) (each_at f (at + 1) zs) y (subst (λ a. Contains (f at a) y) (sym (same_Some z x e)) (subst (λ k. Contains (f k x) y) here h))
in_each f at (z ∷ zs) (suc i) n x y e s h = Contains-append_right (f at z) (each_at f (at + 1) zs) y (in_each f (at + 1) zs i n x y e (omega (arith, s)) h)

-- what has a number among the procedures
pub numbered : (procs : List Proc) (at i : ℕ) (q : ℕ × Proc) → slice_get (each_at (λ r proc. (r, proc) ∷ []) at procs) i ≡ Some q → (k : ℕ) × (slice_get procs k ≡ Some q.1) × (q.0 ≡ at + k)
numbered [] at i q e = absurd (none-some q e)
numbered (p ∷ ps) at zero q e =
    let same = same_Some (at, p) q e in
    (0, ap (λ (x : ℕ × Proc). Some x.1) same, sym (ap (λ (x : ℕ × Proc). x.0) same) ∙ omega arith)
numbered (p ∷ ps) at (suc i) q e = let r = numbered ps (at + 1) i q e in let n = r.2 in (suc r.0, r.1, omega (arith, n))

-- ---- steps

pub in_steps : (n step : ℕ) → 1 ≤ step → step ≤ n → Contains (steps_to n) step
in_steps zero step l h = absurd (omega (arith, l, h))
in_steps (suc n) step l h = go (cases_lt step (n + 1)) (λ g. in_steps n step l g)
  where
    go : (step < n + 1) ⊎ (n + 1 ≤ step) → (step ≤ n → Contains (steps_to n) step) → Contains (steps_to n ++ (n + 1) ∷ []) step
    go (inl g) ih = Contains-append_left (steps_to n) ((n + 1) ∷ []) step (ih (omega (arith, g)))
    go (inr g) ih =
        let last : n + 1 ≡ step = omega (arith, g, h) in
        Contains-append_right (steps_to n) ((n + 1) ∷ []) step (subst (λ k. Contains ((n + 1) ∷ []) k) last (contains_here (n + 1) []))

-- ---- conditions

module _ (program : Program) (step : ℕ) (low : 1 ≤ step) (high : step ≤ program.layers) where
  pub at_a_step : (c : Condition) → Contains (at_step program step) c → Contains (conditions program) c
  unfolding conditions
  at_a_step c h = let s = in_steps program.layers step low high in in_flat (at_step program) (steps_to program.layers) s.0 step c s.1 s.2 h
