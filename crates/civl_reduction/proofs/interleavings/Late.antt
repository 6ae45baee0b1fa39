-- A run that ends failing, looked at from a configuration in which a thread stands late in its block.
use Rattle.std.proofs.Common.{ℕ, zero, suc, ◌<◌, ◌≤◌, ◌≡◌, ◌≢◌, Bool, true, false, Some, refl, sym, subst, ◌∙◌, arith, inl, inr, ◌⊎◌}
use Rattle.std.proofs.lemmas.Bool.{cases_eq, both_ways}
use Rattle.civl_reduction.specs.interleavings.Systems.{Failing, System}
use Rattle.civl_reduction.specs.interleavings.Reduction.{Exchanged, Place, Between, Early, Late, IsReducible}
use Rattle.civl_reduction.proofs.interleavings.Doomed.{Doomed}

-- a run that ends failing, with so many moves that aren't of the open block of thread t
pub data Rest {C M : Type 0} (S : System C M) (place : C → ℕ → Place) (t : ℕ) : ℕ → C → Type 0 where
  done : {c : C} → Failing S.steps c → Rest S place t zero c
  other : {n : ℕ} {c : C} (m : M) (d : C) → S.mover m ≢ t → S.step c m ≡ Some d → Rest S place t n d → Rest S place t (suc n) c
  own : {n : ℕ} {c : C} (m : M) (d : C) → S.mover m ≡ t → S.step c m ≡ Some d → place d t ≡ Late → Rest S place t n d → Rest S place t n c
  last : {n : ℕ} {c : C} (m : M) (d : C) → S.mover m ≡ t → S.step c m ≡ Some d → place d t ≡ Between → Doomed S n d → Rest S place t n c

-- the block's next step first
abbrev pub First : {C M : Type 0} → System C M → (C → ℕ → Place) → ℕ → ℕ → C → Type 0
First {C} {M} S place t n c =
    (m : M) × (d : C) × (S.mover m ≡ t) × (S.step c m ≡ Some d)
    × (((place d t ≡ Late) × Rest S place t n d) ⊎ ((place d t ≡ Between) × Doomed S n d))

-- a run with fewer moves of others
abbrev pub Fewer : {C M : Type 0} → System C M → (C → ℕ → Place) → ℕ → ℕ → C → Type 0
Fewer S place t n c = (k : ℕ) × (k < n) × Rest S place t k c

-- a run that ends failing, of others alone
abbrev pub Others : {C M : Type 0} → System C M → ℕ → ℕ → C → Type 0
Others S t zero c = Failing S.steps c
Others {C} {M} S t (suc n) c = (m : M) × (d : C) × (S.mover m ≢ t) × (S.step c m ≡ Some d) × Others S t n d

-- the same with one step of the thread at the end
abbrev pub Completed : {C M : Type 0} → System C M → ℕ → ℕ → C → Type 0
Completed {C} {M} S t zero c = (m : M) × (d : C) × (S.mover m ≡ t) × (S.step c m ≡ Some d) × Failing S.steps d
Completed {C} {M} S t (suc n) c = (m : M) × (d : C) × (S.mover m ≢ t) × (S.step c m ≡ Some d) × Completed S t n d

module _ {C M : Type 0} (S : System C M) (place : C → ℕ → Place) (Holds : C → Type 0) (l : IsReducible C M S place Holds) where
  -- a step of a thread that stood late leaves it late, or ends its block
  pub late_or_between : (t : ℕ) (m : M) (c d : C) → Holds c → S.step c m ≡ Some d → S.mover m ≡ t → place c t ≡ Late → (place d t ≡ Late) ⊎ (place d t ≡ Between)
  late_or_between t m c d h e w p = go (place d t) refl
    where
      go : (q : Place) → place d t ≡ q → (place d t ≡ Late) ⊎ (place d t ≡ Between)
      go Late v = inl v
      go Between v = inr v
      go Early v = absurd (l.late_stays c d m h e (subst (λ u. place c u ≡ Late) (sym w) p) (subst (λ u. place d u ≡ Early) (sym w) v))

  -- a run as one that tells the moves of the open block from the others
  pub rest_of : (t n : ℕ) (c : C) → Holds c → place c t ≡ Late → Doomed S n c → (k : ℕ) × (k ≤ n) × Rest S place t k c
  rest_of t zero c h p f = (0, omega arith, done f)
  rest_of t (suc n) c h p f = go (cases_eq (S.mover f.0) t) (λ q. rest_of t n f.1 (l.holds_on c f.1 f.0 h f.2) q f.3)
    where
      mine : S.mover f.0 ≡ t → ((place f.1 t ≡ Late) ⊎ (place f.1 t ≡ Between)) → (place f.1 t ≡ Late → (k : ℕ) × (k ≤ n) × Rest S place t k f.1) → (k : ℕ) × (k ≤ suc n) × Rest S place t k c
      mine w (inl q) ih = let r = ih q in (r.0, omega (arith, r.1), own f.0 f.1 w f.2 q r.2)
      mine w (inr q) ih = (n, omega arith, last f.0 f.1 w f.2 q f.3)

      go : (S.mover f.0 ≡ t) ⊎ (S.mover f.0 ≢ t) → (place f.1 t ≡ Late → (k : ℕ) × (k ≤ n) × Rest S place t k f.1) → (k : ℕ) × (k ≤ suc n) × Rest S place t k c
      go (inl w) ih = mine w (late_or_between t f.0 c f.1 h f.2 w p) ih
      go (inr w) ih = let r = ih (l.others_stay c f.1 f.0 t h f.2 w ∙ p) in (suc r.0, omega (arith, r.1), other f.0 f.1 w f.2 r.2)

  -- the block's next step goes before another thread's step
  first_before : (t n : ℕ) (m : M) (c d : C) → Holds c → place c t ≡ Late → S.mover m ≢ t → S.step c m ≡ Some d → First S place t n d → First S place t (suc n) c ⊎ Fewer S place t (suc n) c
  first_before t n m c d h p w e r = go (l.goes_before c d r.1 m r.0 h e r.3 (λ v. w (v ∙ r.2)) late_there)
    where
      late_there : place d (S.mover r.0) ≡ Late
      late_there = subst (λ u. place d u ≡ Late) (sym r.2) (l.others_stay c d m t h e w ∙ p)

      same : (x : C) → S.step c r.0 ≡ Some x → S.step x m ≡ Some r.1 → place r.1 t ≡ place x t → ((place r.1 t ≡ Late) × Rest S place t n r.1) ⊎ ((place r.1 t ≡ Between) × Doomed S n r.1) → First S place t (suc n) c
      same x s k q (inl a) = (r.0, x, r.2, s, inl (sym q ∙ a.0, other m r.1 w k a.1))
      same x s k q (inr a) = (r.0, x, r.2, s, inr (sym q ∙ a.0, (m, r.1, k, a.1)))

      failed : (x : C) → S.step c r.0 ≡ Some x → Failing S.steps x → ((place x t ≡ Late) ⊎ (place x t ≡ Between)) → Fewer S place t (suc n) c
      failed x s f (inl q) = (0, omega arith, own r.0 x r.2 s q (done f))
      failed x s f (inr q) = (0, omega arith, last r.0 x r.2 s q f)

      go : Exchanged S.steps c m r.0 r.1 → First S place t (suc n) c ⊎ Fewer S place t (suc n) c
      go (inl x) = inl (same x.0 x.1 x.2 (l.others_stay x.0 r.1 m t (l.holds_on c x.0 r.0 h x.1) x.2 w) r.4)
      go (inr (inl f)) = inr (0, omega arith, done f)
      go (inr (inr f)) = inr (failed f.0 f.1 f.2 (late_or_between t r.0 c f.0 h f.1 r.2 p))

  -- what such a run can be turned into
  abbrev pub Fronted : ℕ → ℕ → C → Type 0
  Fronted t n c = First S place t n c ⊎ (Fewer S place t n c ⊎ Others S t n c)

  fewer_after : (t n : ℕ) (m : M) (c d : C) → S.mover m ≢ t → S.step c m ≡ Some d → Fewer S place t n d → Fewer S place t (suc n) c
  fewer_after t n m c d w e r = (suc r.0, omega (arith, r.1), other m d w e r.2)

  fronted_after : (t n : ℕ) (m : M) (c d : C) → Holds c → place c t ≡ Late → S.mover m ≢ t → S.step c m ≡ Some d → Fronted t n d → Fronted t (suc n) c
  fronted_after t n m c d h p w e (inl r) = elim (first_before t n m c d h p w e r) [ inl x ↦ inl x | inr x ↦ inr (inl x) ]
  fronted_after t n m c d h p w e (inr (inl r)) = inr (inl (fewer_after t n m c d w e r))
  fronted_after t n m c d h p w e (inr (inr r)) = inr (inr (m, d, w, e, r))

  pub fronted : (t : ℕ) {n : ℕ} {c : C} → Holds c → place c t ≡ Late → Rest S place t n c → Fronted t n c
  fronted t h p (done f) = inr (inr f)
  fronted t h p (other {n = n} {c = c} m d w e r) = fronted_after t n m c d h p w e (fronted t (l.holds_on c d m h e) (l.others_stay c d m t h e w ∙ p) r)
  fronted t h p (own m d w e q r) = inl (m, d, w, e, inl (q, r))
  fronted t h p (last m d w e q f) = inl (m, d, w, e, inr (q, f))

  -- where the thread doesn't fail, one step of it can be put behind the others', and the failure stays
  pub completed : (t n : ℕ) (c : C) → Holds c → place c t ≡ Late → S.fails c t ≡ false → Others S t n c → Completed S t n c
  completed t zero c h p q f =
      let r = l.late_steps c t h p q in
      let differ : S.mover r.0 ≢ f.0 = λ v. both_ways (S.fails c t) q (subst (λ u. S.fails c u ≡ true) (sym v ∙ r.2) f.1) in
      (r.0, r.1, r.2, r.3, (f.0, l.fails_on c r.1 r.0 f.0 h r.3 differ (subst (λ u. place c u ≡ Late) (sym r.2) p) f.1))
  completed t (suc n) c h p q f = (f.0, f.1, f.2, f.3, completed t n f.1 (l.holds_on c f.1 f.0 h f.3) (l.others_stay c f.1 f.0 t h f.3 f.2 ∙ p) (still (S.fails f.1 t) refl) f.4)
    where
      still : (b : Bool) → S.fails f.1 t ≡ b → S.fails f.1 t ≡ false
      still false e = e
      still true e = absurd (both_ways (S.fails c t) q (l.late_failed_before c f.1 f.0 t h f.3 f.2 p e))

  -- and this step can be brought to the front
  pub completed_first : (t n : ℕ) (c : C) → Holds c → place c t ≡ Late → Completed S t n c → First S place t n c ⊎ Fewer S place t n c
  completed_first t zero c h p f = inl (f.0, f.1, f.2, f.3, go (late_or_between t f.0 c f.1 h f.3 f.2 p))
    where
      go : ((place f.1 t ≡ Late) ⊎ (place f.1 t ≡ Between)) → ((place f.1 t ≡ Late) × Rest S place t zero f.1) ⊎ ((place f.1 t ≡ Between) × Doomed S zero f.1)
      go (inl q) = inl (q, done f.4)
      go (inr q) = inr (q, f.4)
  completed_first t (suc n) c h p f = go (completed_first t n f.1 (l.holds_on c f.1 f.0 h f.3) (l.others_stay c f.1 f.0 t h f.3 f.2 ∙ p) f.4)
    where
      go : First S place t n f.1 ⊎ Fewer S place t n f.1 → First S place t (suc n) c ⊎ Fewer S place t (suc n) c
      go (inl r) = first_before t n f.0 c f.1 h p f.2 f.3 r
      go (inr r) = inr (fewer_after t n f.0 c f.1 f.2 f.3 r)
