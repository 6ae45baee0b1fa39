-- The simulation: where some block run ends failing or challenged, the other system can fail.
use Rattle.std.proofs.Common.{ℕ, ◌≡◌, Bool, true, false, List, [], ◌∷◌, ◌++◌, Option, None, Some, refl, sym, ap, subst, ◌∙◌, append_assoc, inl, inr, ◌⊎◌}
use Rattle.std.proofs.lemmas.List.{append-nil}
use Rattle.std.proofs.lemmas.Bool.{both_ways}
use Rattle.civl_reduction.specs.interleavings.Systems.{Stepping, Failing, System}
use Rattle.civl_reduction.specs.interleavings.Runs.{SystemRuns, FailsFrom, SystemCanFail, MayStep, opened, BlocksTo, IsBlockRun, BlocksFail, Staged, begun, Opens}
use Rattle.civl_reduction.specs.interleavings.Simulation.{Simulates}
use Rattle.civl_reduction.proofs.interleavings.Staging.{ends_run, ends_staged, opens_more, inside_any, unchallenged}

pub runs_join : {D N : Type 0} (H : Stepping D N) (ns os : List N) (x y z : D) → SystemRuns H ns x y → SystemRuns H os y z → SystemRuns H (ns ++ os) x z
runs_join H [] os x y z r q = subst (λ w. SystemRuns H os w z) (sym r) q
runs_join H (n ∷ ns) os x y z r q = (r.0, r.1, runs_join H ns os r.0 y z r.2 q)

pub fails_after : {D N : Type 0} (H : Stepping D N) (ns : List N) (x y : D) → SystemRuns H ns x y → FailsFrom H y → FailsFrom H x
fails_after H ns x y r f = (ns ++ f.0, f.1, runs_join H ns f.0 x y f.1 r f.2, f.3)

some_none : (t : ℕ) → ◌≡◌ {A = Option ℕ} (Some t) None → ⊥
some_none t e = cc

module _ {C M D N : Type 0} (S : System C M) (H : Stepping D N) (Meets : List M → C → D → Type 0) (l : Simulates C M D N S H Meets) where
  -- a block run is looked through from its beginning: behind the blocks ps stands c, which meets x; the moves bs are the first
  -- of the block that is open, and the moves ms are still to come
  Looked : List M → Type 0
  Looked ms =
      (o : Option ℕ) (ps bs : List M) (c d e : C) (x : D)
      → Staged S ps None c → Meets ps c x → ((t : ℕ) → MayStep o t → Opens S t bs c d) → (o ≡ None → bs ≡ [])
      → BlocksTo S o ms d None e → Failing S.steps e ⊎ (S.challenged ((ps ++ bs) ++ ms) ≡ true) → FailsFrom H x

  looked_end : Looked []
  unfolding Looked
  looked_end o ps bs c d e x g k open_so none b f = go (none b.0) (open_so 0 (subst (λ z. MayStep z 0) (sym b.0) tt)) f
    where
      go : bs ≡ [] → Opens S 0 bs c d → Failing S.steps e ⊎ (S.challenged ((ps ++ bs) ++ []) ≡ true) → FailsFrom H x
      go q h (inl i) =
          let same : c ≡ d = subst (λ z. Opens S 0 z c d) q h in
          l.failing_fails ps c x g k (subst (Failing S.steps) (sym (same ∙ b.1)) i)
      go q h (inr i) =
          let all : (ps ++ bs) ++ [] ≡ ps = append-nil (ps ++ bs) ∙ (ap (λ z. ps ++ z) q ∙ append-nil ps) in
          absurd (both_ways (S.challenged ps) (unchallenged S ps c g) (subst (λ z. S.challenged z ≡ true) all i))

  -- a step that leaves the block open
  looked_open : (ms : List M) (m : M) → Looked ms → (o : Option ℕ) (ps bs : List M) (c d e f : C) (x : D)
      → Staged S ps None c → Meets ps c x → ((t : ℕ) → MayStep o t → Opens S t bs c d)
      → S.step d m ≡ Some f → MayStep o (S.mover m) → S.inside f (S.mover m) ≡ true → BlocksTo S (Some (S.mover m)) ms f None e
      → Failing S.steps e ⊎ (S.challenged ((ps ++ bs) ++ m ∷ ms) ≡ true) → FailsFrom H x
  unfolding Looked
  looked_open ms m ih o ps bs c d e f x g k open_so s may p b i =
      ih (Some (S.mover m)) ps (bs ++ m ∷ []) c f e x g k opens (λ q. absurd (some_none (S.mover m) q)) b (ends_so i)
    where
      opens : (t : ℕ) → t ≡ S.mover m → Opens S t (bs ++ m ∷ []) c f
      opens t q = subst (λ u. Opens S u (bs ++ m ∷ []) c f) (sym q) (opens_more S (S.mover m) bs m c d f (open_so (S.mover m) may) refl s p)

      all : (ps ++ bs) ++ m ∷ ms ≡ (ps ++ (bs ++ m ∷ [])) ++ ms
      all = sym (append_assoc (ps ++ bs) (m ∷ []) ms) ∙ ap (λ z. z ++ ms) (append_assoc ps bs (m ∷ []))

      ends_so : Failing S.steps e ⊎ (S.challenged ((ps ++ bs) ++ m ∷ ms) ≡ true) → Failing S.steps e ⊎ (S.challenged ((ps ++ (bs ++ m ∷ [])) ++ ms) ≡ true)
      ends_so (inl h) = inl h
      ends_so (inr h) = inr (subst (λ z. S.challenged z ≡ true) all h)

  -- a step that ends it
  looked_ends : (ms : List M) (m : M) → Looked ms → (o : Option ℕ) (ps bs : List M) (c d e f : C) (x : D)
      → Staged S ps None c → Meets ps c x → ((t : ℕ) → MayStep o t → Opens S t bs c d)
      → S.step d m ≡ Some f → MayStep o (S.mover m) → S.inside f (S.mover m) ≡ false → BlocksTo S None ms f None e
      → Failing S.steps e ⊎ (S.challenged ((ps ++ bs) ++ m ∷ ms) ≡ true) → FailsFrom H x
  unfolding Looked
  looked_ends ms m ih o ps bs c d e f x g k open_so s may p b i = go (S.challenged (ps ++ (bs ++ m ∷ []))) refl
    where
      opens : Opens S (S.mover m) bs c d
      opens = open_so (S.mover m) may

      next : (ns : List N) × (y : D) × SystemRuns H ns x y × Meets (ps ++ (bs ++ m ∷ [])) f y
      next = l.meets_on ps bs m (S.mover m) c d f x g k opens refl s p

      before : (z : Option ℕ) × MayStep z (S.mover m) × Staged S (ps ++ bs) z d
      before = inside_any S ps bs (S.mover m) c d g opens

      joins : (ps ++ bs) ++ m ∷ [] ≡ ps ++ (bs ++ m ∷ [])
      joins = append_assoc ps bs (m ∷ [])

      all : (ps ++ bs) ++ m ∷ ms ≡ ((ps ++ (bs ++ m ∷ [])) ++ []) ++ ms
      all = sym (append_assoc (ps ++ bs) (m ∷ []) ms) ∙ ap (λ z. z ++ ms) (joins ∙ sym (append-nil (ps ++ (bs ++ m ∷ []))))

      ends_so : Failing S.steps e ⊎ (S.challenged ((ps ++ bs) ++ m ∷ ms) ≡ true) → Failing S.steps e ⊎ (S.challenged (((ps ++ (bs ++ m ∷ [])) ++ []) ++ ms) ≡ true)
      ends_so (inl h) = inl h
      ends_so (inr h) = inr (subst (λ z. S.challenged z ≡ true) all h)

      go : (q : Bool) → S.challenged (ps ++ (bs ++ m ∷ [])) ≡ q → FailsFrom H x
      go true q =
          let run = subst (λ z. IsBlockRun S z f) joins (ends_run S (ps ++ bs) before.0 (S.mover m) d f m before.2 before.1 refl s p) in
          fails_after H next.0 x next.1 next.2 (l.challenged_fails (ps ++ (bs ++ m ∷ [])) f next.1 run next.3 q)
      go false q =
          let staged = subst (λ z. Staged S z None f) joins (ends_staged S (ps ++ bs) before.0 (S.mover m) d f m before.2 before.1 refl s p (subst (λ z. S.challenged z ≡ false) (sym joins) q)) in
          fails_after H next.0 x next.1 next.2 (ih None (ps ++ (bs ++ m ∷ [])) [] f f e next.1 staged next.3 (λ t h. refl) (λ h. refl) b (ends_so i))

  looked : (ms : List M) → Looked ms
  unfolding Looked
  looked [] = looked_end
  looked (m ∷ ms) = λ o ps bs c d e x g k open_so none b i. go (looked ms) o ps bs c d e x g k open_so b i (S.inside b.0 (S.mover m)) refl
    where
      go : Looked ms → (o : Option ℕ) (ps bs : List M) (c d e : C) (x : D)
          → Staged S ps None c → Meets ps c x → ((t : ℕ) → MayStep o t → Opens S t bs c d)
          → (b : BlocksTo S o (m ∷ ms) d None e) → Failing S.steps e ⊎ (S.challenged ((ps ++ bs) ++ m ∷ ms) ≡ true)
          → (q : Bool) → S.inside b.0 (S.mover m) ≡ q → FailsFrom H x
      go ih o ps bs c d e x g k open_so b i false q =
          looked_ends ms m ih o ps bs c d e b.0 x g k open_so b.1 b.2 q (subst (λ z. BlocksTo S (opened z (S.mover m)) ms b.0 None e) q b.3) i
      go ih o ps bs c d e x g k open_so b i true q =
          looked_open ms m ih o ps bs c d e b.0 x g k open_so b.1 b.2 q (subst (λ z. BlocksTo S (opened z (S.mover m)) ms b.0 None e) q b.3) i

  pub simulated : BlocksFail S → SystemCanFail H
  unfolding Looked
  simulated f = go (S.challenged []) refl
    where
      go : (b : Bool) → S.challenged [] ≡ b → SystemCanFail H
      go true e = l.challenged_fails [] S.start H.start (refl, refl) l.meets_first e
      go false e = looked f.0 None [] [] S.start S.start f.1 H.start (begun e) l.meets_first (λ t h. refl) (λ h. refl) f.2 f.3
