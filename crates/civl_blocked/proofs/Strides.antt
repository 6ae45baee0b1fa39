-- Runs, step by step.
use Rattle.std.proofs.Common.{ℕ, ◌≡◌, true, List, [], ◌∷◌, ◌++◌, None, Some, refl, sym, subst, ◌∙◌}
use Rattle.std.proofs.lemmas.Option.{same_Some, none-some}
use Rattle.civl_reduction.specs.interleavings.Systems.{System}
use Rattle.civl_reduction.specs.interleavings.Runs.{SystemRuns, Opens}
use Rattle.civl_reduction.specs.interleavings.Reduction.{Place, Early}
use Rattle.civl_reduction.specs.gathering.Gathered.{AllPass, AreEarly}
use Rattle.civl_blocked.specs.inner.Segments.{FailsTo}

module _ {C M : Type 0} (S : System C M) where
  pub same_end : (c d e : C) (m : M) → S.step c m ≡ Some d → S.step c m ≡ Some e → d ≡ e
  same_end c d e m s q = same_Some d e (sym s ∙ q)

  -- ---- runs that fail

  pub first_runs : (m : M) (ms : List M) (c : C) → FailsTo S (m ∷ ms) c → (d : C) × (S.step c m ≡ Some d)
  first_runs m ms c f = (f.1.0, f.1.1)

  pub rest_fails : (m : M) (ms : List M) (c d : C) → FailsTo S (m ∷ ms) c → S.step c m ≡ Some d → FailsTo S ms d
  rest_fails m ms c d f s = (f.0, subst (λ x. SystemRuns S.steps ms x f.0) (same_end c f.1.0 d m f.1.1 s) f.1.2, f.2)

  -- ---- one more step

  pub early_more : (place : C → ℕ → Place) (ms : List M) (m : M) (c d e : C) → AreEarly S place ms c d → S.step d m ≡ Some e → place e (S.mover m) ≡ Early → AreEarly S place (ms ++ m ∷ []) c e
  early_more place [] m c d e a s p = (e, subst (λ x. S.step x m ≡ Some e) (sym a) s, p, refl)
  early_more place (n ∷ ms) m c d e a s p = (a.0, a.1, a.2, early_more place ms m a.0 d e a.3 s p)

  pub pass_more : (t : ℕ) (ms : List M) (m : M) (c d e : C) → AllPass S t ms c d → S.step d m ≡ Some e → (S.mover m ≡ t → S.inside e t ≡ true) → AllPass S t (ms ++ m ∷ []) c e
  pass_more t [] m c d e a s i = (e, (subst (λ x. S.step x m ≡ Some e) (sym a) s, i), refl)
  pass_more t (n ∷ ms) m c d e a s i = (a.0, a.1, pass_more t ms m a.0 d e a.2 s i)

  pub run_more : (ms : List M) (m : M) (c d e : C) → SystemRuns S.steps ms c d → S.step d m ≡ Some e → SystemRuns S.steps (ms ++ m ∷ []) c e
  run_more [] m c d e r s = (e, subst (λ x. S.step x m ≡ Some e) (sym r) s, refl)
  run_more (n ∷ ms) m c d e r s = (r.0, r.1, run_more ms m r.0 d e r.2 s)

  pub runs_join : (ms ns : List M) (c d e : C) → SystemRuns S.steps ms c d → SystemRuns S.steps ns d e → SystemRuns S.steps (ms ++ ns) c e
  runs_join [] ns c d e r q = subst (λ x. SystemRuns S.steps ns x e) (sym r) q
  runs_join (m ∷ ms) ns c d e r q = (r.0, r.1, runs_join ms ns r.0 d e r.2 q)

  -- ---- there is one end

  pub one_end : (ms : List M) (c d e : C) → SystemRuns S.steps ms c d → SystemRuns S.steps ms c e → d ≡ e
  one_end [] c d e r q = sym r ∙ q
  one_end (m ∷ ms) c d e r q = one_end ms r.0 d e r.2 (subst (λ x. SystemRuns S.steps ms x e) (same_end c q.0 r.0 m q.1 r.1) q.2)

  pub one_opened : (t : ℕ) (ms : List M) (c d e : C) → Opens S t ms c d → Opens S t ms c e → d ≡ e
  one_opened t [] c d e r q = sym r ∙ q
  one_opened t (m ∷ ms) c d e r q = one_opened t ms r.0 d e r.4 (subst (λ x. Opens S t ms x e) (same_end c q.0 r.0 m q.2 r.2) q.4)

  -- ---- the moves of a thread, and those of others, one after the other

  pub opens_step : (t : ℕ) (m : M) (ms : List M) (c d x : C) → S.step c m ≡ Some d → Opens S t (m ∷ ms) c x → Opens S t ms d x
  opens_step t m ms c d x s o = subst (λ z. Opens S t ms z x) (same_end c o.0 d m o.2 s) o.4

  pub runs_step : (m : M) (ms : List M) (c d x : C) → S.step c m ≡ Some d → SystemRuns S.steps (m ∷ ms) c x → SystemRuns S.steps ms d x
  runs_step m ms c d x s o = subst (λ z. SystemRuns S.steps ms z x) (same_end c o.0 d m o.1 s) o.2

  pub no_step : (c d : C) (m : M) → S.step c m ≡ None → S.step c m ≡ Some d → ⊥
  no_step c d m n s = none-some d (sym n ∙ s)
