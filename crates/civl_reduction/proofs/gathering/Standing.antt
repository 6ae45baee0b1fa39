-- Block runs to which the gathered moves of a thread are joined.
use Rattle.std.proofs.Common.{ℕ, ◌≡◌, true, false, List, [], ◌∷◌, ◌++◌, Option, None, Some, refl, sym, subst}
use Rattle.std.proofs.lemmas.Bool.{both_ways}
use Rattle.civl_reduction.specs.interleavings.Systems.{Failing, System}
use Rattle.civl_reduction.specs.interleavings.Runs.{SystemRuns, MayStep, Staged, Opens}
use Rattle.civl_reduction.proofs.interleavings.Staging.{inside_any, inside_all, inside_begun}
use Rattle.civl_reduction.specs.gathering.Gathered.{own, FailsInside}

pub opens_run : {C M : Type 0} (S : System C M) (t : ℕ) (ms : List M) (c x : C) → Opens S t ms c x → SystemRuns S.steps ms c x
opens_run S t [] c x o = o
opens_run S t (m ∷ ms) c x o = (o.0, o.2, opens_run S t ms o.0 x o.4)

module _ {C M : Type 0} (S : System C M) where
  -- or one is begun, unless there are no moves
  pub staged_joined : (ps ms : List M) (o : Option ℕ) (t : ℕ) (c x : C) → Staged S ps o c → MayStep o t → Opens S t ms c x → (q : Option ℕ) × MayStep q t × Staged S (ps ++ ms) q x
  staged_joined ps ms None t c x g may o = inside_any S ps ms t c x g o
  staged_joined ps ms (Some u) t c x g may o = (Some t, refl, inside_all S ps ms t c x (subst (λ v. Staged S ps (Some v) c) (sym may) g) o)

  -- a thread doesn't fail inside its block
  pub none_inside : (ps ms : List M) (t : ℕ) (c : C) → (safe : (x : C) → Staged S (ps ++ own S.mover t ms) (Some t) x → S.fails x t ≡ false)
      → Staged S ps (Some t) c → FailsInside S t ms c → ⊥
  none_inside ps ms t c safe g f = both_ways (S.fails f.0 t) (safe f.0 (inside_all S ps (own S.mover t ms) t c f.0 g f.1)) f.2

  -- so where none is open it fails at once
  pub fails_at_once : (ps os : List M) (t : ℕ) (c x : C) → (safe : (x : C) → Staged S (ps ++ os) (Some t) x → S.fails x t ≡ false)
      → Staged S ps None c → Opens S t os c x → S.fails x t ≡ true → Failing S.steps c
  fails_at_once ps [] t c x safe g o f = (t, subst (λ z. S.fails z t ≡ true) (sym o) f)
  fails_at_once ps (m ∷ os) t c x safe g o f = absurd (both_ways (S.fails x t) (safe x (inside_begun S ps os m t c x g o)) f)
