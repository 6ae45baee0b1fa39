-- Whether the moves of a thread are gathered is found by running them.
use Rattle.std.proofs.Common.{ℕ, ◌≡◌, Bool, false, List, Some, None, subst}
use Rattle.std.specs.Prelude.{IsTrue}
use Rattle.std.proofs.lemmas.Bool.{false≢true}
use Rattle.civl_reduction.specs.interleavings.Systems.{System}
use Rattle.civl_reduction.specs.interleavings.Runs.{SystemRuns, Opens}
use Rattle.civl_reduction.specs.gathering.Gathered.{own, others, IsGathered}
use Rattle.civl_blocked.proofs.Strides.{one_opened, one_end, no_step, same_end}

module _ {C M : Type 0} (S : System C M) (t : ℕ) (ms : List M) (m : M) (c e x : C) (o : Opens S t (own S.mover t ms) c x) where
  abbrev pub G : Type 0
  G = IsGathered C M S t ms m c e

  abbrev pub Says : Bool → Type 0
  Says b = (IsTrue b → G) × (G → IsTrue b)

  same_middle : (g : G) → g.middle ≡ x
  same_middle g = one_opened S t (own S.mover t ms) c g.middle x g.opens o

  last_there : (g : G) → S.step x m ≡ Some g.after
  last_there g = subst (λ z. S.step z m ≡ Some g.after) (same_middle g) g.last

  pub not_last : S.step x m ≡ None → Says false
  not_last n = (λ h. absurd (false≢true h), λ g. absurd (no_step S x g.after m n (last_there g)))

  module _ (y : C) (s : S.step x m ≡ Some y) where
    rest_there : (g : G) → SystemRuns S.steps (others S.mover t ms) y e
    rest_there g = subst (λ z. SystemRuns S.steps (others S.mover t ms) z e) (same_end S x g.after y m (last_there g) s) g.rest

    pub not_rest : ((z : C) → SystemRuns S.steps (others S.mover t ms) y z → ⊥) → Says false
    not_rest n = (λ h. absurd (false≢true h), λ g. absurd (n e (rest_there g)))

    pub whole : (z : C) (b : Bool) → SystemRuns S.steps (others S.mover t ms) y z → (IsTrue b → z ≡ e) × (z ≡ e → IsTrue b) → Says b
    whole z b r f = (
      λ h. record { middle = x; after = y; opens = o; last = s; rest = subst (λ w. SystemRuns S.steps (others S.mover t ms) y w) (f.0 h) r },
      λ g. f.1 (one_end S (others S.mover t ms) y z e r (rest_there g)),
    )
