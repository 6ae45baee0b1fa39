-- The moves of a thread, one after the other.
use Rattle.std.proofs.Common.{ℕ, ◌+◌, ◌<◌, ◌≡◌, ◌≢◌, true, List, [], ◌∷◌, ◌++◌, length, take, drop, get_or, Option, Some, sym, ap, subst, ◌∙◌}
use Rattle.std.specs.Prelude.{All, IfSome}
use Rattle.std.proofs.lemmas.List.{append-nil, take_more}
use Rattle.std.proofs.lemmas.List.Elements.{All-get_or}
use Rattle.civl_tree.proofs.Lists.{drop_is}
use Rattle.civl_reduction.specs.interleavings.Systems.{System}
use Rattle.civl_reduction.specs.interleavings.Runs.{SystemRuns, Opens}
use Rattle.civl_reduction.specs.gathering.Gathered.{own, others}
use Rattle.civl_reduction.proofs.gathering.Gathering.{own_mine, own_other, others_mine, others_other, own_more}
use Rattle.civl_reduction.proofs.gathering.Counting.{others_more}
use Rattle.civl_reduction.proofs.interleavings.Staging.{opens_more}
use Rattle.civl_blocked.proofs.Strides.{opens_step, run_more, runs_step}

pub if_some : {A : Type 0} (P : A → Type 0) (o : Option A) (x : A) → o ≡ Some x → IfSome o P → P x
if_some P o x e h = subst (λ z. IfSome z P) e h

pub take_is : {A : Type 0} (xs : List A) (i : ℕ) (x : A) → i < length xs → x ≡ get_or xs i x → take (i + 1) xs ≡ take i xs ++ x ∷ []
take_is xs i x h e = take_more xs i x h ∙ ap (λ y. take i xs ++ y ∷ []) (sym e)

pub all_item : {A : Type 0} (V : A → Type 0) (xs : List A) (i : ℕ) (x : A) → i < length xs → x ≡ get_or xs i x → All V xs → V x
all_item V xs i x h e v = subst V (sym e) (All-get_or V xs i x h v)

module _ {C M : Type 0} (S : System C M) (t : ℕ) (ms : List M) (i : ℕ) (m : M) (h : i < length ms) (e : m ≡ get_or ms i m) where
  own_take : S.mover m ≡ t → own S.mover t (take (i + 1) ms) ≡ own S.mover t (take i ms) ++ m ∷ []
  own_take w = ap (own S.mover t) (take_is ms i m h e) ∙ (own_more S.mover t (take i ms) (m ∷ []) ∙ ap (λ l. own S.mover t (take i ms) ++ l) (own_mine S.mover t m [] w))

  own_skip : S.mover m ≢ t → own S.mover t (take (i + 1) ms) ≡ own S.mover t (take i ms)
  own_skip w = ap (own S.mover t) (take_is ms i m h e) ∙ (own_more S.mover t (take i ms) (m ∷ []) ∙ (ap (λ l. own S.mover t (take i ms) ++ l) (own_other S.mover t m [] w) ∙ append-nil (own S.mover t (take i ms))))

  pub own_left : S.mover m ≡ t → own S.mover t (drop i ms) ≡ m ∷ own S.mover t (drop (i + 1) ms)
  own_left w = ap (own S.mover t) (drop_is ms i m h e) ∙ own_mine S.mover t m (drop (i + 1) ms) w

  pub own_passed : S.mover m ≢ t → own S.mover t (drop i ms) ≡ own S.mover t (drop (i + 1) ms)
  own_passed w = ap (own S.mover t) (drop_is ms i m h e) ∙ own_other S.mover t m (drop (i + 1) ms) w

  pub own_done_on : S.mover m ≡ t → own S.mover t (take (i + 1) ms) ≡ own S.mover t (take i ms) ++ m ∷ []
  own_done_on = own_take

  pub own_done_stays : S.mover m ≢ t → own S.mover t (take (i + 1) ms) ≡ own S.mover t (take i ms)
  own_done_stays = own_skip

  pub skips_made : S.mover m ≢ t → (c d : C) → Opens S t (own S.mover t (take i ms)) c d → Opens S t (own S.mover t (take (i + 1) ms)) c d
  skips_made w c d o = subst (λ l. Opens S t l c d) (sym (own_skip w)) o

  pub skips_left : S.mover m ≢ t → (c d : C) → Opens S t (own S.mover t (drop i ms)) c d → Opens S t (own S.mover t (drop (i + 1) ms)) c d
  skips_left w c d o = subst (λ l. Opens S t l c d) (own_passed w) o

  pub goes_made : S.mover m ≡ t → (c d x : C) → Opens S t (own S.mover t (take i ms)) c d → S.step d m ≡ Some x → S.inside x t ≡ true → Opens S t (own S.mover t (take (i + 1) ms)) c x
  goes_made w c d x o s k = subst (λ l. Opens S t l c x) (sym (own_take w)) (opens_more S t (own S.mover t (take i ms)) m c d x o w s k)

  pub goes_left : S.mover m ≡ t → (c d x : C) → S.step c m ≡ Some d → Opens S t (own S.mover t (drop i ms)) c x → Opens S t (own S.mover t (drop (i + 1) ms)) d x
  goes_left w c d x s o = opens_step S t m (own S.mover t (drop (i + 1) ms)) c d x s (subst (λ l. Opens S t l c x) (own_left w) o)

  pub goes_at : S.mover m ≡ t → (c x : C) → Opens S t (own S.mover t (drop i ms)) c x → (d : C) × (S.step c m ≡ Some d) × (S.inside d t ≡ true)
  goes_at w c x o = first (subst (λ l. Opens S t l c x) (own_left w) o)
    where
      first : Opens S t (m ∷ own S.mover t (drop (i + 1) ms)) c x → (d : C) × (S.step c m ≡ Some d) × (S.inside d t ≡ true)
      first q = (q.0, q.2, q.3)

  others_take : S.mover m ≢ t → others S.mover t (take (i + 1) ms) ≡ others S.mover t (take i ms) ++ m ∷ []
  others_take w = ap (others S.mover t) (take_is ms i m h e) ∙ (others_more S.mover t (take i ms) (m ∷ []) ∙ ap (λ l. others S.mover t (take i ms) ++ l) (others_other S.mover t m [] w))

  others_skip : S.mover m ≡ t → others S.mover t (take (i + 1) ms) ≡ others S.mover t (take i ms)
  others_skip w = ap (others S.mover t) (take_is ms i m h e) ∙ (others_more S.mover t (take i ms) (m ∷ []) ∙ (ap (λ l. others S.mover t (take i ms) ++ l) (others_mine S.mover t m [] w) ∙ append-nil (others S.mover t (take i ms))))

  pub others_skips_made : S.mover m ≡ t → (c d : C) → SystemRuns S.steps (others S.mover t (take i ms)) c d → SystemRuns S.steps (others S.mover t (take (i + 1) ms)) c d
  others_skips_made w c d o = subst (λ l. SystemRuns S.steps l c d) (sym (others_skip w)) o

  pub others_skips_left : S.mover m ≡ t → (c d : C) → SystemRuns S.steps (others S.mover t (drop i ms)) c d → SystemRuns S.steps (others S.mover t (drop (i + 1) ms)) c d
  others_skips_left w c d o = subst (λ l. SystemRuns S.steps l c d) (ap (others S.mover t) (drop_is ms i m h e) ∙ others_mine S.mover t m (drop (i + 1) ms) w) o

  pub others_goes_made : S.mover m ≢ t → (c d x : C) → SystemRuns S.steps (others S.mover t (take i ms)) c d → S.step d m ≡ Some x → SystemRuns S.steps (others S.mover t (take (i + 1) ms)) c x
  others_goes_made w c d x o s = subst (λ l. SystemRuns S.steps l c x) (sym (others_take w)) (run_more S (others S.mover t (take i ms)) m c d x o s)

  pub others_goes_left : S.mover m ≢ t → (c d x : C) → S.step c m ≡ Some d → SystemRuns S.steps (others S.mover t (drop i ms)) c x → SystemRuns S.steps (others S.mover t (drop (i + 1) ms)) d x
  others_goes_left w c d x s o = runs_step S m (others S.mover t (drop (i + 1) ms)) c d x s (subst (λ l. SystemRuns S.steps l c x) (ap (others S.mover t) (drop_is ms i m h e) ∙ others_other S.mover t m (drop (i + 1) ms) w) o)
