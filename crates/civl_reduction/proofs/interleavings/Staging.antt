-- Block runs that are made longer at their end.
use Rattle.std.proofs.Common.{ℕ, ◌≡◌, ◌≢◌, Bool, true, false, List, [], ◌∷◌, ◌++◌, Option, None, Some, refl, sym, ap, subst, ◌∙◌, append_assoc, inl, inr, ◌⊎◌}
use Rattle.std.proofs.lemmas.List.{append-nil}
use Rattle.std.proofs.lemmas.Bool.{cases_eq}
use Rattle.std.proofs.lemmas.Option.{same_Some}
use Rattle.civl_reduction.specs.interleavings.Systems.{System}
use Rattle.civl_reduction.specs.interleavings.Runs.{MayStep, opened, BlocksTo, IsBlockRun, BlocksFail, Staged, begun, goes, ends, Opens}
use Rattle.civl_reduction.specs.interleavings.Reduction.{Place, is_inside, IsReducible}
use Rattle.civl_reduction.proofs.interleavings.Early.{Begins}

-- one more step behind
pub blocks_more : {C M : Type 0} (S : System C M) (ms : List M) (o p : Option ℕ) (c d : C) (m : M) (e : C) → BlocksTo S o ms c p d → MayStep p (S.mover m) → S.step d m ≡ Some e → BlocksTo S o (ms ++ m ∷ []) c (opened (S.inside e (S.mover m)) (S.mover m)) e
blocks_more S [] o p c d m e b may s = (e, subst (λ z. S.step z m ≡ Some e) (sym b.1) s, subst (λ z. MayStep z (S.mover m)) (sym b.0) may, (refl, refl))
blocks_more S (n ∷ ms) o p c d m e b may s = (b.0, b.1, b.2, blocks_more S ms (opened (S.inside b.0 (S.mover n)) (S.mover n)) p b.0 d m e b.3 may s)

pub staged_runs : {C M : Type 0} (S : System C M) {ms : List M} {o : Option ℕ} {c : C} → Staged S ms o c → BlocksTo S None ms S.start o c
staged_runs S (begun e) = (refl, refl)
staged_runs S (goes {ms = ms} {o = o} {c = c} m d g may s p) = subst (λ i. BlocksTo S None (ms ++ m ∷ []) S.start (opened i (S.mover m)) d) p (blocks_more S ms None o S.start c m d (staged_runs S g) may s)
staged_runs S (ends {ms = ms} {o = o} {c = c} m d g may s p e) = subst (λ i. BlocksTo S None (ms ++ m ∷ []) S.start (opened i (S.mover m)) d) p (blocks_more S ms None o S.start c m d (staged_runs S g) may s)

module _ {C M : Type 0} (S : System C M) (place : C → ℕ → Place) (Holds : C → Type 0) (l : IsReducible C M S place Holds) where
  pub holds_staged : {ms : List M} {o : Option ℕ} {c : C} → Staged S ms o c → Holds c
  holds_staged (begun e) = l.holds_first
  holds_staged (goes {c = c} m d g may s p) = l.holds_on c d m (holds_staged g) s
  holds_staged (ends {c = c} m d g may s p e) = l.holds_on c d m (holds_staged g) s

  pub begins_opens : (t : ℕ) (ms : List M) (c x : C) → Begins S place t ms c x → Opens S t ms c x
  begins_opens t [] c x b = b
  begins_opens t (m ∷ ms) c x b = (b.0, b.1, b.2, l.inside_is b.0 t ∙ ap is_inside b.3, begins_opens t ms b.0 x b.4)

  -- another thread stays inside its block, or outside all blocks
  others_inside : (c d : C) (m : M) (t : ℕ) → Holds c → S.step c m ≡ Some d → S.mover m ≢ t → S.inside d t ≡ S.inside c t
  others_inside c d m t h s w = l.inside_is d t ∙ (ap is_inside (l.others_stay c d m t h s w) ∙ sym (l.inside_is c t))

  other_open : (m : M) (t : ℕ) (o : Option ℕ) → MayStep o (S.mover m) → S.mover m ≢ t → o ≢ Some t
  other_open m t None may w v = absurd cc
  other_open m t (Some u) may w v = w (may ∙ same_Some u t v)

  -- where no thread is inside a block at the start, none is inside one but that of the open block
  pub all_between : ((t : ℕ) → S.inside S.start t ≡ false) → {ms : List M} {o : Option ℕ} {c : C} → Staged S ms o c → (t : ℕ) → o ≢ Some t → S.inside c t ≡ false
  all_between from (begun e) t q = from t
  all_between from (goes {o = o} {c = c} m d g may s p) t q = go (cases_eq (S.mover m) t) (all_between from g t)
    where
      go : (S.mover m ≡ t) ⊎ (S.mover m ≢ t) → (o ≢ Some t → S.inside c t ≡ false) → S.inside d t ≡ false
      go (inl w) ih = absurd (q (ap Some w))
      go (inr w) ih = others_inside c d m t (holds_staged g) s w ∙ ih (other_open m t o may w)
  all_between from (ends {o = o} {c = c} m d g may s p e) t q = go (cases_eq (S.mover m) t) (all_between from g t)
    where
      go : (S.mover m ≡ t) ⊎ (S.mover m ≢ t) → (o ≢ Some t → S.inside c t ≡ false) → S.inside d t ≡ false
      go (inl w) ih = subst (λ u. S.inside d u ≡ false) w p
      go (inr w) ih = others_inside c d m t (holds_staged g) s w ∙ ih (other_open m t o may w)

-- one more step of the open block, or the first of a block
pub inside_more : {C M : Type 0} (S : System C M) (ps : List M) (o : Option ℕ) (t : ℕ) (c d : C) (m : M) → Staged S ps o c → MayStep o t → S.mover m ≡ t → S.step c m ≡ Some d → S.inside d t ≡ true → Staged S (ps ++ m ∷ []) (Some t) d
inside_more S ps o t c d m g may w s p =
    subst (λ u. Staged S (ps ++ m ∷ []) (Some u) d) w
    (goes m d g (subst (MayStep o) (sym w) may) s (subst (λ u. S.inside d u ≡ true) (sym w) p))

-- a step that ends the block makes a block run
pub ends_run : {C M : Type 0} (S : System C M) (ps : List M) (o : Option ℕ) (t : ℕ) (c d : C) (m : M) → Staged S ps o c → MayStep o t → S.mover m ≡ t → S.step c m ≡ Some d → S.inside d t ≡ false → IsBlockRun S (ps ++ m ∷ []) d
ends_run S ps o t c d m g may w s p =
    subst (λ i. BlocksTo S None (ps ++ m ∷ []) S.start (opened i (S.mover m)) d) (subst (λ u. S.inside d u ≡ false) (sym w) p)
    (blocks_more S ps None o S.start c m d (staged_runs S g) (subst (MayStep o) (sym w) may) s)

pub ends_staged : {C M : Type 0} (S : System C M) (ps : List M) (o : Option ℕ) (t : ℕ) (c d : C) (m : M) → Staged S ps o c → MayStep o t → S.mover m ≡ t → S.step c m ≡ Some d → S.inside d t ≡ false → S.challenged (ps ++ m ∷ []) ≡ false → Staged S (ps ++ m ∷ []) None d
ends_staged S ps o t c d m g may w s p e = ends m d g (subst (MayStep o) (sym w) may) s (subst (λ u. S.inside d u ≡ false) (sym w) p) e

-- it may be challenged, or not
pub ends_more : {C M : Type 0} (S : System C M) (ps : List M) (o : Option ℕ) (t : ℕ) (c d : C) (m : M) → Staged S ps o c → MayStep o t → S.mover m ≡ t → S.step c m ≡ Some d → S.inside d t ≡ false → Staged S (ps ++ m ∷ []) None d ⊎ BlocksFail S
ends_more S ps o t c d m g may w s p = go (S.challenged (ps ++ m ∷ [])) refl
  where
    go : (b : Bool) → S.challenged (ps ++ m ∷ []) ≡ b → Staged S (ps ++ m ∷ []) None d ⊎ BlocksFail S
    go false e = inl (ends_staged S ps o t c d m g may w s p e)
    go true e = inr (ps ++ m ∷ [], d, ends_run S ps o t c d m g may w s p, inr e)

-- one more such step
pub opens_more : {C M : Type 0} (S : System C M) (t : ℕ) (ms : List M) (m : M) (c x y : C) → Opens S t ms c x → S.mover m ≡ t → S.step x m ≡ Some y → S.inside y t ≡ true → Opens S t (ms ++ m ∷ []) c y
opens_more S t [] m c x y b w s p = (y, w, subst (λ z. S.step z m ≡ Some y) (sym b) s, p, refl)
opens_more S t (n ∷ ms) m c x y b w s p = (b.0, b.1, b.2, b.3, opens_more S t ms m b.0 x y b.4 w s p)

-- steps inside the block that is open
pub inside_all : {C M : Type 0} (S : System C M) (ps ms : List M) (t : ℕ) (c x : C) → Staged S ps (Some t) c → Opens S t ms c x → Staged S (ps ++ ms) (Some t) x
inside_all S ps [] t c x g b = subst (Staged S (ps ++ []) (Some t)) b (subst (λ z. Staged S z (Some t) c) (sym (append-nil ps)) g)
inside_all S ps (m ∷ ms) t c x g b =
    subst (λ z. Staged S z (Some t) x) (append_assoc ps (m ∷ []) ms)
    (inside_all S (ps ++ m ∷ []) ms t b.0 x (inside_more S ps (Some t) t c b.0 m g refl b.1 b.2 b.3) b.4)

-- the first steps of a block, where none is open, one at least
pub inside_begun : {C M : Type 0} (S : System C M) (ps ms : List M) (m : M) (t : ℕ) (c x : C) → Staged S ps None c → Opens S t (m ∷ ms) c x → Staged S (ps ++ m ∷ ms) (Some t) x
inside_begun S ps ms m t c x g b =
    subst (λ z. Staged S z (Some t) x) (append_assoc ps (m ∷ []) ms)
    (inside_all S (ps ++ m ∷ []) ms t b.0 x (inside_more S ps None t c b.0 m g tt b.1 b.2 b.3) b.4)

-- any number of them: then the thread may step
pub inside_any : {C M : Type 0} (S : System C M) (ps ms : List M) (t : ℕ) (c x : C) → Staged S ps None c → Opens S t ms c x → (o : Option ℕ) × MayStep o t × Staged S (ps ++ ms) o x
inside_any S ps [] t c x g b = (None, tt, subst (Staged S (ps ++ []) None) b (subst (λ z. Staged S z None c) (sym (append-nil ps)) g))
inside_any S ps (m ∷ ms) t c x g b = (Some t, refl, inside_begun S ps ms m t c x g b)

-- a block run that isn't challenged
pub unchallenged : {C M : Type 0} (S : System C M) (ps : List M) (c : C) → Staged S ps None c → S.challenged ps ≡ false
unchallenged {C} {M} S ps c g = go g refl
  where
    go : {ms : List M} {o : Option ℕ} {d : C} → Staged S ms o d → o ≡ None → S.challenged ms ≡ false
    go (begun e) q = e
    go (goes m d g may s p) q = absurd cc
    go (ends m d g may s p e) q = e
