-- The moves of a thread are gathered at the front of a run, where each move of another thread may be exchanged with them.
use Rattle.std.proofs.Common.{ℕ, ◌≡◌, ◌≢◌, Bool, true, List, [], ◌∷◌, ◌++◌, Some, refl, sym, ap, subst, ◌∙◌, inl, inr, ◌⊎◌}
use Rattle.std.specs.Prelude.{if◌then◌else◌, All}
use Rattle.std.proofs.lemmas.List.Elements.{All-head, All-tail, All-nil, All-cons}
use Rattle.std.proofs.lemmas.Bool.{cases_eq, eq-eqb, ne_eqb}
use Rattle.civl_reduction.specs.interleavings.Systems.{Failing, System}
use Rattle.civl_reduction.specs.interleavings.Runs.{SystemRuns, Opens}
use Rattle.civl_reduction.specs.interleavings.Reduction.{Exchanged}
use Rattle.civl_reduction.specs.gathering.Gathered.{own, others, FailsBehind, FailsAlong, FailsSooner, IsGathered, FailsInside}

-- ---- the moves of a thread, and those of others

abbrev pub keep : {M : Type 0} → Bool → M → List M → List M
keep b m ms = if b then m ∷ ms else ms

pub own_mine : {M : Type 0} (mover : M → ℕ) (t : ℕ) (m : M) (ms : List M) → mover m ≡ t → own mover t (m ∷ ms) ≡ m ∷ own mover t ms
own_mine mover t m ms e = ap (λ b. if b then m ∷ own mover t ms else own mover t ms) (eq-eqb (mover m) t e)

pub own_other : {M : Type 0} (mover : M → ℕ) (t : ℕ) (m : M) (ms : List M) → mover m ≢ t → own mover t (m ∷ ms) ≡ own mover t ms
own_other mover t m ms e = ap (λ b. if b then m ∷ own mover t ms else own mover t ms) (ne_eqb (mover m) t e)

pub others_mine : {M : Type 0} (mover : M → ℕ) (t : ℕ) (m : M) (ms : List M) → mover m ≡ t → others mover t (m ∷ ms) ≡ others mover t ms
others_mine mover t m ms e = ap (λ b. if b then others mover t ms else m ∷ others mover t ms) (eq-eqb (mover m) t e)

pub others_other : {M : Type 0} (mover : M → ℕ) (t : ℕ) (m : M) (ms : List M) → mover m ≢ t → others mover t (m ∷ ms) ≡ m ∷ others mover t ms
others_other mover t m ms e = ap (λ b. if b then others mover t ms else m ∷ others mover t ms) (ne_eqb (mover m) t e)

pub own_more : {M : Type 0} (mover : M → ℕ) (t : ℕ) (ms ns : List M) → own mover t (ms ++ ns) ≡ own mover t ms ++ own mover t ns
own_more mover t [] ns = refl
own_more mover t (m ∷ ms) ns = elim (cases_eq (mover m) t) [
  | inl e ↦ own_mine mover t m (ms ++ ns) e ∙ (ap (λ l. m ∷ l) (own_more mover t ms ns) ∙ ap (λ l. l ++ own mover t ns) (sym (own_mine mover t m ms e)))
  | inr e ↦ own_other mover t m (ms ++ ns) e ∙ (own_more mover t ms ns ∙ ap (λ l. l ++ own mover t ns) (sym (own_other mover t m ms e)))
]

pub own_last : {M : Type 0} (mover : M → ℕ) (t : ℕ) (ms : List M) (m : M) → mover m ≡ t → own mover t (ms ++ m ∷ []) ≡ own mover t ms ++ m ∷ []
own_last mover t ms m e = own_more mover t ms (m ∷ []) ∙ ap (λ l. own mover t ms ++ l) (own_mine mover t m [] e)

-- what is so of all moves
pub own_all : {M : Type 0} (V : M → Type 0) (mover : M → ℕ) (t : ℕ) (ms : List M) → All V ms → All V (own mover t ms)
own_all V mover t [] v = All-nil V
own_all V mover t (m ∷ ms) v = elim (cases_eq (mover m) t) [
  | inl e ↦ subst (All V) (sym (own_mine mover t m ms e)) (All-cons V m (own mover t ms) (All-head V m ms v) (own_all V mover t ms (All-tail V m ms v)))
  | inr e ↦ subst (All V) (sym (own_other mover t m ms e)) (own_all V mover t ms (All-tail V m ms v))
]

pub others_all : {M : Type 0} (V : M → Type 0) (mover : M → ℕ) (t : ℕ) (ms : List M) → All V ms → All V (others mover t ms)
others_all V mover t [] v = All-nil V
others_all V mover t (m ∷ ms) v = elim (cases_eq (mover m) t) [
  | inl e ↦ subst (All V) (sym (others_mine mover t m ms e)) (others_all V mover t ms (All-tail V m ms v))
  | inr e ↦ subst (All V) (sym (others_other mover t m ms e)) (All-cons V m (others mover t ms) (All-head V m ms v) (others_all V mover t ms (All-tail V m ms v)))
]

module _ {C M : Type 0} (S : System C M) (t : ℕ) where
  -- ---- failing along a thread's moves

  -- with more moves behind
  pub fails_behind_more : (ms ns : List M) (c : C) → FailsBehind S t ms c → FailsBehind S t (ms ++ ns) c
  fails_behind_more [] ns c f = absurd f
  fails_behind_more (m ∷ ms) ns c f = (f.0, f.1, elim f.2 [ inl g ↦ inl g | inr g ↦ inr (g.0, fails_behind_more ms ns f.0 g.1) ])

  pub fails_along_more : (ms ns : List M) (c : C) → FailsAlong S t ms c → FailsAlong S t (ms ++ ns) c
  fails_along_more ms ns c (inl f) = inl f
  fails_along_more ms ns c (inr f) = inr (fails_behind_more ms ns c f)

  -- with one move in front
  pub fails_along_first : (m : M) (ms : List M) (c d : C) → S.step c m ≡ Some d → S.inside d t ≡ true → FailsAlong S t ms d → FailsAlong S t (m ∷ ms) c
  fails_along_first m ms c d s i (inl f) = inr (d, s, inl f)
  fails_along_first m ms c d s i (inr f) = inr (d, s, inr (i, f))

  -- where moves lead to a configuration that fails
  pub fails_there : (ms : List M) (c x : C) → Opens S t ms c x → Failing S.steps x → FailsAlong S t ms c
  fails_there [] c x o f = inl (subst (Failing S.steps) (sym o) f)
  fails_there (m ∷ ms) c x o f = fails_along_first m ms c o.0 o.2 o.3 (fails_there ms o.0 x o.4 f)

  -- or one more move of the thread does
  pub fails_then : (ms : List M) (m : M) (c x y : C) → Opens S t ms c x → S.step x m ≡ Some y → Failing S.steps y → FailsAlong S t (ms ++ m ∷ []) c
  fails_then [] m c x y o s f = inr (y, subst (λ z. S.step z m ≡ Some y) (sym o) s, inl f)
  fails_then (n ∷ ms) m c x y o s f = fails_along_first n (ms ++ m ∷ []) c o.0 o.2 o.3 (fails_then ms m o.0 x y o.4 s f)

-- Of moves of other threads it is told by the configuration behind them that they may be exchanged with those of thread t.
pub record MayGoBehind (C M : Type 0) (S : System C M) (t : ℕ) (Holds : C → Type 0) (Valid : M → Type 0) (May : M → C → Type 0) : Type 0 where
  pub holds_on : (c d : C) (m : M) → Valid m → Holds c → S.step c m ≡ Some d → Holds d
  -- they may be, and then that is so behind the exchange too
  pub exchanges : (c d e : C) (m n : M) → Valid m → Valid n → Holds c → S.mover m ≢ t → S.mover n ≡ t → May m d → S.step c m ≡ Some d → S.step d n ≡ Some e → Exchanged S.steps c m n e
  pub stays : (d e : C) (m n : M) → Valid n → Holds d → S.mover m ≢ t → S.mover n ≡ t → May m d → S.step d n ≡ Some e → S.inside e t ≡ true → May m e
  -- the thread stays where it is
  pub others_inside : (c d : C) (m : M) → Valid m → Holds c → S.mover m ≢ t → S.step c m ≡ Some d → S.inside d t ≡ S.inside c t
  -- and where it fails behind such a move it failed before
  pub failed : (c d : C) (m : M) → Valid m → Holds c → S.mover m ≢ t → May m d → S.step c m ≡ Some d → S.fails d t ≡ true → S.fails c t ≡ true

-- moves of thread t that leave it inside its block, and such moves of others
abbrev pub Gathers : {C M : Type 0} → System C M → ℕ → (M → Type 0) → (M → C → Type 0) → List M → C → C → Type 0
Gathers S t Valid May [] c e = c ≡ e
Gathers {C} S t Valid May (m ∷ ms) c e =
    (d : C) × Valid m × (S.step c m ≡ Some d) × (((S.mover m ≡ t) × (S.inside d t ≡ true)) ⊎ ((S.mover m ≢ t) × May m d)) × Gathers S t Valid May ms d e

module _ {C M : Type 0} (S : System C M) (t : ℕ) (Holds : C → Type 0) (Valid : M → Type 0) (May : M → C → Type 0) (l : MayGoBehind C M S t Holds Valid May) where
  pub holds_opened : (ms : List M) (c x : C) → All Valid ms → Holds c → Opens S t ms c x → Holds x
  holds_opened [] c x v h o = subst Holds o h
  holds_opened (m ∷ ms) c x v h o = holds_opened ms o.0 x (All-tail Valid m ms v) (l.holds_on c o.0 m (All-head Valid m ms v) h o.2) o.4

  own_valid : (ms : List M) (c e : C) → Gathers S t Valid May ms c e → All Valid (own S.mover t ms)
  own_valid [] c e g = All-nil Valid
  own_valid (m ∷ ms) c e g = go g.3 (own_valid ms g.0 e g.4)
    where
      go : ((S.mover m ≡ t) × (S.inside g.0 t ≡ true)) ⊎ ((S.mover m ≢ t) × May m g.0) → All Valid (own S.mover t ms) → All Valid (own S.mover t (m ∷ ms))
      go (inl k) v = subst (All Valid) (sym (own_mine S.mover t m ms k.0)) (All-cons Valid m (own S.mover t ms) g.1 v)
      go (inr k) v = subst (All Valid) (sym (own_other S.mover t m ms k.0)) v

  -- a move of another thread behind moves of the thread
  abbrev pub Pushed : List M → M → C → C → Type 0
  Pushed os m c x = ((y : C) × Opens S t os c y × (S.step y m ≡ Some x) × May m x) ⊎ FailsAlong S t os c

  pub pushed : (os : List M) (m : M) (c d x : C) → All Valid os → Valid m → Holds c → S.mover m ≢ t → S.step c m ≡ Some d → May m d → Opens S t os d x → Pushed os m c x
  pushed [] m c d x vs v h w s p o = inl (c, refl, subst (λ z. S.step c m ≡ Some z) o s, subst (May m) o p)
  pushed (n ∷ os) m c d x vs v h w s p o = go (l.exchanges c d o.0 m n v first h w o.1 p s o.2) (λ y k q. pushed os m y o.0 x (All-tail Valid n os vs) v k w q (l.stays d o.0 m n first (l.holds_on c d m v h s) w o.1 p o.2 o.3) o.4)
    where
      first : Valid n
      first = All-head Valid n os vs

      more : (y : C) → S.step c n ≡ Some y → S.inside y t ≡ true → Pushed os m y x → Pushed (n ∷ os) m c x
      more y q i (inl r) = inl (r.0, (y, o.1, q, i, r.1), r.2, r.3)
      more y q i (inr f) = inr (fails_along_first S t n os c y q i f)

      go : Exchanged S.steps c m n o.0 → ((y : C) → Holds y → S.step y m ≡ Some o.0 → Pushed os m y x) → Pushed (n ∷ os) m c x
      go (inl k) ih =
          let held = l.holds_on c k.0 n first h k.1 in
          more k.0 k.1 (sym (l.others_inside k.0 o.0 m v held w k.2) ∙ o.3) (ih k.0 held k.2)
      go (inr (inl f)) ih = inr (inl f)
      go (inr (inr f)) ih = inr (inr (f.0, f.1, inl f.2))

  abbrev pub Outcome : List M → M → C → C → Type 0
  Outcome ms m c e = IsGathered C M S t ms m c e ⊎ FailsSooner S t (ms ++ m ∷ []) c

  own_first : (n m : M) (ms : List M) (c d e : C) → S.mover n ≡ t → S.step c n ≡ Some d → S.inside d t ≡ true → IsGathered C M S t ms m d e → IsGathered C M S t (n ∷ ms) m c e
  own_first n m ms c d e w s i g = record {
    middle = g.middle;
    after = g.after;
    opens = subst (λ z. Opens S t z c g.middle) (sym (own_mine S.mover t n ms w)) (d, w, s, i, g.opens);
    last = g.last;
    rest = subst (λ z. SystemRuns S.steps z g.after e) (sym (others_mine S.mover t n ms w)) g.rest;
  }

  -- a move of another thread in front of those that are gathered
  module _ (n m : M) (ms : List M) (c d e : C) (vs : All Valid (own S.mover t ms)) (v : Valid n) (u : Valid m) (h : Holds c) (turns : S.mover m ≡ t) (w : S.mover n ≢ t) (s : S.step c n ≡ Some d) (p : May n d) where
    sooner : FailsAlong S t (own S.mover t ms ++ m ∷ []) c → Outcome (n ∷ ms) m c e
    sooner f = inr (inl (w, subst (λ z. FailsAlong S t z c) (sym (own_last S.mover t ms m turns)) f))

    swapped : (g : IsGathered C M S t ms m d e) (y : C) → Opens S t (own S.mover t ms) c y → S.step y n ≡ Some g.middle → Exchanged S.steps y n m g.after → Outcome (n ∷ ms) m c e
    swapped g y o q (inl k) = inl (record {
      middle = y;
      after = k.0;
      opens = subst (λ z. Opens S t z c y) (sym (own_other S.mover t n ms w)) o;
      last = k.1;
      rest = subst (λ z. SystemRuns S.steps z k.0 e) (sym (others_other S.mover t n ms w)) (g.after, k.2, g.rest);
    })
    swapped g y o q (inr (inl f)) = sooner (fails_along_more S t (own S.mover t ms) (m ∷ []) c (fails_there S t (own S.mover t ms) c y o f))
    swapped g y o q (inr (inr f)) = sooner (fails_then S t (own S.mover t ms) m c y f.0 o f.1 f.2)

    other_first : (g : IsGathered C M S t ms m d e) → Pushed (own S.mover t ms) n c g.middle → Outcome (n ∷ ms) m c e
    other_first g (inl r) = swapped g r.0 r.1 r.2 (l.exchanges r.0 g.middle g.after n m v u (holds_opened (own S.mover t ms) c r.0 vs h r.1) w turns r.3 r.2 g.last)
    other_first g (inr f) = sooner (fails_along_more S t (own S.mover t ms) (m ∷ []) c f)

  -- the thread's moves, of which the last comes behind all others, are gathered, or something fails sooner
  pub gathered : (ms : List M) (m : M) (c d e : C) → Valid m → Holds c → S.mover m ≡ t → Gathers S t Valid May ms c d → S.step d m ≡ Some e → Outcome ms m c e
  gathered [] m c d e u h turns g s = inl (record { middle = c; after = e; opens = refl; last = subst (λ z. S.step z m ≡ Some e) (sym g) s; rest = refl })
  gathered (n ∷ ms) m c d e u h turns g s = go g.3 (gathered ms m g.0 d e u (l.holds_on c g.0 n g.1 h g.2) turns g.4 s)
    where
      vs : All Valid (own S.mover t ms)
      vs = own_valid ms g.0 d g.4

      go : ((S.mover n ≡ t) × (S.inside g.0 t ≡ true)) ⊎ ((S.mover n ≢ t) × May n g.0) → Outcome ms m g.0 e → Outcome (n ∷ ms) m c e
      go (inl k) (inr f) = inr (inr (g.0, (g.2, λ w. k.1), f))
      go (inr k) (inr f) = inr (inr (g.0, (g.2, λ w. absurd (k.0 w)), f))
      go (inl k) (inl r) = inl (own_first n m ms c g.0 e k.0 g.2 k.1 r)
      go (inr k) (inl r) = other_first n m ms c g.0 e vs g.1 u h turns k.0 g.2 k.1 r (pushed (own S.mover t ms) n c g.0 r.middle vs g.1 h k.0 g.2 k.1 r.opens)

  -- where it fails behind such moves, it fails behind its own moves alone, or something fails sooner
  pub stopped : (ms : List M) (c e : C) → Holds c → Gathers S t Valid May ms c e → S.fails e t ≡ true → FailsInside S t ms c ⊎ FailsSooner S t ms c
  stopped [] c e h g f = inl (e, g, f)
  stopped (n ∷ ms) c e h g f = go g.3 (stopped ms g.0 e (l.holds_on c g.0 n g.1 h g.2) g.4 f)
    where
      vs : All Valid (own S.mover t ms)
      vs = own_valid ms g.0 e g.4

      by_push : (k : S.mover n ≢ t) (x : C) → S.fails x t ≡ true → Pushed (own S.mover t ms) n c x → FailsInside S t (n ∷ ms) c ⊎ FailsSooner S t (n ∷ ms) c
      by_push k x q (inl r) = inl (r.0, subst (λ z. Opens S t z c r.0) (sym (own_other S.mover t n ms k)) r.1, l.failed r.0 x n g.1 (holds_opened (own S.mover t ms) c r.0 vs h r.1) k r.3 r.2 q)
      by_push k x q (inr r) = inr (inl (k, r))

      go : ((S.mover n ≡ t) × (S.inside g.0 t ≡ true)) ⊎ ((S.mover n ≢ t) × May n g.0) → FailsInside S t ms g.0 ⊎ FailsSooner S t ms g.0 → FailsInside S t (n ∷ ms) c ⊎ FailsSooner S t (n ∷ ms) c
      go (inl k) (inr r) = inr (inr (g.0, (g.2, λ w. k.1), r))
      go (inr k) (inr r) = inr (inr (g.0, (g.2, λ w. absurd (k.0 w)), r))
      go (inl k) (inl r) = inl (r.0, subst (λ z. Opens S t z c r.0) (sym (own_mine S.mover t n ms k.0)) (g.0, k.0, g.2, k.1, r.1), r.2)
      go (inr k) (inl r) = by_push k.0 r.0 r.2 (pushed (own S.mover t ms) n c g.0 r.0 vs g.1 h k.0 g.2 k.1 r.1)
