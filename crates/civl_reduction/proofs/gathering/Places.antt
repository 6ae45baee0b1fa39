-- Where threads stand when the moves of one of them are gathered: before the turn of its block the others' steps are early,
-- behind it the thread stands late.
use Rattle.std.proofs.Common.{ℕ, ◌≡◌, ◌≢◌, true, false, List, [], ◌∷◌, ◌++◌, Some, refl, sym, ap, subst, ◌∙◌, inl, inr, ◌⊎◌}
use Rattle.std.specs.Prelude.{All}
use Rattle.std.proofs.lemmas.Bool.{cases_eq, both_ways}
use Rattle.std.proofs.lemmas.List.Elements.{All-head, All-tail}
use Rattle.civl_reduction.specs.interleavings.Systems.{System}
use Rattle.civl_reduction.specs.interleavings.Runs.{SystemRuns, Opens}
use Rattle.civl_reduction.specs.interleavings.Reduction.{Exchanged, Place, Between, Early, Late, is_inside}
use Rattle.civl_reduction.specs.gathering.Gathered.{others, FailsSooner, IsGathered, FailsInside, AllPass, AreEarly}
use Rattle.civl_reduction.proofs.gathering.Gathering.{MayGoBehind, Gathers, others_mine, others_other, gathered, stopped}

-- what the reduction asks of steps by moves of which this is so, apart from block runs
pub record AreMovers (C M : Type 0) (S : System C M) (place : C → ℕ → Place) (Holds : C → Type 0) (Valid : M → Type 0) : Type 0 where
  pub inside_is : (c : C) (t : ℕ) → S.inside c t ≡ is_inside (place c t)
  pub holds_on : (c d : C) (m : M) → Valid m → Holds c → S.step c m ≡ Some d → Holds d
  pub others_stay : (c d : C) (m : M) (t : ℕ) → Valid m → Holds c → S.step c m ≡ Some d → S.mover m ≢ t → place d t ≡ place c t
  pub late_stays : (c d : C) (m : M) → Valid m → Holds c → S.step c m ≡ Some d → place c (S.mover m) ≡ Late → place d (S.mover m) ≢ Early
  pub goes_behind : (c d e : C) (m n : M) → Valid m → Valid n → Holds c → S.step c m ≡ Some d → S.step d n ≡ Some e → S.mover m ≢ S.mover n → place d (S.mover m) ≡ Early → Exchanged S.steps c m n e
  pub failed_before : (c d : C) (m : M) (t : ℕ) → Valid m → Holds c → S.step c m ≡ Some d → S.mover m ≢ t → place d (S.mover m) ≡ Early → S.fails d t ≡ true → S.fails c t ≡ true
  pub goes_before : (c d e : C) (m n : M) → Valid m → Valid n → Holds c → S.step c m ≡ Some d → S.step d n ≡ Some e → S.mover m ≢ S.mover n → place d (S.mover n) ≡ Late → Exchanged S.steps c m n e
  pub late_failed_before : (c d : C) (m : M) (t : ℕ) → Valid m → Holds c → S.step c m ≡ Some d → S.mover m ≢ t → place c t ≡ Late → S.fails d t ≡ true → S.fails c t ≡ true
  pub fails_on : (c d : C) (m : M) (t : ℕ) → Valid m → Holds c → S.step c m ≡ Some d → S.mover m ≢ t → place c (S.mover m) ≡ Late → S.fails c t ≡ true → S.fails d t ≡ true

module _ {C M : Type 0} (S : System C M) (place : C → ℕ → Place) (Holds : C → Type 0) (Valid : M → Type 0) (l : AreMovers C M S place Holds Valid) where
  pub stays_inside : (c d : C) (m : M) (t : ℕ) → Valid m → Holds c → S.mover m ≢ t → S.step c m ≡ Some d → S.inside d t ≡ S.inside c t
  stays_inside c d m t v h w s = l.inside_is d t ∙ (ap is_inside (l.others_stay c d m t v h s w) ∙ sym (l.inside_is c t))

  inside_of : (c : C) (t : ℕ) (p : Place) → place c t ≡ p → is_inside p ≡ true → S.inside c t ≡ true
  inside_of c t p e i = l.inside_is c t ∙ (ap is_inside e ∙ i)

  -- ---- before the turn

  -- a step that left its thread early
  abbrev pub IsEarly : M → C → Type 0
  IsEarly m d = place d (S.mover m) ≡ Early

  early_go_behind : (t : ℕ) → MayGoBehind C M S t Holds Valid IsEarly
  early_go_behind t = record {
    holds_on = l.holds_on;
    exchanges = λ c d e m n v u h w x p s q. l.goes_behind c d e m n v u h s q (λ y. w (y ∙ x)) p;
    stays = λ d e m n v h w x p q i. l.others_stay d e n (S.mover m) v h q (λ y. w (sym y ∙ x)) ∙ p;
    others_inside = λ c d m v h w s. stays_inside c d m t v h w s;
    failed = λ c d m v h w p s f. l.failed_before c d m t v h s w p f;
  }

  early_gathers : (t : ℕ) (ms : List M) (c e : C) → All Valid ms → AreEarly S place ms c e → Gathers S t Valid IsEarly ms c e
  early_gathers t [] c e v a = a
  early_gathers t (m ∷ ms) c e v a = (
    a.0,
    All-head Valid m ms v,
    a.1,
    elim (cases_eq (S.mover m) t) [ inl w ↦ inl (w, inside_of a.0 t Early (subst (λ u. place a.0 u ≡ Early) w a.2) refl) | inr w ↦ inr (w, a.2) ],
    early_gathers t ms a.0 e (All-tail Valid m ms v) a.3,
  )

  -- early steps of many threads, then a step of one of them
  pub early_gathered : (ms : List M) (m : M) (c d e : C) → All Valid ms → Valid m → Holds c → AreEarly S place ms c d → S.step d m ≡ Some e
      → IsGathered C M S (S.mover m) ms m c e ⊎ FailsSooner S (S.mover m) (ms ++ m ∷ []) c
  early_gathered ms m c d e vs v h a s = gathered S (S.mover m) Holds Valid IsEarly (early_go_behind (S.mover m)) ms m c d e v h refl (early_gathers (S.mover m) ms c d vs a) s

  pub early_stopped : (ms : List M) (t : ℕ) (c e : C) → All Valid ms → Holds c → AreEarly S place ms c e → S.fails e t ≡ true → FailsInside S t ms c ⊎ FailsSooner S t ms c
  early_stopped ms t c e vs h a f = stopped S t Holds Valid IsEarly (early_go_behind t) ms c e h (early_gathers t ms c e vs a) f

  -- ---- behind the turn

  abbrev pub IsLate : ℕ → M → C → Type 0
  IsLate t m d = place d t ≡ Late

  late_or_out : (p : Place) → p ≢ Early → is_inside p ≡ true → p ≡ Late
  late_or_out Between n i = absurd (both_ways false refl i)
  late_or_out Early n i = absurd (n refl)
  late_or_out Late n i = refl

  -- a step of a thread that stands late, which leaves it inside its block
  pub stays_late : (t : ℕ) (c d : C) (m : M) → Valid m → Holds c → S.mover m ≡ t → place c t ≡ Late → S.step c m ≡ Some d → S.inside d t ≡ true → place d t ≡ Late
  stays_late t c d m v h w p s i =
      late_or_out (place d t) (λ e. l.late_stays c d m v h s (subst (λ u. place c u ≡ Late) (sym w) p) (subst (λ u. place d u ≡ Early) (sym w) e)) (sym (l.inside_is d t) ∙ i)

  -- by any move
  pub passes_late : (t : ℕ) (c d : C) (m : M) → Valid m → Holds c → place c t ≡ Late → S.step c m ≡ Some d → (S.mover m ≡ t → S.inside d t ≡ true) → place d t ≡ Late
  passes_late t c d m v h p s i = elim (cases_eq (S.mover m) t) [ inl w ↦ stays_late t c d m v h w p s (i w) | inr w ↦ l.others_stay c d m t v h s w ∙ p ]

  late_go_behind : (t : ℕ) → MayGoBehind C M S t Holds Valid (IsLate t)
  late_go_behind t = record {
    holds_on = l.holds_on;
    exchanges = λ c d e m n v u h w x p s q. l.goes_before c d e m n v u h s q (λ y. w (y ∙ x)) (subst (λ u. place d u ≡ Late) (sym x) p);
    stays = λ d e m n v h w x p q i. stays_late t d e n v h x p q i;
    others_inside = λ c d m v h w s. stays_inside c d m t v h w s;
    failed = λ c d m v h w p s f. l.late_failed_before c d m t v h s w (sym (l.others_stay c d m t v h s w) ∙ p) f;
  }

  late_gathers : (t : ℕ) (ms : List M) (c e : C) → All Valid ms → Holds c → place c t ≡ Late → AllPass S t ms c e → Gathers S t Valid (IsLate t) ms c e
  late_gathers t [] c e v h p a = a
  late_gathers t (m ∷ ms) c e v h p a =
      let u = All-head Valid m ms v in
      let q = passes_late t c a.0 m u h p a.1.0 a.1.1 in
      (a.0, u, a.1.0, elim (cases_eq (S.mover m) t) [ inl w ↦ inl (w, a.1.1 w) | inr w ↦ inr (w, q) ], late_gathers t ms a.0 e (All-tail Valid m ms v) (l.holds_on c a.0 m u h a.1.0) q a.2)

  -- steps of many threads, where one of them stands late in its block, then a step of it
  pub late_gathered : (t : ℕ) (ms : List M) (m : M) (c d e : C) → All Valid ms → Valid m → Holds c → place c t ≡ Late → AllPass S t ms c d → S.mover m ≡ t → S.step d m ≡ Some e
      → IsGathered C M S t ms m c e ⊎ FailsSooner S t (ms ++ m ∷ []) c
  late_gathered t ms m c d e vs v h p a w s = gathered S t Holds Valid (IsLate t) (late_go_behind t) ms m c d e v h w (late_gathers t ms c d vs h p a) s

  pub late_stopped : (t : ℕ) (ms : List M) (c e : C) → All Valid ms → Holds c → place c t ≡ Late → AllPass S t ms c e → S.fails e t ≡ true → FailsInside S t ms c ⊎ FailsSooner S t ms c
  late_stopped t ms c e vs h p a f = stopped S t Holds Valid (IsLate t) (late_go_behind t) ms c e h (late_gathers t ms c e vs h p a) f

  -- it still stands late behind them
  pub late_along : (t : ℕ) (ms : List M) (c e : C) → All Valid ms → Holds c → place c t ≡ Late → AllPass S t ms c e → place e t ≡ Late
  late_along t [] c e v h p a = subst (λ z. place z t ≡ Late) a p
  late_along t (m ∷ ms) c e v h p a =
      let u = All-head Valid m ms v in
      late_along t ms a.0 e (All-tail Valid m ms v) (l.holds_on c a.0 m u h a.1.0) (passes_late t c a.0 m u h p a.1.0 a.1.1) a.2

  -- where another thread fails, it fails behind a late thread's moves too
  pub fails_along_late : (t u : ℕ) (ms : List M) (c e : C) → All Valid ms → Holds c → place c t ≡ Late → Opens S t ms c e → u ≢ t → S.fails c u ≡ true → S.fails e u ≡ true
  fails_along_late t u [] c e v h p a w f = subst (λ z. S.fails z u ≡ true) a f
  fails_along_late t u (m ∷ ms) c e v h p a w f =
      let k = All-head Valid m ms v in
      fails_along_late t u ms a.0 e (All-tail Valid m ms v) (l.holds_on c a.0 m k h a.2) (stays_late t c a.0 m k h a.1 p a.2 a.3) a.4 w
      (l.fails_on c a.0 m u k h a.2 (λ x. w (sym x ∙ a.1)) (subst (λ z. place c z ≡ Late) (sym a.1) p) f)

  pub holds_along : (ms : List M) (c e : C) → All Valid ms → Holds c → SystemRuns S.steps ms c e → Holds e
  holds_along [] c e v h r = subst Holds r h
  holds_along (m ∷ ms) c e v h r = holds_along ms r.0 e (All-tail Valid m ms v) (l.holds_on c r.0 m (All-head Valid m ms v) h r.1) r.2

  -- a thread stands where it stood, behind moves of others
  pub others_leave : (t : ℕ) (ms : List M) (c e : C) → All Valid ms → Holds c → SystemRuns S.steps (others S.mover t ms) c e → place e t ≡ place c t
  others_leave t [] c e v h r = ap (λ z. place z t) (sym r)
  others_leave t (m ∷ ms) c e v h r = elim (cases_eq (S.mover m) t) [
    | inl w ↦ others_leave t ms c e (All-tail Valid m ms v) h (subst (λ z. SystemRuns S.steps z c e) (others_mine S.mover t m ms w) r)
    | inr w ↦ first w (subst (λ z. SystemRuns S.steps z c e) (others_other S.mover t m ms w) r) (λ d k q. others_leave t ms d e (All-tail Valid m ms v) k q)
  ]
    where
      first : S.mover m ≢ t → SystemRuns S.steps (m ∷ others S.mover t ms) c e → ((d : C) → Holds d → SystemRuns S.steps (others S.mover t ms) d e → place e t ≡ place d t) → place e t ≡ place c t
      first w r ih = let u = All-head Valid m ms v in ih r.0 (l.holds_on c r.0 m u h r.1) r.2 ∙ l.others_stay c r.0 m t u h r.1 w
