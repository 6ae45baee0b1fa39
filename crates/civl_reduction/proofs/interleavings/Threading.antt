-- A system of threads over a shared store keeps the laws of the reduction.
use Rattle.std.proofs.Common.{ℕ, zero, suc, ◌≡◌, ◌≢◌, Bool, true, false, not, List, [], ◌∷◌, ◌++◌, Option, None, Some, refl, sym, ap, subst, ◌∙◌, inl, inr}
use Rattle.std.specs.Prelude.{slice_get, slice_set}
use Rattle.std.proofs.lemmas.Option.{same_Some, none-some}
use Rattle.std.proofs.lemmas.Bool.{not-true, not-false, false_from_ne_true, both_ways}
use Rattle.civl_tree.proofs.Lists.{get_other}
use Rattle.civl_reduction.specs.interleavings.Runs.{Staged}
use Rattle.civl_reduction.specs.interleavings.Reduction.{Place, Between, Early, Late, is_inside, Exchanged, Within, IsReducible}
use Rattle.civl_reduction.specs.interleavings.Threads.{Doing, Fails, Waits, Goes, Spawns, Calls, Config, Move, Threads, Outcome, outcome, config_with, step_of, doing_fails, fails_in, stands_in, stepping_of, inside_in, place_in, system_of, Movers, IsIn, Phases, Parted}
use Rattle.civl_reduction.proofs.interleavings.Early.{between_late}
use Rattle.civl_reduction.proofs.interleavings.Exchanging.{Made, made, makes, called, calls, other_there, same_there, other_was, none_spawned, exchanged}

false_true : false ≡ true → ⊥
false_true e = cc

module _ {G T X K O : Type 0} (P : Threads G T X K O) (stands : T → Place) (Right Left : X → Type 0) (Met : G → X → Type 0) (Apart : G → X → X → Type 0) (Holds : Config G T → Type 0)
    (moves : Movers G T X K O P Right Left Met Apart) (phases : Phases G T X K O P stands Right Left Holds) (parted : Parted G T X K O P Met Apart Holds) where
  -- ---- threads that are there

  late_there : (o : Option T) → stands_in stands o ≡ Late → (r : T) × (o ≡ Some r) × (stands r ≡ Late)
  late_there None e = absurd (between_late e)
  late_there (Some r) e = (r, refl, e)

  fails_there : (g : G) (o : Option T) → fails_in P g o ≡ true → (r : T) × (o ≡ Some r) × (doing_fails P (P.doing r) g ≡ true)
  fails_there g None e = absurd (false_true e)
  fails_there g (Some r) e = (r, refl, e)

  -- new threads stand between blocks
  abbrev AreBetween : List T → Type 0
  AreBetween [] = Unit {0}
  AreBetween (n ∷ ns) = (stands n ≡ Between) × AreBetween ns

  new_stands : (ns : List T) (u : ℕ) → AreBetween ns → stands_in stands (slice_get ns u) ≡ Between
  new_stands [] u h = refl
  new_stands (n ∷ ns) zero h = h.0
  new_stands (n ∷ ns) (suc u) h = new_stands ns u h.1

  past_stands : (ts ns : List T) (u : ℕ) → slice_get ts u ≡ None → AreBetween ns → stands_in stands (slice_get (ts ++ ns) u) ≡ Between
  past_stands [] ns u e h = new_stands ns u h
  past_stands (r ∷ ts) ns zero e h = absurd (none-some r (sym e))
  past_stands (r ∷ ts) ns (suc u) e h = past_stands ts ns u e h

  spawned_between : (r : T) → IsIn Holds r → (g : G) (k : K) (z : Outcome G T) (D : Doing T X O) → P.doing r ≡ D → outcome P D g k ≡ Some z → AreBetween z.2
  spawned_between r j g k z Fails q e = absurd (none-some z e)
  spawned_between r j g k z Waits q e = absurd (none-some z e)
  spawned_between r j g k z (Goes s) q e = subst (λ (w : Outcome G T). AreBetween w.2) (same_Some (g, s, []) z e) tt
  spawned_between r j g k z (Spawns s n) q e = subst (λ (w : Outcome G T). AreBetween w.2) (same_Some (g, s, n ∷ []) z e) (phases.new_between r s n j q, tt)
  spawned_between r j g k z (Calls x f) q e = subst (λ (w : Outcome G T). AreBetween w.2) (called P x f g k z e).5 tt

  others_stay : (c d : Config G T) (m : Move K) (u : ℕ) → Holds c → step_of P c m ≡ Some d → m.thread ≢ u → stands_in stands (slice_get d.threads u) ≡ stands_in stands (slice_get c.threads u)
  others_stay c d m u h e w = go (made P c d m e)
    where
      turn : u ≢ m.thread
      turn v = w (sym v)

      by_there : (z : Outcome G T) → AreBetween z.2 → (o : Option T) → slice_get c.threads u ≡ o → stands_in stands (slice_get (config_with c m.thread z).threads u) ≡ stands_in stands (slice_get c.threads u)
      by_there z h (Some q) i = ap (stands_in stands) (other_there P c m.thread u z q turn i ∙ sym i)
      by_there z h None i = past_stands (slice_set c.threads m.thread z.1) z.2 u (get_other c.threads m.thread u z.1 turn ∙ i) h ∙ sym (ap (stands_in stands) i)

      go : Made P c m d → stands_in stands (slice_get d.threads u) ≡ stands_in stands (slice_get c.threads u)
      go x =
          subst (λ (v : Config G T). stands_in stands (slice_get v.threads u) ≡ stands_in stands (slice_get c.threads u)) x.4
          (by_there x.1 (spawned_between x.0 (c, m.thread, h, x.2) c.store m.chosen x.1 (P.doing x.0) refl x.3) (slice_get c.threads u) refl)

  -- where the thread stands that made a step
  stands_then : (c d : Config G T) (m : Move K) (x : Made P c m d) → stands_in stands (slice_get d.threads m.thread) ≡ stands x.1.1
  stands_then c d m x = ap (λ (v : Config G T). stands_in stands (slice_get v.threads m.thread)) (sym x.4) ∙ ap (stands_in stands) (same_there P c m.thread x.1 x.0 x.2)

  goes_on_late : (r : T) → IsIn Holds r → (g : G) (k : K) (z : Outcome G T) (D : Doing T X O) → P.doing r ≡ D → stands r ≡ Late → outcome P D g k ≡ Some z → stands z.1 ≢ Early
  goes_on_late r j g k z Fails q h e = absurd (none-some z e)
  goes_on_late r j g k z Waits q h e = absurd (none-some z e)
  goes_on_late r j g k z (Goes s) q h e = subst (λ (w : Outcome G T). stands w.1 ≢ Early) (same_Some (g, s, []) z e) (phases.late_goes r s j q h)
  goes_on_late r j g k z (Spawns s n) q h e = absurd (phases.late_spawn r s n j q h)
  goes_on_late r j g k z (Calls x f) q h e =
      let c = called P x f g k z e in
      subst (λ (w : Outcome G T). stands w.1 ≢ Early) c.5 (phases.late_calls r x f c.3 j q h)

  late_stays : (c d : Config G T) (m : Move K) → Holds c → step_of P c m ≡ Some d → stands_in stands (slice_get c.threads m.thread) ≡ Late → stands_in stands (slice_get d.threads m.thread) ≢ Early
  late_stays c d m k e h = go (made P c d m e)
    where
      go : Made P c m d → stands_in stands (slice_get d.threads m.thread) ≢ Early
      go x =
          let stood : stands x.0 ≡ Late = sym (ap (stands_in stands) x.2) ∙ h in
          λ i. goes_on_late x.0 (c, m.thread, k, x.2) c.store m.chosen x.1 (P.doing x.0) refl stood x.3 (sym (stands_then c d m x) ∙ i)

  -- ---- a step that leaves its thread early

  early_call : (r : T) → IsIn Holds r → (g : G) (k : K) (z : Outcome G T) (x : X) (f : O → T) → P.doing r ≡ Calls x f → outcome P (P.doing r) g k ≡ Some z → stands z.1 ≡ Early → Right x
  early_call r j g k z x f q e h =
      let c = called P x f g k z (subst (λ (D : Doing T X O). outcome P D g k ≡ Some z) q e) in
      phases.early_right r x f c.3 j q (ap (λ (w : Outcome G T). stands w.1) c.5 ∙ h)

  early_no_spawn : (r : T) → IsIn Holds r → (g : G) (k : K) (z : Outcome G T) → outcome P (P.doing r) g k ≡ Some z → stands z.1 ≡ Early → (s n : T) → P.doing r ≡ Spawns s n → ⊥
  early_no_spawn r j g k z e h s n q =
      let same = same_Some (g, s, n ∷ []) z (subst (λ (D : Doing T X O). outcome P D g k ≡ Some z) q e) in
      phases.early_spawn r s n j q (ap (λ (w : Outcome G T). stands w.1) same ∙ h)

  goes_behind : (c d e : Config G T) (m n : Move K) → Holds c → step_of P c m ≡ Some d → step_of P d n ≡ Some e → m.thread ≢ n.thread → stands_in stands (slice_get d.threads m.thread) ≡ Early → Exchanged (stepping_of P) c m n e
  goes_behind c d e m n h a b w early = go (made P c d m a) (made P d e n b)
    where
      turn : n.thread ≢ m.thread
      turn v = w (sym v)

      go : Made P c m d → Made P d n e → Exchanged (stepping_of P) c m n e
      go x y =
          let early_then : stands x.1.1 ≡ Early = sym (stands_then c d m x) ∙ early in
          let unspawned = early_no_spawn x.0 (c, m.thread, h, x.2) c.store m.chosen x.1 x.3 early_then in
          let none = none_spawned P (P.doing x.0) c.store m.chosen x.1 unspawned x.3 in
          let also : slice_get c.threads n.thread ≡ Some y.0 = sym (other_was P c m.thread n.thread x.1 turn none) ∙ (ap (λ (v : Config G T). slice_get v.threads n.thread) x.4 ∙ y.2) in
          exchanged P c d e m n x.0 y.0 w x.2 also
          (λ u v f i p q. moves.right_swaps c.store u v m.chosen n.chosen (early_call x.0 (c, m.thread, h, x.2) c.store m.chosen x.1 u f p x.3 early_then) (parted.apart c m.thread n.thread x.0 y.0 u v f i h w x.2 also p q))
          (inl unspawned) a b

  -- ---- a step of a thread that stands late

  late_no_spawn : (r : T) → IsIn Holds r → stands r ≡ Late → (s n : T) → P.doing r ≡ Spawns s n → ⊥
  late_no_spawn r j h s n q = phases.late_spawn r s n j q h

  goes_before : (c d e : Config G T) (m n : Move K) → Holds c → step_of P c m ≡ Some d → step_of P d n ≡ Some e → m.thread ≢ n.thread → stands_in stands (slice_get d.threads n.thread) ≡ Late → Exchanged (stepping_of P) c m n e
  goes_before c d e m n h a b w late = go (made P c d m a) (late_there (slice_get c.threads n.thread) (sym (others_stay c d m n.thread h a w) ∙ late))
    where
      go : Made P c m d → (q : T) × (slice_get c.threads n.thread ≡ Some q) × (stands q ≡ Late) → Exchanged (stepping_of P) c m n e
      go x y =
          exchanged P c d e m n x.0 y.0 w x.2 y.1
          (λ u v f i p q. moves.left_swaps c.store v u n.chosen m.chosen (phases.late_left y.0 v i (c, n.thread, h, y.1) q y.2) (parted.apart c n.thread m.thread y.0 x.0 v u i f h (λ z. w (sym z)) y.1 x.2 q p))
          (inr (late_no_spawn y.0 (c, n.thread, h, y.1) y.2)) a b

  -- ---- what fails

  -- a gate behind a step is as before, where it is so behind each call
  gate_stays : (b : Bool) (r : T) (g : G) (k : K) (z : Outcome G T) (y : X) (D : Doing T X O) → P.doing r ≡ D → outcome P D g k ≡ Some z → P.gate y g ≡ b
      → ((u : X) (f : O → T) → P.doing r ≡ Calls u f → (h : G) (o : O) → P.gate u g ≡ true → P.fits u k ≡ true → P.fires u g k ≡ Some (h, o) → P.gate y h ≡ b) → P.gate y z.0 ≡ b
  gate_stays b r g k z y Fails q e h c = absurd (none-some z e)
  gate_stays b r g k z y Waits q e h c = absurd (none-some z e)
  gate_stays b r g k z y (Goes s) q e h c = subst (λ (w : Outcome G T). P.gate y w.0 ≡ b) (same_Some (g, s, []) z e) h
  gate_stays b r g k z y (Spawns s n) q e h c = subst (λ (w : Outcome G T). P.gate y w.0 ≡ b) (same_Some (g, s, n ∷ []) z e) h
  gate_stays b r g k z y (Calls u f) q e h c =
      let d = called P u f g k z e in
      subst (λ (w : Outcome G T). P.gate y w.0 ≡ b) d.5 (c u f q d.2 d.3 d.0 d.1 d.4)

  -- what fails in one store fails in another, where each false gate is false there
  fails_too : (q : T) (g h : G) (D : Doing T X O) → P.doing q ≡ D → ((y : X) (e : O → T) → P.doing q ≡ Calls y e → P.gate y g ≡ false → P.gate y h ≡ false) → doing_fails P D g ≡ true → doing_fails P D h ≡ true
  fails_too q g h Fails i c e = refl
  fails_too q g h Waits i c e = absurd (false_true e)
  fails_too q g h (Goes s) i c e = absurd (false_true e)
  fails_too q g h (Spawns s n) i c e = absurd (false_true e)
  fails_too q g h (Calls y f) i c e = ap not (c y f i (not-true (P.gate y g) e))

  store_then : (c d : Config G T) (m : Move K) (x : Made P c m d) → d.store ≡ x.1.0
  store_then c d m x = sym (ap (λ (v : Config G T). v.store) x.4)

  -- a thread that is there before and behind a step, and fails behind it
  failed : (c d : Config G T) (m : Move K) (w : ℕ) (q : T) (x : Made P c m d) → slice_get c.threads w ≡ Some q → slice_get d.threads w ≡ Some q
      → ((y : X) (e : O → T) → P.doing q ≡ Calls y e → P.gate y c.store ≡ true → P.gate y x.1.0 ≡ true)
      → fails_in P d.store (slice_get d.threads w) ≡ true → fails_in P c.store (slice_get c.threads w) ≡ true
  failed c d m w q x before behind keeps e =
      let there : doing_fails P (P.doing q) x.1.0 ≡ true = sym (ap (λ (v : G). fails_in P v (slice_get d.threads w)) (store_then c d m x) ∙ ap (fails_in P x.1.0) behind) ∙ e in
      ap (fails_in P c.store) before
      ∙ fails_too q x.1.0 c.store (P.doing q) refl (λ y f i j. false_from_ne_true (P.gate y c.store) (λ k. both_ways (P.gate y x.1.0) j (keeps y f i k))) there

  failed_before : (c d : Config G T) (m : Move K) (w : ℕ) → Holds c → step_of P c m ≡ Some d → m.thread ≢ w → stands_in stands (slice_get d.threads m.thread) ≡ Early → fails_in P d.store (slice_get d.threads w) ≡ true → fails_in P c.store (slice_get c.threads w) ≡ true
  failed_before c d m w h a n early e = go (made P c d m a) (fails_there d.store (slice_get d.threads w) e)
    where
      go : Made P c m d → (q : T) × (slice_get d.threads w ≡ Some q) × (doing_fails P (P.doing q) d.store ≡ true) → fails_in P c.store (slice_get c.threads w) ≡ true
      go x y =
          let early_then : stands x.1.1 ≡ Early = sym (stands_then c d m x) ∙ early in
          let none = none_spawned P (P.doing x.0) c.store m.chosen x.1 (early_no_spawn x.0 (c, m.thread, h, x.2) c.store m.chosen x.1 x.3 early_then) x.3 in
          let before : slice_get c.threads w ≡ Some y.0 = sym (other_was P c m.thread w x.1 (λ v. n (sym v)) none) ∙ (ap (λ (v : Config G T). slice_get v.threads w) x.4 ∙ y.1) in
          failed c d m w y.0 x before y.1
          (λ v f i k. gate_stays true x.0 c.store m.chosen x.1 v (P.doing x.0) refl x.3 k
          (λ u g p s o gate fits fires. moves.right_keeps c.store s u v m.chosen o (early_call x.0 (c, m.thread, h, x.2) c.store m.chosen x.1 u g p x.3 early_then) (parted.apart c m.thread w x.0 y.0 u v g f h n x.2 before p i) gate k fits fires))
          e

  late_failed_before : (c d : Config G T) (m : Move K) (w : ℕ) → Holds c → step_of P c m ≡ Some d → m.thread ≢ w → stands_in stands (slice_get c.threads w) ≡ Late → fails_in P d.store (slice_get d.threads w) ≡ true → fails_in P c.store (slice_get c.threads w) ≡ true
  late_failed_before c d m w h a n late e = go (made P c d m a) (late_there (slice_get c.threads w) late)
    where
      turn : w ≢ m.thread
      turn v = n (sym v)

      go : Made P c m d → (q : T) × (slice_get c.threads w ≡ Some q) × (stands q ≡ Late) → fails_in P c.store (slice_get c.threads w) ≡ true
      go x y =
          let behind : slice_get d.threads w ≡ Some y.0 = subst (λ (v : Config G T). slice_get v.threads w ≡ Some y.0) x.4 (other_there P c m.thread w x.1 y.0 turn y.1) in
          failed c d m w y.0 x y.1 behind
          (λ v f i k. gate_stays true x.0 c.store m.chosen x.1 v (P.doing x.0) refl x.3 k
          (λ u g p s o gate fits fires. moves.left_kept c.store s v u m.chosen o (phases.late_left y.0 v f (c, w, h, y.1) i y.2) (parted.apart c w m.thread y.0 x.0 v u f g h turn y.1 x.2 i p) k gate fits fires))
          e

  fails_on : (c d : Config G T) (m : Move K) (w : ℕ) → Holds c → step_of P c m ≡ Some d → m.thread ≢ w → stands_in stands (slice_get c.threads m.thread) ≡ Late → fails_in P c.store (slice_get c.threads w) ≡ true → fails_in P d.store (slice_get d.threads w) ≡ true
  fails_on c d m w h a n late e = go (made P c d m a) (fails_there c.store (slice_get c.threads w) e)
    where
      go : Made P c m d → (q : T) × (slice_get c.threads w ≡ Some q) × (doing_fails P (P.doing q) c.store ≡ true) → fails_in P d.store (slice_get d.threads w) ≡ true
      go x y =
          let stood : stands x.0 ≡ Late = sym (ap (stands_in stands) x.2) ∙ late in
          let behind : slice_get d.threads w ≡ Some y.0 = subst (λ (v : Config G T). slice_get v.threads w ≡ Some y.0) x.4 (other_there P c m.thread w x.1 y.0 (λ v. n (sym v)) y.1) in
          let breaks = λ (v : X) (f : O → T) (i : P.doing y.0 ≡ Calls v f) (k : P.gate v c.store ≡ false).
          gate_stays false x.0 c.store m.chosen x.1 v (P.doing x.0) refl x.3 k
          (λ u g p s o gate fits fires. moves.left_breaks c.store s u v m.chosen o (phases.late_left x.0 u g (c, m.thread, h, x.2) p stood) (parted.apart c m.thread w x.0 y.0 u v g f h n x.2 y.1 p i) gate k fits fires) in
          ap (λ (v : G). fails_in P v (slice_get d.threads w)) (store_then c d m x)
          ∙ ap (fails_in P x.1.0) behind
          ∙ fails_too y.0 c.store x.1.0 (P.doing y.0) refl breaks y.2

  -- a thread that stands late can step
  late_steps : (c : Config G T) (w : ℕ) → Holds c → stands_in stands (slice_get c.threads w) ≡ Late → fails_in P c.store (slice_get c.threads w) ≡ false → (m : Move K) × (d : Config G T) × (m.thread ≡ w) × (step_of P c m ≡ Some d)
  late_steps c w h late e = go (late_there (slice_get c.threads w) late)
    where
      by_doing : (q : T) → slice_get c.threads w ≡ Some q → stands q ≡ Late → (D : Doing T X O) → P.doing q ≡ D → doing_fails P D c.store ≡ false → (m : Move K) × (d : Config G T) × (m.thread ≡ w) × (step_of P c m ≡ Some d)
      by_doing q there stood Fails i f = absurd (false_true (sym f))
      by_doing q there stood Waits i f = absurd (phases.late_waits q (c, w, h, there) stood i)
      by_doing q there stood (Goes s) i f =
          let m : Move K = record { thread = w; chosen = moves.idle } in
          (m, config_with c w (c.store, s, []), refl, makes P c m q (c.store, s, []) there (ap (λ (D : Doing T X O). outcome P D c.store moves.idle) i))
      by_doing q there stood (Spawns s n) i f =
          let m : Move K = record { thread = w; chosen = moves.idle } in
          (m, config_with c w (c.store, s, n ∷ []), refl, makes P c m q (c.store, s, n ∷ []) there (ap (λ (D : Doing T X O). outcome P D c.store moves.idle) i))
      by_doing q there stood (Calls x g) i f =
          let gate : P.gate x c.store ≡ true = not-false (P.gate x c.store) f in
          let y = moves.left_fires c.store x (phases.late_left q x g (c, w, h, there) i stood) (parted.met c w q x g h there i) gate in
          let m : Move K = record { thread = w; chosen = y.0 } in
          let z : Outcome G T = (y.1, g y.2, []) in
          (m, config_with c w z, refl, makes P c m q z there (ap (λ (D : Doing T X O). outcome P D c.store y.0) i ∙ calls P x g c.store y.1 y.0 y.2 gate y.3 y.4))

      go : (q : T) × (slice_get c.threads w ≡ Some q) × (stands q ≡ Late) → (m : Move K) × (d : Config G T) × (m.thread ≡ w) × (step_of P c m ≡ Some d)
      go x = by_doing x.0 x.1 x.2 (P.doing x.0) refl (sym (ap (fails_in P c.store) x.1) ∙ e)

  -- ---- the system, where blocks that stand together don't fail and end

  inside_stands : (o : Option T) → inside_in P o ≡ is_inside (stands_in stands o)
  inside_stands None = refl
  inside_stands (Some r) = phases.inside_is r

  pub threads_are_reducible : (challenged : List (Move K) → Bool) →
      ((ms : List (Move K)) (t : ℕ) (c : Config G T) → Staged (system_of P challenged) ms (Some t) c → fails_in P c.store (slice_get c.threads t) ≡ false)
      → ((ms : List (Move K)) (t : ℕ) (c : Config G T) → Staged (system_of P challenged) ms (Some t) c → place_in stands c t ≡ Late → (n : ℕ) × Within (system_of P challenged) (place_in stands) t n c)
      → IsReducible (Config G T) (Move K) (system_of P challenged) (place_in stands) Holds
  threads_are_reducible challenged safe ends = record {
    inside_is = λ c t. inside_stands (slice_get c.threads t);
    holds_first = parted.holds_first;
    holds_on = parted.holds_on;
    others_stay = λ c d m t h e w. others_stay c d m t h e w;
    late_stays = λ c d m h e p. late_stays c d m h e p;
    goes_behind = goes_behind;
    failed_before = failed_before;
    goes_before = goes_before;
    late_failed_before = late_failed_before;
    fails_on = fails_on;
    late_steps = late_steps;
    safe_inside = safe;
    ends_inside = ends;
  }
