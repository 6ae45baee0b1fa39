-- The laws of a system of threads over a shared store, from what is asked of its actions, of where threads stand, and of
-- the invariant.
use Rattle.std.proofs.Common.{ℕ, ◌<◌, ◌≡◌, ◌≢◌, Bool, true, false, not, List, [], ◌∷◌, ◌++◌, length, Option, None, Some, refl, sym, ap, subst, ◌∙◌, append_assoc, arith, inl, inr, ◌⊎◌}
use Rattle.std.specs.Prelude.{option_map, slice_get, slice_set, if◌then◌else◌}
use Rattle.std.proofs.lemmas.List.{append-nil, set_comm, set-append_left, length-set}
use Rattle.std.proofs.lemmas.Option.{same_Some, slice_get_within, none-some}
use Rattle.civl_tree.proofs.Lists.{get_other, get_same, get_front}
use Rattle.civl_reduction.specs.interleavings.Systems.{Stepping, Failing}
use Rattle.civl_reduction.specs.interleavings.Reduction.{Exchanged}
use Rattle.civl_reduction.specs.interleavings.Threads.{Doing, Fails, Waits, Goes, Spawns, Calls, Config, Move, Threads, Outcome, fired, outcome, config_with, step_in, step_of, doing_fails, fails_in, stepping_of, Swaps}

-- ---- lists

sets_swap : {A : Type 0} (ts : List A) (t u : ℕ) (a b : A) (xs ys : List A) → t ≢ u → t < length ts → u < length ts → xs ++ ys ≡ ys ++ xs → slice_set (slice_set ts u b ++ ys) t a ++ xs ≡ slice_set (slice_set ts t a ++ xs) u b ++ ys
sets_swap ts t u a b xs ys n h k e =
    ap (λ z. z ++ xs) (set-append_left (slice_set ts u b) ys t a (omega (arith, h, length-set ts u b)))
    ∙ append_assoc (slice_set (slice_set ts u b) t a) ys xs
    ∙ ap (λ z. z ++ (ys ++ xs)) (sym (set_comm ts t u a b n))
    ∙ ap (λ z. slice_set (slice_set ts t a) u b ++ z) (sym e)
    ∙ sym (append_assoc (slice_set (slice_set ts t a) u b) xs ys)
    ∙ ap (λ z. z ++ ys) (sym (set-append_left (slice_set ts t a) xs u b (omega (arith, k, length-set ts t a))))

module _ {G T X K O : Type 0} (P : Threads G T X K O) where
  -- ---- steps

  -- a step that was made
  abbrev pub Made : Config G T → Move K → Config G T → Type 0
  Made c m d =
      (r : T) × (z : Outcome G T) × (slice_get c.threads m.thread ≡ Some r) × (outcome P (P.doing r) c.store m.chosen ≡ Some z) × (config_with c m.thread z ≡ d)

  pub made : (c d : Config G T) (m : Move K) → step_of P c m ≡ Some d → Made c m d
  made c d m e = go (slice_get c.threads m.thread) refl e
    where
      by_outcome : (r : T) → slice_get c.threads m.thread ≡ Some r → (o : Option (Outcome G T)) → outcome P (P.doing r) c.store m.chosen ≡ o → option_map (config_with c m.thread) o ≡ Some d → Made c m d
      by_outcome r q None f h = absurd (none-some d h)
      by_outcome r q (Some z) f h = (r, z, q, f, same_Some (config_with c m.thread z) d h)

      go : (o : Option T) → slice_get c.threads m.thread ≡ o → step_in P c m o ≡ Some d → Made c m d
      go None q h = absurd (none-some d h)
      go (Some r) q h = by_outcome r q (outcome P (P.doing r) c.store m.chosen) refl h

  pub makes : (c : Config G T) (m : Move K) (r : T) (z : Outcome G T) → slice_get c.threads m.thread ≡ Some r → outcome P (P.doing r) c.store m.chosen ≡ Some z → step_of P c m ≡ Some (config_with c m.thread z)
  makes c m r z q e = ap (step_in P c m) q ∙ ap (option_map (config_with c m.thread)) e

  -- a call that was made
  abbrev pub Called : X → (O → T) → G → K → Outcome G T → Type 0
  Called x f g k z = (P.gate x g ≡ true) × (P.fits x k ≡ true) × (h : G) × (o : O) × (P.fires x g k ≡ Some (h, o)) × ((h, f o, []) ≡ z)

  pub called : (x : X) (f : O → T) (g : G) (k : K) (z : Outcome G T) → outcome P (Calls x f) g k ≡ Some z → Called x f g k z
  called x f g k z e = go (P.gate x g) (P.fits x k) (P.fires x g k) refl refl refl e
    where
      go : (a b : Bool) (p : Option (G × O)) → P.gate x g ≡ a → P.fits x k ≡ b → P.fires x g k ≡ p → (if a then (if b then fired f p else None) else None) ≡ Some z → Called x f g k z
      go true true (Some p) i j l h = (i, j, p.0, p.1, l, same_Some (p.0, f p.1, []) z h)
      go true true None i j l h = absurd (none-some z h)
      go true false p i j l h = absurd (none-some z h)
      go false b p i j l h = absurd (none-some z h)

  pub calls : (x : X) (f : O → T) (g h : G) (k : K) (o : O) → P.gate x g ≡ true → P.fits x k ≡ true → P.fires x g k ≡ Some (h, o) → outcome P (Calls x f) g k ≡ Some (h, f o, [])
  calls x f g h k o i j l =
      ap (λ (a : Bool). if a then (if P.fits x k then fired f (P.fires x g k) else None) else None) i
      ∙ ap (λ (b : Bool). if b then fired f (P.fires x g k) else None) j
      ∙ ap (fired f) l

  -- ---- threads behind a step

  pub other_there : (c : Config G T) (t u : ℕ) (z : Outcome G T) (q : T) → u ≢ t → slice_get c.threads u ≡ Some q → slice_get (config_with c t z).threads u ≡ Some q
  other_there c t u z q n e = get_front (slice_set c.threads t z.1) z.2 u q (get_other c.threads t u z.1 n ∙ e)

  pub same_there : (c : Config G T) (t : ℕ) (z : Outcome G T) (r : T) → slice_get c.threads t ≡ Some r → slice_get (config_with c t z).threads t ≡ Some z.1
  same_there c t z r e = get_front (slice_set c.threads t z.1) z.2 t z.1 (get_same c.threads t z.1 r e)

  -- where none was spawned, another thread was there before
  pub other_was : (c : Config G T) (t u : ℕ) (z : Outcome G T) → u ≢ t → z.2 ≡ [] → slice_get (config_with c t z).threads u ≡ slice_get c.threads u
  other_was c t u z n e =
      ap (λ (ns : List T). slice_get (slice_set c.threads t z.1 ++ ns) u) e
      ∙ ap (λ (ts : List T). slice_get ts u) (append-nil (slice_set c.threads t z.1))
      ∙ get_other c.threads t u z.1 n

  pub none_spawned : (D : Doing T X O) (g : G) (k : K) (z : Outcome G T) → ((s n : T) → D ≡ Spawns s n → ⊥) → outcome P D g k ≡ Some z → z.2 ≡ []
  none_spawned Fails g k z n e = absurd (none-some z e)
  none_spawned Waits g k z n e = absurd (none-some z e)
  none_spawned (Goes s) g k z n e = ap (λ (w : Outcome G T). w.2) (sym (same_Some (g, s, []) z e))
  none_spawned (Spawns s r) g k z n e = absurd (n s r refl)
  none_spawned (Calls x f) g k z n e = ap (λ (w : Outcome G T). w.2) (sym (called x f g k z e).5)

  -- ---- two outcomes, the other way round

  abbrev Swapped : Doing T X O → Doing T X O → G → K → K → Outcome G T → Outcome G T → Type 0
  Swapped D E g k j z y =
      ((i : G) × (outcome P E g j ≡ Some (i, y.1, y.2)) × (outcome P D i k ≡ Some (y.0, z.1, z.2)) × (z.2 ++ y.2 ≡ y.2 ++ z.2))
      ⊎ ((doing_fails P E g ≡ true) ⊎ ((i : G) × (outcome P E g j ≡ Some (i, y.1, y.2)) × (doing_fails P D i ≡ true)))

  quiet_first : (D E : Doing T X O) (g : G) (k j : K) (r : T) (ns : List T) (y : Outcome G T) → ((i : G) → outcome P D i k ≡ Some (i, r, ns)) → outcome P E g j ≡ Some y → ns ++ y.2 ≡ y.2 ++ ns → Swapped D E g k j (g, r, ns) y
  quiet_first D E g k j r ns y q e s = inl (y.0, e, q y.0, s)

  quiet_second : (D E : Doing T X O) (g : G) (k j : K) (r : T) (ns : List T) (z : Outcome G T) → ((i : G) → outcome P E i j ≡ Some (i, r, ns)) → outcome P D g k ≡ Some z → z.2 ++ ns ≡ ns ++ z.2 → Swapped D E g k j z (z.0, r, ns)
  quiet_second D E g k j r ns z q e s = inl (g, q g, e, s)

  both_call : (x y : X) (f e : O → T) (g : G) (k j : K) (z w : Outcome G T) → Swaps P g x k y j → Called x f g k z → Called y e z.0 j w → Swapped (Calls x f) (Calls y e) g k j z w
  both_call x y f e g k j z w s a b = go (P.gate y g) refl
    where
      store_is : a.2 ≡ z.0
      store_is = ap (λ (v : Outcome G T). v.0) a.5

      gate_then : P.gate y a.2 ≡ true
      gate_then = ap (P.gate y) store_is ∙ b.0

      fires_then : P.fires y a.2 j ≡ Some (b.2, b.3)
      fires_then = ap (λ (h : G). P.fires y h j) store_is ∙ b.4

      w_is : (b.2, e b.3, []) ≡ w
      w_is = b.5

      ends_so : (i : G) → P.gate y g ≡ true → P.fires y g j ≡ Some (i, b.3) → P.fires x i k ≡ Some (b.2, a.3) → (c : Bool) → P.gate x i ≡ c → Swapped (Calls x f) (Calls y e) g k j (a.2, f a.3, []) (b.2, e b.3, [])
      ends_so i h p q true u = inl (i, calls y e g i j b.3 h b.1 p, calls x f i b.2 k a.3 u a.1 q, refl)
      ends_so i h p q false u = inr (inr (i, calls y e g i j b.3 h b.1 p, ap not u))

      go : (c : Bool) → P.gate y g ≡ c → Swapped (Calls x f) (Calls y e) g k j z w
      go false h = inr (inl (ap not h))
      go true h =
          let p = s a.2 b.2 a.3 b.3 a.0 h a.1 b.1 a.4 gate_then fires_then in
          subst (λ v. Swapped (Calls x f) (Calls y e) g k j z v) w_is
          (subst (λ v. Swapped (Calls x f) (Calls y e) g k j v (b.2, e b.3, [])) a.5 (ends_so p.0 h p.1 p.2 (P.gate x p.0) refl))

  -- one of two steps spawns no thread
  abbrev pub OneSpawns : Doing T X O → Doing T X O → Type 0
  OneSpawns D E = ((s n : T) → D ≡ Spawns s n → ⊥) ⊎ ((s n : T) → E ≡ Spawns s n → ⊥)

  -- two calls may change places
  abbrev pub CallsSwap : Doing T X O → Doing T X O → G → K → K → Type 0
  CallsSwap D E g k j = (x y : X) (f e : O → T) → D ≡ Calls x f → E ≡ Calls y e → Swaps P g x k y j

  call_then : (x : X) (f : O → T) (E : Doing T X O) (g : G) (k j : K) (z y : Outcome G T) → CallsSwap (Calls x f) E g k j → outcome P (Calls x f) g k ≡ Some z → outcome P E z.0 j ≡ Some y → Swapped (Calls x f) E g k j z y
  call_then x f Fails g k j z y s a b = absurd (none-some y b)
  call_then x f Waits g k j z y s a b = absurd (none-some y b)
  call_then x f (Goes r) g k j z y s a b =
      subst (Swapped (Calls x f) (Goes r) g k j z) (same_Some (z.0, r, []) y b)
      (quiet_second (Calls x f) (Goes r) g k j r [] z (λ i. refl) a (append-nil z.2))
  call_then x f (Spawns r n) g k j z y s a b =
      subst (Swapped (Calls x f) (Spawns r n) g k j z) (same_Some (z.0, r, n ∷ []) y b)
      (quiet_second (Calls x f) (Spawns r n) g k j r (n ∷ []) z (λ i. refl) a
      (subst (λ (v : List T). v ++ (n ∷ []) ≡ (n ∷ []) ++ v) (ap (λ (w : Outcome G T). w.2) (called x f g k z a).5) refl))
  call_then x f (Calls w e) g k j z y s a b = both_call x w f e g k j z y (s x w f e refl refl) (called x f g k z a) (called w e z.0 j y b)

  swapped : (D E : Doing T X O) (g : G) (k j : K) (z y : Outcome G T) → CallsSwap D E g k j → OneSpawns D E → outcome P D g k ≡ Some z → outcome P E z.0 j ≡ Some y → Swapped D E g k j z y
  swapped Fails E g k j z y s n a b = absurd (none-some z a)
  swapped Waits E g k j z y s n a b = absurd (none-some z a)
  swapped (Goes r) E g k j z y s n a b =
      let q = same_Some (g, r, []) z a in
      subst (λ v. Swapped (Goes r) E g k j v y) q
      (quiet_first (Goes r) E g k j r [] y (λ i. refl) (subst (λ (v : Outcome G T). outcome P E v.0 j ≡ Some y) (sym q) b) (sym (append-nil y.2)))
  swapped (Spawns r m) E g k j z y s (inl n) a b = absurd (n r m refl)
  swapped (Spawns r m) E g k j z y s (inr n) a b =
      let q = same_Some (g, r, m ∷ []) z a in
      subst (λ v. Swapped (Spawns r m) E g k j v y) q
      (quiet_first (Spawns r m) E g k j r (m ∷ []) y (λ i. refl) (subst (λ (v : Outcome G T). outcome P E v.0 j ≡ Some y) (sym q) b)
      (subst (λ (v : List T). (m ∷ []) ++ v ≡ v ++ (m ∷ [])) (sym (none_spawned E z.0 j y n b)) refl))
  swapped (Calls x f) E g k j z y s n a b = call_then x f E g k j z y s a b

  -- ---- two steps, the other way round

  abbrev S : Stepping (Config G T) (Move K)
  S = stepping_of P

  pub exchanged : (c d e : Config G T) (m n : Move K) (r q : T) → m.thread ≢ n.thread → slice_get c.threads m.thread ≡ Some r → slice_get c.threads n.thread ≡ Some q
      → CallsSwap (P.doing r) (P.doing q) c.store m.chosen n.chosen → OneSpawns (P.doing r) (P.doing q)
      → step_of P c m ≡ Some d → step_of P d n ≡ Some e → Exchanged S c m n e
  exchanged c d e m n r q w there also s one a b = go (made c d m a) (made d e n b)
    where
      t : ℕ
      t = m.thread

      u : ℕ
      u = n.thread

      turn : u ≢ t
      turn v = w (sym v)

      fails_at : (x : Config G T) (v : ℕ) (p : T) → slice_get x.threads v ≡ Some p → doing_fails P (P.doing p) x.store ≡ true → Failing S x
      fails_at x v p h i = (v, subst (λ (o : Option T). fails_in P x.store o ≡ true) (sym h) i)

      by_swap : (z y : Outcome G T) → config_with c t z ≡ d → config_with d u y ≡ e → Swapped (P.doing r) (P.doing q) c.store m.chosen n.chosen z y → Exchanged S c m n e
      by_swap z y i j (inl x) =
          let before : Config G T = config_with c u (x.0, y.1, y.2) in
          let first : step_of P c n ≡ Some before = makes c n q (x.0, y.1, y.2) also x.1 in
          let second : step_of P before m ≡ Some (config_with before t (y.0, z.1, z.2)) = makes before m r (y.0, z.1, z.2) (other_there c u t (x.0, y.1, y.2) r w there) x.2 in
          let threads = sets_swap c.threads t u z.1 y.1 z.2 y.2 w (slice_get_within c.threads t r there) (slice_get_within c.threads u q also) x.3 in
          let ends : config_with before t (y.0, z.1, z.2) ≡ e = ap (λ (ts : List T). record { store = y.0; threads = ts }) threads ∙ (ap (λ (v : Config G T). config_with v u y) i ∙ j) in
          inl (before, first, second ∙ ap Some ends)
      by_swap z y i j (inr (inl x)) = inr (inl (fails_at c u q also x))
      by_swap z y i j (inr (inr x)) =
          let before : Config G T = config_with c u (x.0, y.1, y.2) in
          inr (inr (before, makes c n q (x.0, y.1, y.2) also x.1, fails_at before t r (other_there c u t (x.0, y.1, y.2) r w there) x.2))

      go : Made c m d → Made d n e → Exchanged S c m n e
      go x y =
          let r_is : x.0 ≡ r = same_Some x.0 r (sym x.2 ∙ there) in
          let q_there : slice_get d.threads u ≡ Some q = subst (λ (v : Config G T). slice_get v.threads u ≡ Some q) x.4 (other_there c t u x.1 q turn also) in
          let q_is : y.0 ≡ q = same_Some y.0 q (sym y.2 ∙ q_there) in
          let first : outcome P (P.doing r) c.store m.chosen ≡ Some x.1 = subst (λ (v : T). outcome P (P.doing v) c.store m.chosen ≡ Some x.1) r_is x.3 in
          let store_is : d.store ≡ x.1.0 = sym (ap (λ (v : Config G T). v.store) x.4) in
          let second : outcome P (P.doing q) x.1.0 n.chosen ≡ Some y.1 = subst (λ (v : G). outcome P (P.doing q) v n.chosen ≡ Some y.1) store_is (subst (λ (v : T). outcome P (P.doing v) d.store n.chosen ≡ Some y.1) q_is y.3) in
          by_swap x.1 y.1 x.4 y.4 (swapped (P.doing r) (P.doing q) c.store m.chosen n.chosen x.1 y.1 s one first second)
