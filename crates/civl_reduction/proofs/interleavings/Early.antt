-- A run that ends failing, looked at from a configuration in which no block is open.
use Rattle.std.proofs.Common.{ℕ, zero, suc, ◌+◌, ◌<◌, ◌≤◌, ◌≡◌, ◌≢◌, true, List, [], ◌∷◌, length, Some, refl, sym, subst, ◌∙◌, arith, inl, inr, ◌⊎◌}
use Rattle.std.proofs.lemmas.Bool.{cases_eq}
use Rattle.civl_reduction.specs.interleavings.Systems.{System}
use Rattle.civl_reduction.specs.interleavings.Reduction.{Exchanged, Place, Between, Early, Late, IsReducible}
use Rattle.civl_reduction.proofs.interleavings.Doomed.{Doomed}

-- these are moves of thread t, and each leaves it early in its block
abbrev pub Begins : {C M : Type 0} → System C M → (C → ℕ → Place) → ℕ → List M → C → C → Type 0
Begins S place t [] c x = c ≡ x
Begins {C} S place t (m ∷ ms) c x = (d : C) × (S.mover m ≡ t) × (S.step c m ≡ Some d) × (place d t ≡ Early) × Begins S place t ms d x

-- a run that ends failing, and is shorter than n
abbrev pub Shorter : {C M : Type 0} → System C M → ℕ → C → Type 0
Shorter S n c = (k : ℕ) × (k < n) × Doomed S k c

-- early steps of one thread, then a step of it that doesn't leave it early, then a run that ends failing
pub record Turns (C M : Type 0) (S : System C M) (place : C → ℕ → Place) (n : ℕ) (c : C) : Type 0 where
  pub thread : ℕ
  pub moves : List M
  pub middle : C
  pub begins : Begins S place thread moves c middle
  pub turn : M
  pub after : C
  pub turns : S.mover turn ≡ thread
  pub stepped : S.step middle turn ≡ Some after
  pub turned : place after thread ≢ Early
  pub rest : ℕ
  pub fewer : length moves + rest < n
  pub doomed : Doomed S rest after

-- early steps of a thread, behind which it fails
pub record Stops (C M : Type 0) (S : System C M) (place : C → ℕ → Place) (n : ℕ) (c : C) : Type 0 where
  pub thread : ℕ
  pub moves : List M
  pub end : C
  pub begins : Begins S place thread moves c end
  pub few : length moves ≤ n
  pub fails : S.fails end thread ≡ true

-- an early step behind such steps of another thread
abbrev pub Pushed : {C M : Type 0} → System C M → (C → ℕ → Place) → ℕ → List M → M → C → C → Type 0
Pushed {C} S place t ms m c x =
    ((y : C) × Begins S place t ms c y × (S.step y m ≡ Some x) × (place x (S.mover m) ≡ Early))
    ⊎ ((k : ℕ) × (k ≤ length ms) × Doomed S k c)

pub between_early : Between ≡ Early → ⊥
between_early e = cc

pub late_early : Late ≡ Early → ⊥
late_early e = cc

pub between_late : Between ≡ Late → ⊥
between_late e = cc

module _ {C M : Type 0} (S : System C M) (place : C → ℕ → Place) (Holds : C → Type 0) (l : IsReducible C M S place Holds) where
  pub holds_begun : (t : ℕ) (ms : List M) (c x : C) → Holds c → Begins S place t ms c x → Holds x
  holds_begun t [] c x h b = subst Holds b h
  holds_begun t (m ∷ ms) c x h b = holds_begun t ms b.0 x (l.holds_on c b.0 m h b.2) b.4

  -- such a run, and then one that ends failing
  pub doomed_behind : (t k : ℕ) (ms : List M) (c x : C) → Begins S place t ms c x → Doomed S k x → (j : ℕ) × (j ≤ length ms + k) × Doomed S j c
  doomed_behind t k [] c x b f = (k, omega arith, subst (Doomed S k) (sym b) f)
  doomed_behind t k (m ∷ ms) c x b f =
      let r = doomed_behind t k ms b.0 x b.4 f in (suc r.0, omega (arith, r.1), (m, b.0, b.2, r.2))

  -- one step of the other thread in front of what was reached without it
  pushed_more : (t : ℕ) (ms : List M) (m n : M) (c y x : C) → S.mover n ≡ t → S.step c n ≡ Some y → place y t ≡ Early → Pushed S place t ms m y x → Pushed S place t (n ∷ ms) m c x
  pushed_more t ms m n c y x w s p (inl r) = inl (r.0, (y, w, s, p, r.1), r.2, r.3)
  pushed_more t ms m n c y x w s p (inr r) = inr (suc r.0, omega (arith, r.1), (n, y, s, r.2))

  -- the first step goes behind those of the other thread, one at a time
  pub pushed : (t : ℕ) (ms : List M) (m : M) (c d x : C) → Holds c → S.step c m ≡ Some d → place d (S.mover m) ≡ Early → S.mover m ≢ t → Begins S place t ms d x → Pushed S place t ms m c x
  pushed t [] m c d x h e p q b = inl (c, refl, subst (λ z. S.step c m ≡ Some z) b e, subst (λ z. place z (S.mover m) ≡ Early) b p)
  pushed t (n ∷ ms) m c d x h e p q b = go (l.goes_behind c d b.0 m n h e b.2 differ p) (λ y k s. pushed t ms m y b.0 x k s early_after q b.4)
    where
      differ : S.mover m ≢ S.mover n
      differ w = q (w ∙ b.1)

      early_after : place b.0 (S.mover m) ≡ Early
      early_after = l.others_stay d b.0 n (S.mover m) (l.holds_on c d m h e) b.2 (λ w. differ (sym w)) ∙ p

      go : Exchanged S.steps c m n b.0 → ((y : C) → Holds y → S.step y m ≡ Some b.0 → Pushed S place t ms m y x) → Pushed S place t (n ∷ ms) m c x
      go (inl k) ih =
          let held = l.holds_on c k.0 n h k.1 in
          let stays = sym (l.others_stay k.0 b.0 m t held k.2 q) ∙ b.3 in
          pushed_more t ms m n c k.0 x b.1 k.1 stays (ih k.0 held k.2)
      go (inr (inl f)) ih = inr (0, omega arith, f)
      go (inr (inr f)) ih = inr (1, omega arith, (n, f.0, f.1, f.2))

  -- a step in front of a run that turns
  turns_after : (n : ℕ) (m : M) (c d : C) → Holds c → S.step c m ≡ Some d → place d (S.mover m) ≡ Early → Turns C M S place n d → Turns C M S place (suc n) c ⊎ Shorter S (suc n) c
  turns_after n m c d h e p r = elim (cases_eq (S.mover m) r.thread) [ inl w ↦ inl (own w) | inr w ↦ behind w (pushed r.thread r.moves m c d r.middle h e p w r.begins) ]
    where
      own : S.mover m ≡ r.thread → Turns C M S place (suc n) c
      own w = record {
        thread = r.thread;
        moves = m ∷ r.moves;
        middle = r.middle;
        begins = (d, w, e, subst (λ t. place d t ≡ Early) w p, r.begins);
        turn = r.turn;
        after = r.after;
        turns = r.turns;
        stepped = r.stepped;
        turned = r.turned;
        rest = r.rest;
        fewer = omega (arith, r.fewer);
        doomed = r.doomed;
      }

      last : S.mover m ≢ r.thread → (y : C) → Begins S place r.thread r.moves c y → S.step y m ≡ Some r.middle → Holds y → Exchanged S.steps y m r.turn r.after → Turns C M S place (suc n) c ⊎ Shorter S (suc n) c
      last w y b s k (inl x) = inl (record {
        thread = r.thread;
        moves = r.moves;
        middle = y;
        begins = b;
        turn = r.turn;
        after = x.0;
        turns = r.turns;
        stepped = x.1;
        turned = λ v. r.turned (l.others_stay x.0 r.after m r.thread (l.holds_on y x.0 r.turn k x.1) x.2 w ∙ v);
        rest = suc r.rest;
        fewer = omega (arith, r.fewer);
        doomed = (m, r.after, x.2, r.doomed);
      })
      last w y b s k (inr (inl f)) = let j = doomed_behind r.thread 0 r.moves c y b f in inr (j.0, omega (arith, j.1, r.fewer), j.2)
      last w y b s k (inr (inr f)) = let j = doomed_behind r.thread 1 r.moves c y b (r.turn, f.0, f.1, f.2) in inr (j.0, omega (arith, j.1, r.fewer), j.2)

      behind : S.mover m ≢ r.thread → Pushed S place r.thread r.moves m c r.middle → Turns C M S place (suc n) c ⊎ Shorter S (suc n) c
      behind w (inl x) =
          let k = holds_begun r.thread r.moves c x.0 h x.1 in
          last w x.0 x.1 x.2 k (l.goes_behind x.0 r.middle r.after m r.turn k x.2 r.stepped (λ v. w (v ∙ r.turns)) x.3)
      behind w (inr x) = inr (x.0, omega (arith, x.1, r.fewer), x.2)

  -- a step in front of a thread's steps, behind which it fails
  stops_after : (n : ℕ) (m : M) (c d : C) → Holds c → S.step c m ≡ Some d → place d (S.mover m) ≡ Early → Stops C M S place n d → Stops C M S place (suc n) c ⊎ Shorter S (suc n) c
  stops_after n m c d h e p r = elim (cases_eq (S.mover m) r.thread) [ inl w ↦ inl (own w) | inr w ↦ behind w (pushed r.thread r.moves m c d r.end h e p w r.begins) ]
    where
      own : S.mover m ≡ r.thread → Stops C M S place (suc n) c
      own w = record {
        thread = r.thread;
        moves = m ∷ r.moves;
        end = r.end;
        begins = (d, w, e, subst (λ t. place d t ≡ Early) w p, r.begins);
        few = omega (arith, r.few);
        fails = r.fails;
      }

      behind : S.mover m ≢ r.thread → Pushed S place r.thread r.moves m c r.end → Stops C M S place (suc n) c ⊎ Shorter S (suc n) c
      behind w (inl x) = inl (record {
        thread = r.thread;
        moves = r.moves;
        end = x.0;
        begins = x.1;
        few = omega (arith, r.few);
        fails = l.failed_before x.0 r.end m r.thread (holds_begun r.thread r.moves c x.0 h x.1) x.2 w x.3 r.fails;
      })
      behind w (inr x) = inr (x.0, omega (arith, x.1, r.few), x.2)

  -- what a run that ends failing can be turned into
  abbrev pub Sorted : ℕ → C → Type 0
  Sorted n c = Turns C M S place n c ⊎ (Stops C M S place n c ⊎ Shorter S n c)

  sorted_after : (n : ℕ) (m : M) (c d : C) → Holds c → S.step c m ≡ Some d → place d (S.mover m) ≡ Early → Sorted n d → Sorted (suc n) c
  sorted_after n m c d h e p (inl r) = elim (turns_after n m c d h e p r) [ inl x ↦ inl x | inr x ↦ inr (inr x) ]
  sorted_after n m c d h e p (inr (inl r)) = elim (stops_after n m c d h e p r) [ inl x ↦ inr (inl x) | inr x ↦ inr (inr x) ]
  sorted_after n m c d h e p (inr (inr r)) = inr (inr (suc r.0, omega (arith, r.1), (m, d, e, r.2)))

  sorted_at_once : (n : ℕ) (m : M) (c d : C) → S.step c m ≡ Some d → place d (S.mover m) ≢ Early → Doomed S n d → Sorted (suc n) c
  sorted_at_once n m c d e p f = inl (record {
    thread = S.mover m;
    moves = [];
    middle = c;
    begins = refl;
    turn = m;
    after = d;
    turns = refl;
    stepped = e;
    turned = p;
    rest = n;
    fewer = omega arith;
    doomed = f;
  })

  pub sorted : (n : ℕ) (c : C) → Holds c → Doomed S n c → Sorted n c
  sorted zero c h f = inr (inl (record { thread = f.0; moves = []; end = c; begins = refl; few = omega arith; fails = f.1 }))
  sorted (suc n) c h f = go (place f.1 (S.mover f.0)) refl (sorted n f.1 (l.holds_on c f.1 f.0 h f.2) f.3)
    where
      go : (p : Place) → place f.1 (S.mover f.0) ≡ p → Sorted n f.1 → Sorted (suc n) c
      go Early e r = sorted_after n f.0 c f.1 h f.2 e r
      go Between e r = sorted_at_once n f.0 c f.1 f.2 (λ w. between_early (sym e ∙ w)) f.3
      go Late e r = sorted_at_once n f.0 c f.1 f.2 (λ w. late_early (sym e ∙ w)) f.3
