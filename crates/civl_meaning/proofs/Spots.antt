-- What stands at a place stands at its own number too, and what comes next is a place of the body or its exit.
use Rattle.std.proofs.Common.{◌≡◌, ℕ, ◌+◌, ◌<◌, ◌≤◌, Bool, true, false, List, [], ◌∷◌, map, refl, sym, ap, ◌∙◌, subst, Option, None, Some, ◌⊎◌, inl, inr, arith, map-id}
use Rattle.std.specs.Prelude.{nat_lt, nat_eq, if◌then◌else◌}
use Rattle.std.proofs.lemmas.Bool.{lt-ltb, le-ltb}
use Rattle.civl_tree.specs.declared.stmt.Stmt.{Stmt, roll-Stmt, out-roll-Stmt, map-Stmt}
use Rattle.civl_tree.specs.declared.stmt.Stmt.TheOpen.{Stmt-F, If, While, YieldLoop, RankLoop}
use Rattle.civl_tree.specs.declared.stmt.Stmt.TheFolds.{ind-Stmt}
use Rattle.civl_meaning.specs.Places.{Spot, is_skipped, skip_layer, start_of, first_in, spot_among, spot_at, inside_of, loop_spot}
use Rattle.civl_tree.specs.Numbering.{size_step, size_of, sizes_of}
use Rattle.civl_tree.proofs.Sizes.{size_is, size_is_some}
use Rattle.civl_tree.proofs.Numbers.{sizes_more}
use Rattle.civl_meaning.proofs.Placing.{inside_is, inside_layer}
use Rattle.civl_meaning.proofs.Finding.{among_is, among_here, among_inside}

-- ---- among statements

-- a statement among these, which is found again at its own number
record Here (ss : List Stmt) (at next : ℕ) (after r : Option Spot) : Type 0 where
  spot : Spot
  is : r ≡ Some spot
  low : at ≤ spot.number
  high : spot.number + size_of spot.stmt ≤ at + sizes_of ss
  again : spot_among ss at next after spot.number ≡ Some spot
  behind : (m : ℕ) → at + sizes_of ss ≤ m → next ≤ m → spot.next ≤ m

abbrev Own : List Stmt → ℕ → ℕ → Option Spot → Option Spot → Type 0
Own ss at next after r = (r ≡ after) ⊎ Here ss at next after r

pub start_below : (ss : List Stmt) (b next m : ℕ) → b ≤ m → next ≤ m → start_of ss b next ≤ m
start_below [] b next m h n = n
start_below (s ∷ ss) b next m h n = h

pub among_past : (s : Stmt) (ss : List Stmt) (at next : ℕ) (after : Option Spot) (w : ℕ) → at + size_of s ≤ w → spot_among (s ∷ ss) at next after w ≡ spot_among ss (at + size_of s) next after w
among_past s ss at next after w h = among_is s ss at next after w ∙ rw (le-ltb w (at + size_of s) h) refl

lift_here : (s : Stmt) (ss : List Stmt) (at next : ℕ) (after r : Option Spot) → Here ss (at + size_of s) next after r → Here (s ∷ ss) at next after r
lift_here s ss at next after r h =
    let more = sizes_more s ss in
    let l = h.low in
    let u = h.high in
    record {
      spot = h.spot;
      is = h.is;
      low = omega arith;
      high = omega arith;
      again = among_past s ss at next after h.spot.number l ∙ h.again;
      behind = λ m a n. h.behind m (omega arith) n;
    }

lift : (s : Stmt) (ss : List Stmt) (at next : ℕ) (after r : Option Spot) → Own ss (at + size_of s) next after r → Own (s ∷ ss) at next after r
lift s ss at next after r o = elim o [ inl e ↦ inl e | inr h ↦ inr (lift_here s ss at next after r h) ]

-- the statement itself, where it is one of a plain program
self : (s : Stmt) (ss : List Stmt) (at next : ℕ) (after : Option Spot) → is_skipped s ≡ false → Here (s ∷ ss) at next after (Some (record { number = at; stmt = s; next = start_of ss (at + size_of s) next }))
self s ss at next after e =
    let more = sizes_more s ss in
    let some = size_is_some s in
    record {
      spot = record { number = at; stmt = s; next = start_of ss (at + size_of s) next };
      is = refl;
      low = omega arith;
      high = omega arith;
      again = among_here s ss at next after at (omega arith) refl ∙ rw e refl;
      behind = λ m a n. start_below ss (at + size_of s) next m (omega arith) n;
    }

first_own : (ss : List Stmt) (at next : ℕ) (after : Option Spot) → Own ss at next after (first_in ss at next after)
first_own [] at next after = inl refl
first_own (s ∷ ss) at next after = by_kind (is_skipped s) refl (first_own ss (at + size_of s) next after)
  where
    by_kind : (b : Bool) → is_skipped s ≡ b → Own ss (at + size_of s) next after (first_in ss (at + size_of s) next after) →
        Own (s ∷ ss) at next after (if b then first_in ss (at + size_of s) next after else Some (record { number = at; stmt = s; next = start_of ss (at + size_of s) next }))
    by_kind true e later = lift s ss at next after _ later
    by_kind false e later = inr (self s ss at next after e)

-- ---- inside a statement

record Within (s : Stmt) (at next : ℕ) (after r : Option Spot) : Type 0 where
  spot : Spot
  is : r ≡ Some spot
  low : at < spot.number
  high : spot.number + size_of spot.stmt ≤ at + size_of s
  again : inside_of s s at next after spot.number ≡ Some spot
  behind : (m : ℕ) → at + size_of s ≤ m → next ≤ m → spot.next ≤ m

-- what comes after it, or itself, which is a loop, or a statement inside it
abbrev Inner : Stmt → ℕ → ℕ → Option Spot → Option Spot → Type 0
Inner s at next after r = (r ≡ after) ⊎ (((r ≡ loop_spot s at next) × (is_skipped s ≡ false)) ⊎ Within s at next after r)

abbrev Finds : Stmt → Type 0
Finds s = (at next : ℕ) (after : Option Spot) (wanted : ℕ) → Inner s at next after (inside_of s s at next after wanted)

-- a statement with others behind it
within_others : (s : Stmt) (ss : List Stmt) (at next : ℕ) (after r : Option Spot) → Within s at (start_of ss (at + size_of s) next) (first_in ss (at + size_of s) next after) r → Here (s ∷ ss) at next after r
within_others s ss at next after r w =
    let more = sizes_more s ss in
    let some = size_is_some w.spot.stmt in
    let l = w.low in
    let u = w.high in
    let ne : w.spot.number ≡ at → ⊥ = λ e. absurd (omega arith) in
    record {
      spot = w.spot;
      is = w.is;
      low = omega arith;
      high = omega arith;
      again = among_inside s ss at next after w.spot.number (omega arith) ne ∙ w.again;
      behind = λ m a n. w.behind m (omega arith) (start_below ss (at + size_of s) next m (omega arith) n);
    }

with_others : (s : Stmt) (ss : List Stmt) → Finds s → (at next : ℕ) (after : Option Spot) (wanted : ℕ) → Own (s ∷ ss) at next after (inside_of s s at (start_of ss (at + size_of s) next) (first_in ss (at + size_of s) next after) wanted)
with_others s ss h at next after wanted =
    let r = inside_of s s at (start_of ss (at + size_of s) next) (first_in ss (at + size_of s) next after) wanted in
    elim (h at (start_of ss (at + size_of s) next) (first_in ss (at + size_of s) next after) wanted) [
      | inl e ↦ subst (λ (o : Option Spot). Own (s ∷ ss) at next after o) (sym e) (lift s ss at next after (first_in ss (at + size_of s) next after) (first_own ss (at + size_of s) next after))
      | inr k ↦ elim k [
        | inl l ↦ subst (λ (o : Option Spot). Own (s ∷ ss) at next after o) (sym l.0) (inr (self s ss at next after l.1))
        | inr w ↦ inr (within_others s ss at next after r w)
      ]
    ]

pub chosen : (P : Option Spot → Type 0) (b c : Bool) (x y z : Option Spot) → P x → P y → P z → P (if b then (if c then x else y) else z)
chosen P true true x y z p q r = p
chosen P true false x y z p q r = q
chosen P false c x y z p q r = r

all_find : {S : Type 0} (ys : List S) (v : S → Stmt) (h : (x : S) → Finds (v x)) (at next : ℕ) (after : Option Spot) (wanted : ℕ) → Own (map v ys) at next after (spot_among (map v ys) at next after wanted)
all_find [] v h at next after wanted = inl refl
all_find (y ∷ ys) v h at next after wanted =
    subst (Own (v y ∷ map v ys) at next after) (sym (among_is (v y) (map v ys) at next after wanted))
    (chosen (Own (v y ∷ map v ys) at next after) (nat_lt wanted (at + size_of (v y))) (nat_eq wanted at) _ _ _ (first_own (v y ∷ map v ys) at next after) (with_others (v y) (map v ys) (h y) at next after wanted)
    (lift (v y) (map v ys) at next after _ (all_find ys v h (at + size_of (v y)) next after wanted)))

-- a loop
loop_finds : (a : List Stmt) (t : Stmt) (at next : ℕ) (after : Option Spot) (wanted : ℕ) → is_skipped t ≡ false → size_of t ≡ 1 + sizes_of a → ((w : ℕ) → inside_of t t at next after w ≡ spot_among a (at + 1) at (loop_spot t at next) w) →
    Own a (at + 1) at (loop_spot t at next) (spot_among a (at + 1) at (loop_spot t at next) wanted) → Inner t at next after (spot_among a (at + 1) at (loop_spot t at next) wanted)
loop_finds a t at next after wanted sk size inside o = elim o [
  | inl e ↦ inr (inl (e, sk))
  | inr k ↦
      let l = k.low in
      let u = k.high in
      inr (inr (record {
        spot = k.spot;
        is = k.is;
        low = omega arith;
        high = omega arith;
        again = inside k.spot.number ∙ k.again;
        behind = λ m x n. k.behind m (omega arith) (omega arith);
      }))
]

-- the branches of an `if`
first_branch : (a b : List Stmt) (t : Stmt) (at next : ℕ) (after r : Option Spot) → size_of t ≡ 1 + sizes_of a + sizes_of b → ((w : ℕ) → inside_of t t at next after w ≡ (if nat_lt w (at + 1 + sizes_of a) then spot_among a (at + 1) next after w else spot_among b (at + 1 + sizes_of a) next after w)) →
    Own a (at + 1) next after r → Inner t at next after r
first_branch a b t at next after r size inside o = elim o [
  | inl e ↦ inl e
  | inr k ↦
      let l = k.low in
      let u = k.high in
      let some = size_is_some k.spot.stmt in
      let lt : k.spot.number < at + 1 + sizes_of a = omega arith in
      let q : inside_of t t at next after k.spot.number ≡ spot_among a (at + 1) next after k.spot.number = inside k.spot.number ∙ rw (lt-ltb k.spot.number (at + 1 + sizes_of a) lt) refl in
      inr (inr (record {
        spot = k.spot;
        is = k.is;
        low = omega arith;
        high = omega arith;
        again = q ∙ k.again;
        behind = λ m x n. k.behind m (omega arith) n;
      }))
]

second_branch : (a b : List Stmt) (t : Stmt) (at next : ℕ) (after r : Option Spot) → size_of t ≡ 1 + sizes_of a + sizes_of b → ((w : ℕ) → inside_of t t at next after w ≡ (if nat_lt w (at + 1 + sizes_of a) then spot_among a (at + 1) next after w else spot_among b (at + 1 + sizes_of a) next after w)) →
    Own b (at + 1 + sizes_of a) next after r → Inner t at next after r
second_branch a b t at next after r size inside o = elim o [
  | inl e ↦ inl e
  | inr k ↦
      let l = k.low in
      let u = k.high in
      let q : inside_of t t at next after k.spot.number ≡ spot_among b (at + 1 + sizes_of a) next after k.spot.number = inside k.spot.number ∙ rw (le-ltb k.spot.number (at + 1 + sizes_of a) l) refl in
      inr (inr (record {
        spot = k.spot;
        is = k.is;
        low = omega arith;
        high = omega arith;
        again = q ∙ k.again;
        behind = λ m x n. k.behind m (omega arith) n;
      }))
]

if_finds : (c : Bool) (P : Option Spot → Type 0) (x y : Option Spot) → P x → P y → P (if c then x else y)
if_finds true P x y p q = p
if_finds false P x y p q = q

layer_finds : {S : Type 0} (y : Stmt-F S) (v : S → Stmt) (h : (x : S) → Finds (v x)) (t : Stmt) → is_skipped t ≡ skip_layer (map-Stmt S Stmt v y) → size_of t ≡ size_step (map-Stmt Stmt ℕ size_of (map-Stmt S Stmt v y)) →
    (at next : ℕ) (after : Option Spot) (wanted : ℕ) → ((w : ℕ) → inside_of t t at next after w ≡ inside_layer (map-Stmt S Stmt v y) t at next after w) → Inner t at next after (inside_layer (map-Stmt S Stmt v y) t at next after wanted)
layer_finds (If e a b) v h t sk size at next after wanted inside =
    if_finds (nat_lt wanted (at + 1 + sizes_of (map v a))) (Inner t at next after) _ _
    (first_branch (map v a) (map v b) t at next after _ size inside (all_find a v h (at + 1) next after wanted))
    (second_branch (map v a) (map v b) t at next after _ size inside (all_find b v h (at + 1 + sizes_of (map v a)) next after wanted))
layer_finds (While e a) v h t sk size at next after wanted inside = loop_finds (map v a) t at next after wanted sk size inside (all_find a v h (at + 1) at (loop_spot t at next) wanted)
layer_finds (YieldLoop e i a) v h t sk size at next after wanted inside = loop_finds (map v a) t at next after wanted sk size inside (all_find a v h (at + 1) at (loop_spot t at next) wanted)
layer_finds (RankLoop e r i a) v h t sk size at next after wanted inside = loop_finds (map v a) t at next after wanted sk size inside (all_find a v h (at + 1) at (loop_spot t at next) wanted)
layer_finds _ v h t sk size at next after wanted inside = inl refl

finds : (s : Stmt) → Finds s
finds s =
    ind-Stmt Finds (λ x y e at next after wanted.
    let t = roll-Stmt x in
    let q = out-roll-Stmt x ∙ sym e in
    let inside = λ (w : ℕ). inside_is t t at next after w ∙ ap (λ (d : Stmt-F Stmt). inside_layer d t at next after w) q in
    let size = size_is t ∙ ap (λ (d : Stmt-F Stmt). size_step (map-Stmt Stmt ℕ size_of d)) q in
    subst (Inner t at next after) (sym (inside wanted)) (layer_finds y (λ z. z.0) (λ z. z.1) t (ap skip_layer q) size at next after wanted inside)) s

own : (ss : List Stmt) (at next : ℕ) (after : Option Spot) (wanted : ℕ) → Own ss at next after (spot_among ss at next after wanted)
own ss at next after wanted =
    subst (λ (r : List Stmt). Own r at next after (spot_among r at next after wanted)) (map-id ss) (all_find ss (λ (s : Stmt). s) finds at next after wanted)

-- ---- in a body

pub record Stands (body : List Stmt) (s : Spot) : Type 0 where
  pub again : spot_at body s.number ≡ Some s
  pub inside : s.number + size_of s.stmt ≤ sizes_of body
  pub next : s.next ≤ sizes_of body

pub spot_stands : (body : List Stmt) (wanted : ℕ) (s : Spot) → spot_at body wanted ≡ Some s → Stands body s
spot_stands body wanted s e = elim (own body 0 (sizes_of body) None wanted) [
  | inl n ↦ absurd (cc)
  | inr h ↦
      let q : h.spot ≡ s = let k = sym h.is ∙ e in cc in
      let u = h.high in
      subst (Stands body) q (record { again = h.again; inside = omega arith; next = h.behind (sizes_of body) (omega arith) (omega arith) })
]
