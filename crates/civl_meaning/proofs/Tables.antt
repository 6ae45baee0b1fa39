-- A table of places, filled part by part.
use Rattle.std.proofs.Common.{◌≡◌, ℕ, zero, suc, ◌+◌, ◌-◌, ◌<◌, ◌≤◌, List, [], ◌∷◌, length, map, take, drop, get_or, refl, sym, ap, ◌∙◌, subst, Option, None, Some, inl, inr, arith}
use Rattle.std.specs.Prelude.{nat_lt, if◌then◌else◌, slice_get, slice_set}
use Rattle.std.proofs.lemmas.Bool.{lt-ltb, le-ltb, cases_lt, cases_eq}
use Rattle.std.proofs.lemmas.List.{length-set}
use Rattle.std.proofs.lemmas.Option.{slice_get_past, slice_get-get_or}
use Rattle.std.proofs.lemmas.Grind.{common_steps}
use Rattle.civl_tree.specs.declared.expr.Expr.{Expr}
use Rattle.civl_tree.specs.declared.stmt.Stmt.{Stmt, out-Stmt}
use Rattle.civl_tree.specs.declared.stmt.Stmt as tree
use Rattle.civl_tree.specs.declared.stmt.Stmt.TheOpen.{Stmt-F, If, While, YieldLoop, RankLoop}
use Rattle.civl_tree.specs.Numbering.{size_of, sizes_of}
use Rattle.civl_tree.specs.declared.program.Proc.{Proc}
use Rattle.civl_tree.proofs.Sizes.{size_is_some, if_out, while_out, yield_loop_out, rank_loop_out, sizes_within, size_if, size_while, size_yield_loop, size_rank_loop}
use Rattle.civl_tree.proofs.Numbers.{sizes_more}
use Rattle.civl_tree.proofs.Lists.{drop_is}
use Rattle.civl_meaning.specs.declared.found.Found.{Found}
use Rattle.civl_meaning.specs.declared.table.BodyPlaces.{BodyPlaces}
use Rattle.civl_meaning.specs.Places.{Spot, start_of, first_in, spot_among, spot_at, inside_of, loop_spot}
use Rattle.civl_meaning.specs.Found.{spot}
use Rattle.civl_meaning.specs.Table.{IsFound, entry, found_in, ArePlacesOf}
use Rattle.civl_meaning.specs.inner.Filled.{Filled, here_spot}
use Rattle.civl_meaning.proofs.Finding.{among_here, among_inside}
use Rattle.civl_meaning.proofs.Placing.{inside_is, inside_layer}
use Rattle.civl_meaning.proofs.Spots.{among_past}

-- what is found at each place, as a spot
abbrev There : Type 0
There = ℕ → Option Spot

as_found : (found : Option Found) (a b : Option Spot) → a ≡ b → IsFound found a → IsFound found b
as_found found a b e h = subst (IsFound found) e h

-- ---- one entry is written

get_other : {A : Type 0} (xs : List A) (i j : ℕ) (a : A) → (j ≡ i → ⊥) → slice_get (slice_set xs i a) j ≡ slice_get xs j
get_other [] i j a n = refl
get_other (x ∷ xs) zero zero a n = absurd (n refl)
get_other (x ∷ xs) zero (suc j) a n = refl
get_other (x ∷ xs) (suc i) zero a n = refl
get_other (x ∷ xs) (suc i) (suc j) a n = get_other xs i j a (λ e. n (ap (λ (k : ℕ). suc k) e))

get_same : {A : Type 0} (xs : List A) (i : ℕ) (a : A) → i < length xs → slice_get (slice_set xs i a) i ≡ Some a
get_same [] i a h = absurd (omega arith)
get_same (x ∷ xs) zero a h = refl
get_same (x ∷ xs) (suc i) a h = get_same xs i a (omega arith)

-- ---- nothing is filled

pub fills_none : (es : List (Option Found)) (low high : ℕ) (there : ℕ → Option Spot) → high ≤ low → Filled es es low high there
fills_none es low high there h = record {
  long = refl;
  inside = λ place l u. absurd (omega arith);
  outside = λ place o. refl;
}

-- ---- two parts, one behind the other

pub fills_both : (old mid new : List (Option Found)) (low second high : ℕ) (f g there : ℕ → Option Spot) → low ≤ second → second ≤ high →
    Filled old mid low second f → Filled mid new second high g → ((w : ℕ) → there w ≡ (if nat_lt w second then f w else g w)) → Filled old new low high there
fills_both old mid new low second high f g there ls sh a b is = record {
  long = b.long ∙ a.long;
  inside = λ place l u. elim (cases_lt place second) [
    | inl h ↦ as_found (entry new place) (f place) (there place) (sym (is place ∙ rw (lt-ltb place second h) refl)) (subst (λ (o : Option Found). IsFound o (f place)) (sym (b.outside place (inl h))) (a.inside place l h))
    | inr h ↦ as_found (entry new place) (g place) (there place) (sym (is place ∙ rw (le-ltb place second h) refl)) (b.inside place h u)
  ];
  outside = λ place o. elim o [
    | inl h ↦ b.outside place (inl (omega arith)) ∙ a.outside place (inl h)
    | inr h ↦ b.outside place (inr h) ∙ a.outside place (inr (omega arith))
  ];
}

-- ---- one statement in front of others

first_is : (s : Stmt) (ss : List Stmt) (here next : ℕ) (after : Option Spot) → first_in (s ∷ ss) here next after ≡ here_spot s here (start_of ss (here + size_of s) next) (first_in ss (here + size_of s) next after)
first_is s ss here next after = refl

pub fills_more : (old es mid : List (Option Found)) (s : Stmt) (ss : List Stmt) (here high next : ℕ) (after : Option Spot) (x : Option Found) →
    here + size_of s ≤ high → 1 ≤ size_of s → here < length es →
    Filled old es (here + size_of s) high (spot_among ss (here + size_of s) next after) →
    Filled es mid (here + 1) (here + size_of s) (inside_of s s here (start_of ss (here + size_of s) next) (first_in ss (here + size_of s) next after)) →
    IsFound x (first_in (s ∷ ss) here next after) →
    Filled old (slice_set mid here x) here high (spot_among (s ∷ ss) here next after)
fills_more old es mid s ss here high next after x hh some room later inner found =
    let behind : ℕ = here + size_of s in
    let within : here < length mid = omega (arith, inner.long) in
    let other : (place : ℕ) → (place ≡ here → ⊥) → entry (slice_set mid here x) place ≡ entry mid place = λ place n. ap (found_in) (get_other mid here place x n) in
    record {
      long = length-set mid here x ∙ inner.long ∙ later.long;
      inside = λ place l u. elim (cases_eq place here) [
        | inl e ↦ as_entry place e (ap found_in (ap (λ (k : ℕ). slice_get (slice_set mid here x) k) e ∙ get_same mid here x within)) (among_here s ss here next after place (omega arith) e)
        | inr n ↦ elim (cases_lt place (here + size_of s)) [
          | inl h ↦
              as_found (entry (slice_set mid here x) place) _ _ (sym (among_inside s ss here next after place h n))
              (subst (λ (o : Option Found). IsFound o (inside_of s s here (start_of ss (here + size_of s) next) (first_in ss (here + size_of s) next after) place)) (sym (other place n)) (inner.inside place (omega arith) h))
          | inr h ↦
              as_found (entry (slice_set mid here x) place) _ _ (sym (among_past s ss here next after place h))
              (subst (λ (o : Option Found). IsFound o (spot_among ss (here + size_of s) next after place)) (sym (other place n ∙ inner.outside place (inr h))) (later.inside place h u))
        ]
      ];
      outside = λ place o. elim o [
        | inl h ↦ other place (λ e. absurd (omega arith)) ∙ inner.outside place (inl (omega arith)) ∙ later.outside place (inl (omega arith))
        | inr h ↦ other place (λ e. absurd (omega arith)) ∙ inner.outside place (inr (omega arith)) ∙ later.outside place (inr h)
      ];
    }
  where
    as_entry : (place : ℕ) → place ≡ here → entry (slice_set mid here x) place ≡ x → spot_among (s ∷ ss) here next after place ≡ first_in (s ∷ ss) here next after → IsFound (entry (slice_set mid here x) place) (spot_among (s ∷ ss) here next after place)
    as_entry place e q k = subst (λ (o : Option Found). IsFound o (spot_among (s ∷ ss) here next after place)) (sym q) (as_found x _ _ (sym k) found)

-- ---- one turn of the loop, which goes over the statements backward

sizes_next : (ss : List Stmt) (i left : ℕ) (s : Stmt) → left ≡ i + 1 → i < length ss → s ≡ get_or ss i s → sizes_of (take left ss) ≡ sizes_of (take i ss) + size_of s
sizes_next ss i left s l h e = grind (arith, common_steps)

-- the statement `s` at the place `left - 1` of a list, which has the number `here`; `behind` is the number behind it
pub record Turn (ss : List Stmt) (at left behind here : ℕ) (s : Stmt) : Type 0 where
  pub sum : here + size_of s ≡ behind
  pub there : here ≡ at + sizes_of (take (left - 1) ss)
  pub high : behind ≤ at + sizes_of ss
  pub some : 1 ≤ size_of s
  pub within : size_of s ≤ sizes_of ss
  pub more : drop (left - 1) ss ≡ s ∷ drop left ss

pub turn : (ss : List Stmt) (at left behind size : ℕ) (s : Stmt) → 0 < left → left ≤ length ss → s ≡ get_or ss (left - 1) s → behind ≡ at + sizes_of (take left ss) → size ≡ size_of s → Turn ss at left behind (behind - size) s
turn ss at left behind size s p l e b z =
    let next = sizes_next ss (left - 1) left s (omega arith) (omega arith) e in
    let within = sizes_within ss left in
    let same : left - 1 + 1 ≡ left = omega arith in
    record {
      sum = omega arith;
      there = omega arith;
      high = omega arith;
      some = size_is_some s;
      within = omega arith;
      more = drop_is ss (left - 1) s (omega arith) e ∙ ap (λ (n : ℕ). s ∷ drop n ss) same;
    }

pub record Turned (rest : List Stmt) (old new : List (Option Found)) (here high next : ℕ) (after : Option Spot) (x : Option Found) : Type 0 where
  pub begins : here ≡ start_of rest here next
  pub first : spot x ≡ first_in rest here next after
  pub filled : Filled old new here high (spot_among rest here next after)

turned_more : (old es mid : List (Option Found)) (s : Stmt) (rest : List Stmt) (here behind high next nx : ℕ) (after now : Option Spot) (x : Option Found) →
    here + size_of s ≡ behind → behind ≤ high → 1 ≤ size_of s → here < length es →
    nx ≡ start_of rest behind next → now ≡ first_in rest behind next after → Filled old es behind high (spot_among rest behind next after) →
    Filled es mid (here + 1) (here + size_of s) (inside_of s s here nx now) → IsFound x (here_spot s here nx now) → Turned (s ∷ rest) old (slice_set mid here x) here high next after x
turned_more old es mid s rest here behind high next nx after now x e hh some room en ea later inner found =
    let b = here + size_of s in
    let en2 : nx ≡ start_of rest (here + size_of s) next = en ∙ ap (λ (n : ℕ). start_of rest n next) (sym e) in
    let ea2 : now ≡ first_in rest (here + size_of s) next after = ea ∙ ap (λ (n : ℕ). first_in rest n next after) (sym e) in
    let later2 : Filled old es (here + size_of s) high (spot_among rest (here + size_of s) next after) = subst (λ (n : ℕ). Filled old es n high (spot_among rest n next after)) (sym e) later in
    let inner2 : Filled es mid (here + 1) (here + size_of s) (inside_of s s here (start_of rest (here + size_of s) next) (first_in rest (here + size_of s) next after)) =
    subst (λ (o : Option Spot). Filled es mid (here + 1) (here + size_of s) (inside_of s s here (start_of rest (here + size_of s) next) o)) ea2 (subst (λ (n : ℕ). Filled es mid (here + 1) (here + size_of s) (inside_of s s here n now)) en2 inner) in
    let found2 : IsFound x (first_in (s ∷ rest) here next after) =
    subst (λ (o : Option Spot). IsFound x (here_spot s here (start_of rest (here + size_of s) next) o)) ea2 (subst (λ (n : ℕ). IsFound x (here_spot s here n now)) en2 found) in
    record {
      begins = refl;
      first = found2.spot;
      filled = fills_more old es mid s rest here high next after x (omega arith) some room later2 inner2 found2;
    }

pub turned : (old es mid : List (Option Found)) (ss : List Stmt) (at left behind here next nx : ℕ) (s : Stmt) (after now : Option Spot) (x : Option Found) → Turn ss at left behind here s → at + sizes_of ss ≤ length es →
    nx ≡ start_of (drop left ss) behind next → now ≡ first_in (drop left ss) behind next after → Filled old es behind (at + sizes_of ss) (spot_among (drop left ss) behind next after) →
    Filled es mid (here + 1) (here + size_of s) (inside_of s s here nx now) → IsFound x (here_spot s here nx now) → Turned (drop (left - 1) ss) old (slice_set mid here x) here (at + sizes_of ss) next after x
turned old es mid ss at left behind here next nx s after now x k room en ea later inner found =
    let sum = k.sum in
    let high = k.high in
    let some = k.some in
    subst (λ (rest : List Stmt). Turned rest old (slice_set mid here x) here (at + sizes_of ss) next after x) (sym k.more)
    (turned_more old es mid s (drop left ss) here behind (at + sizes_of ss) next nx after now x k.sum k.high k.some (omega arith) en ea later inner found)

-- ---- inside a statement

pub inside_by : (s : Stmt) (d : Stmt-F Stmt) (at next : ℕ) (after : Option Spot) (w : ℕ) → out-Stmt s ≡ d → inside_of s s at next after w ≡ inside_layer d s at next after w
inside_by s d at next after w o = inside_is s s at next after w ∙ ap (λ (x : Stmt-F Stmt). inside_layer x s at next after w) o

pub fills_if : (s : Stmt) (e : Expr) (a b : List Stmt) (old mid new : List (Option Found)) (at next second : ℕ) (after : Option Spot) → s ≡ tree.If e a b → second ≡ at + 1 + sizes_of a →
    Filled old mid (at + 1) (at + 1 + sizes_of a) (spot_among a (at + 1) next after) → Filled mid new second (second + sizes_of b) (spot_among b second next after) →
    Filled old new (at + 1) (at + size_of s) (inside_of s s at next after)
fills_if s e a b old mid new at next second after is q f g =
    let size = size_if s e a b is in
    let same : second + sizes_of b ≡ at + size_of s = omega arith in
    let g2 : Filled mid new (at + 1 + sizes_of a) (at + size_of s) (spot_among b (at + 1 + sizes_of a) next after) =
    subst (λ (n : ℕ). Filled mid new n (at + size_of s) (spot_among b n next after)) q (subst (λ (n : ℕ). Filled mid new second n (spot_among b second next after)) same g) in
    fills_both old mid new (at + 1) (at + 1 + sizes_of a) (at + size_of s) (spot_among a (at + 1) next after) (spot_among b (at + 1 + sizes_of a) next after) (inside_of s s at next after) (omega arith) (omega arith) f g2
    (λ w. inside_by s (If e a b) at next after w (ap out-Stmt is ∙ if_out e a b))

fills_loop : (s : Stmt) (a : List Stmt) (old new : List (Option Found)) (at next : ℕ) (after o : Option Spot) → size_of s ≡ 1 + sizes_of a → ((w : ℕ) → inside_of s s at next after w ≡ spot_among a (at + 1) at (loop_spot s at next) w) →
    o ≡ loop_spot s at next → Filled old new (at + 1) (at + 1 + sizes_of a) (spot_among a (at + 1) at o) → Filled old new (at + 1) (at + size_of s) (inside_of s s at next after)
fills_loop s a old new at next after o size is e f = record {
  long = f.long;
  inside = λ place l u. as_found (entry new place) (spot_among a (at + 1) at o place) (inside_of s s at next after place) (sym (is place ∙ ap (λ (x : Option Spot). spot_among a (at + 1) at x place) (sym e))) (f.inside place l (omega arith));
  outside = λ place x. elim x [
    | inl h ↦ f.outside place (inl h)
    | inr h ↦ f.outside place (inr (omega arith))
  ];
}

module _ (s : Stmt) (old new : List (Option Found)) (at next : ℕ) (after o : Option Spot) (said : o ≡ loop_spot s at next) where
  pub fills_while : (e : Expr) (a : List Stmt) → s ≡ tree.While e a → Filled old new (at + 1) (at + 1 + sizes_of a) (spot_among a (at + 1) at o) → Filled old new (at + 1) (at + size_of s) (inside_of s s at next after)
  fills_while e a is f = fills_loop s a old new at next after o (size_while s e a is) (λ w. inside_by s (While e a) at next after w (ap out-Stmt is ∙ while_out e a)) said f

  pub fills_yield_loop : (e i : Expr) (a : List Stmt) → s ≡ tree.YieldLoop e i a → Filled old new (at + 1) (at + 1 + sizes_of a) (spot_among a (at + 1) at o) → Filled old new (at + 1) (at + size_of s) (inside_of s s at next after)
  fills_yield_loop e i a is f = fills_loop s a old new at next after o (size_yield_loop s e i a is) (λ w. inside_by s (YieldLoop e i a) at next after w (ap out-Stmt is ∙ yield_loop_out e i a)) said f

  pub fills_rank_loop : (e r i : Expr) (a : List Stmt) → s ≡ tree.RankLoop e r i a → Filled old new (at + 1) (at + 1 + sizes_of a) (spot_among a (at + 1) at o) → Filled old new (at + 1) (at + size_of s) (inside_of s s at next after)
  fills_rank_loop e r i a is f = fills_loop s a old new at next after o (size_rank_loop s e r i a is) (λ w. inside_by s (RankLoop e r i a) at next after w (ap out-Stmt is ∙ rank_loop_out e r i a)) said f

-- ---- a whole body

among_none : (ss : List Stmt) (at next : ℕ) (after : Option Spot) (w : ℕ) → at + sizes_of ss ≤ w → spot_among ss at next after w ≡ after
among_none [] at next after w h = refl
among_none (s ∷ ss) at next after w h =
    let more = sizes_more s ss in
    among_past s ss at next after w (omega arith) ∙ among_none ss (at + size_of s) next after w (omega arith)

nothing : (o : Option Found) → o ≡ None → IsFound o None
nothing None e = record { spot = refl; fits = tt }
nothing (Some f) e = absurd (cc)

pub body_is_filled : (body : List Stmt) (old new : List (Option Found)) → length old ≡ sizes_of body → Filled old new 0 (0 + sizes_of body) (spot_among body 0 (sizes_of body) None) → (place : ℕ) → IsFound (entry new place) (spot_at body place)
body_is_filled body old new n h place = elim (cases_lt place (sizes_of body)) [
  | inl l ↦ h.inside place (omega arith) (omega arith)
  | inr l ↦
      let past : length new ≤ place = omega (arith, h.long) in
      as_found (entry new place) None (spot_at body place) (sym (among_none body 0 (sizes_of body) None place (omega arith))) (nothing (entry new place) (ap found_in (slice_get_past new place past)))
]

-- ---- a look-up

pub entry_read : (es ys : List (Option Found)) (place : ℕ) (x : Option Found) → ys ≡ es → place < length ys → x ≡ get_or ys place x → entry es place ≡ x
entry_read es ys place x same h e =
    ap (λ (zs : List (Option Found)). entry zs place) (sym same) ∙ ap found_in (slice_get-get_or ys place x h ∙ ap (λ (o : Option Found). Some o) (sym e))

pub entry_past : (es ys : List (Option Found)) (place : ℕ) → ys ≡ es → length ys ≤ place → entry es place ≡ None
entry_past es ys place same h = ap (λ (zs : List (Option Found)). entry zs place) (sym same) ∙ ap found_in (slice_get_past ys place h)

-- the entries for some places, by what stands there
pub entries_are : {X : Type 0} (f : Option Spot → X) (proc : Proc) (body : List Stmt) (places : BodyPlaces) (ps : List ℕ) → proc.body ≡ body → ArePlacesOf proc places →
    map (λ place. f (spot (entry places.found.items place))) ps ≡ map (λ place. f (spot_at body place)) ps
entries_are f proc body places [] e h = refl
entries_are f proc body places (p ∷ ps) e h = rw ((h p).spot ∙ ap (λ (b : List Stmt). spot_at b p) e, entries_are f proc body places ps e h) refl
