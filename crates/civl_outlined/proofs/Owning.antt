-- Statements that are added with what comes after each.
use Rattle.std.proofs.Common.{◌≡◌, ℕ, zero, suc, ◌+◌, ◌<◌, ◌≤◌, false, List, [], ◌∷◌, ◌++◌, length, map, take, drop, get_or, refl, sym, ap, ◌∙◌, append_assoc, append-nil, Option, None, Some, inl, inr, arith}
use Rattle.std.specs.Prelude.{nat_lt, if◌then◌else◌, slice_get}
use Rattle.std.proofs.lemmas.Bool.{lt-ltb, le-ltb, cases_lt, cases_eq}
use Rattle.std.proofs.lemmas.List.{drop_more, drop_all, take_more, map-append}
use Rattle.std.proofs.lemmas.Option.{same_Some, slice_get_within}
use Rattle.std.proofs.lemmas.Grind.{common_steps, flat_map-append}
use Rattle.civl_tree.specs.declared.expr.Expr.{Expr}
use Rattle.civl_tree.specs.declared.stmt.Stmt.{Stmt, out-Stmt}
use Rattle.civl_tree.specs.declared.stmt.Stmt as tree
use Rattle.civl_tree.specs.declared.stmt.Stmt.TheOpen.{If, While, YieldLoop, RankLoop}
use Rattle.civl_tree.specs.Numbering.{size_of, sizes_of, inner_of, statements_of}
use Rattle.civl_tree.proofs.Sizes.{size_is_some, if_out, while_out, yield_loop_out, rank_loop_out, size_if, size_while, size_yield_loop, size_rank_loop}
use Rattle.civl_tree.proofs.Numbers.{sizes_more}
use Rattle.civl_tree.proofs.Lists.{drop_is}
use Rattle.civl_meaning.specs.Places.{Spot, is_skipped, start_of, first_in, spot_among, inside_of, loop_spot}
use Rattle.civl_meaning.proofs.Finding.{among_here, among_inside}
use Rattle.civl_meaning.proofs.Spots.{among_past}
use Rattle.civl_meaning.proofs.Tables.{inside_by}
use Rattle.civl_outlined.specs.declared.places.Place.{Place}
use Rattle.civl_outlined.specs.inner.Places.{spot_of, Own, ArePlaces}

-- ---- lists

pub get_before : {A : Type 0} (xs : List A) (x : A) (i : ℕ) → i < length xs → slice_get (xs ++ x ∷ []) i ≡ slice_get xs i
get_before [] x i h = absurd (omega arith)
get_before (y ∷ xs) x zero h = refl
get_before (y ∷ xs) x (suc i) h = get_before xs x i (omega arith)

pub get_last : {A : Type 0} (xs : List A) (x : A) (i : ℕ) → i ≡ length xs → slice_get (xs ++ x ∷ []) i ≡ Some x
get_last [] x zero h = refl
get_last [] x (suc i) h = absurd (omega arith)
get_last (y ∷ xs) x zero h = absurd (omega arith)
get_last (y ∷ xs) x (suc i) h = get_last xs x i (omega arith)

-- where the statements begin that stand behind the one at this place
pub after_is : (ss : List Stmt) (i : ℕ) (s : Stmt) (b n : ℕ) → start_of (drop (i + 1) ss) b n ≡ (if nat_lt (i + 1) (length ss) then b else n)
after_is ss i s b n = elim (cases_lt (i + 1) (length ss)) [
  | inl h ↦ ap (λ (xs : List Stmt). start_of xs b n) (drop_more ss (i + 1) s h) ∙ sym (more h)
  | inr h ↦ ap (λ (xs : List Stmt). start_of xs b n) (drop_all (i + 1) ss h) ∙ sym (last h)
]
  where
    more : i + 1 < length ss → (if nat_lt (i + 1) (length ss) then b else n) ≡ b
    more h = rw (lt-ltb (i + 1) (length ss) h) refl

    last : length ss ≤ i + 1 → (if nat_lt (i + 1) (length ss) then b else n) ≡ n
    last h = rw (le-ltb (i + 1) (length ss) h) refl

-- ---- among statements

-- behind the first ones
among_drop : (ss : List Stmt) (i at next : ℕ) (after : Option Spot) (w : ℕ) → at + sizes_of (take i ss) ≤ w → spot_among ss at next after w ≡ spot_among (drop i ss) (at + sizes_of (take i ss)) next after w
among_drop [] zero at next after w h = refl
among_drop [] (suc i) at next after w h = refl
among_drop (s ∷ ss) zero at next after w h = ap (λ (n : ℕ). spot_among (s ∷ ss) n next after w) (omega arith)
among_drop (s ∷ ss) (suc i) at next after w h =
    let more = sizes_more s (take i ss) in
    among_past s ss at next after w (omega arith) ∙ among_drop ss i (at + size_of s) next after w (omega arith)
    ∙ ap (λ (n : ℕ). spot_among (drop i ss) n next after w) (omega (arith, more))

pub sizes_next : (ss : List Stmt) (i : ℕ) (s : Stmt) → i < length ss → s ≡ get_or ss i s → sizes_of (take (i + 1) ss) ≡ sizes_of (take i ss) + size_of s
sizes_next ss i s h e = grind (arith, common_steps)

-- ---- nothing is added

pub own_none : (es : List Place) (low high : ℕ) (there : Option Spot → ℕ → Option Spot) → length es ≡ low → high ≡ low → Own es es low high there
own_none es low high there l e = record {
  long = l ∙ sym e;
  before = λ number h. refl;
  inside = λ after number place a b g k. absurd (omega arith);
}

-- ---- one statement more, with those in it

pub own_more : (old es mid new : List Place) (ss : List Stmt) (at i here behind following next : ℕ) (s : Stmt) (p : Place) → i < length ss → s ≡ get_or ss i s → here ≡ at + sizes_of (take i ss) → behind ≡ here + size_of s →
    following ≡ start_of (drop (i + 1) ss) behind next → at ≤ here → Own old es at here (spot_among ss at next) → mid ≡ es ++ p ∷ [] → p.stmt.now ≡ s → p.next ≡ following →
    Own mid new (here + 1) (here + size_of s) (inside_of s s here following) → Own old new at behind (spot_among ss at next)
own_more old es mid new ss at i here behind following next s p h e q b f low first m ps pn inner = record {
  long = inner.long ∙ sym b;
  before = λ number l. inner.before number (omega arith) ∙ earlier number (omega arith) ∙ first.before number l;
  inside = λ after number place l u g k. elim (cases_lt number here) [
    | inl x ↦ first.inside after number place l x (sym (inner.before number (omega arith) ∙ earlier number x) ∙ g) k
    | inr x ↦ elim (cases_eq number here) [
      | inl y ↦ itself after number place y (sym (inner.before number (omega arith) ∙ own number y) ∙ g) k
      | inr n ↦ within after number place (omega arith) (omega (arith, b)) n (inner.inside (first_in (drop (i + 1) ss) (here + size_of s) next after) number place (omega arith) (omega (arith, b)) g k)
    ]
  ];
}
  where
    rest : List Stmt
    rest = drop (i + 1) ss

    long : length es ≡ here
    long = first.long

    earlier : (number : ℕ) → number < here → slice_get mid number ≡ slice_get es number
    earlier number l = ap (λ (xs : List Place). slice_get xs number) m ∙ get_before es p number (omega (arith, long))

    own : (number : ℕ) → number ≡ here → slice_get mid number ≡ Some p
    own number l = ap (λ (xs : List Place). slice_get xs number) m ∙ get_last es p number (l ∙ sym long)

    follows : following ≡ start_of rest (here + size_of s) next
    follows = f ∙ ap (λ (n : ℕ). start_of rest n next) b

    behind_them : (after : Option Spot) (number : ℕ) → here ≤ number → spot_among ss at next after number ≡ spot_among (s ∷ rest) here next after number
    behind_them after number l =
        among_drop ss i at next after number (omega (arith, q)) ∙ ap (λ (n : ℕ). spot_among (drop i ss) n next after number) (sym q)
        ∙ ap (λ (xs : List Stmt). spot_among xs here next after number) (drop_is ss i s h e)

    stands : (after : Option Spot) (number : ℕ) (place : Place) → number ≡ here → p ≡ place → is_skipped place.stmt.now ≡ false → first_in (s ∷ rest) here next after ≡ Some (spot_of number place)
    stands after number place y same k =
        let st : s ≡ place.stmt.now = sym ps ∙ ap (λ (x : Place). x.stmt.now) same in
        let nx : start_of rest (here + size_of s) next ≡ place.next = sym follows ∙ sym pn ∙ ap (λ (x : Place). x.next) same in
        let shown : first_in (s ∷ rest) here next after ≡ Some (record { number = here; stmt = s; next = start_of rest (here + size_of s) next }) = rw (ap is_skipped st ∙ k) refl in
        shown ∙ ap (λ (n : ℕ). Some (record { number = n; stmt = s; next = start_of rest (here + size_of s) next })) (sym y)
        ∙ ap (λ (x : Stmt). Some (record { number = number; stmt = x; next = start_of rest (here + size_of s) next })) st
        ∙ ap (λ (n : ℕ). Some (record { number = number; stmt = place.stmt.now; next = n })) nx

    itself : (after : Option Spot) (number : ℕ) (place : Place) → number ≡ here → Some p ≡ Some place → is_skipped place.stmt.now ≡ false → spot_among ss at next after number ≡ Some (spot_of number place)
    itself after number place y g k =
        let some = size_is_some s in
        behind_them after number (omega arith) ∙ among_here s rest here next after number (omega arith) y ∙ stands after number place y (same_Some p place g) k

    within : (after : Option Spot) (number : ℕ) (place : Place) → here ≤ number → number < here + size_of s → (number ≡ here → ⊥) → inside_of s s here following (first_in rest (here + size_of s) next after) number ≡ Some (spot_of number place) → spot_among ss at next after number ≡ Some (spot_of number place)
    within after number place l u n g =
        behind_them after number l ∙ among_inside s rest here next after number u n
        ∙ ap (λ (m : ℕ). inside_of s s here m (first_in rest (here + size_of s) next after) number) (sym follows) ∙ g

-- their text order
pub statements_more : (old es mid new : List Place) (ss : List Stmt) (i : ℕ) (s : Stmt) (p : Place) → i < length ss → s ≡ get_or ss i s → map (λ q. q.stmt.now) es ≡ map (λ q. q.stmt.now) old ++ statements_of (take i ss) → mid ≡ es ++ p ∷ [] →
    p.stmt.now ≡ s → map (λ q. q.stmt.now) new ≡ map (λ q. q.stmt.now) mid ++ inner_of s → map (λ q. q.stmt.now) new ≡ map (λ q. q.stmt.now) old ++ statements_of (take (i + 1) ss)
statements_more old es mid new ss i s p h e k m ps n =
    let more : statements_of (take (i + 1) ss) ≡ statements_of (take i ss) ++ (s ∷ inner_of s) =
    ap statements_of (take_more ss i s h ∙ ap (λ (x : Stmt). take i ss ++ x ∷ []) (sym e)) ∙ flat_map-append (λ stmt. stmt ∷ inner_of stmt) (take i ss) (s ∷ []) ∙ ap (λ (xs : List Stmt). statements_of (take i ss) ++ xs) (append-nil (s ∷ inner_of s)) in
    let pushed : map (λ q. q.stmt.now) mid ≡ (map (λ q. q.stmt.now) old ++ statements_of (take i ss)) ++ s ∷ [] =
    ap (map (λ q. q.stmt.now)) m ∙ map-append (λ q. q.stmt.now) es (p ∷ []) ∙ ap (λ (xs : List Stmt). xs ++ p.stmt.now ∷ []) k ∙ ap (λ (x : Stmt). (map (λ q. q.stmt.now) old ++ statements_of (take i ss)) ++ x ∷ []) ps in
    n ∙ ap (λ (xs : List Stmt). xs ++ inner_of s) pushed ∙ append_assoc (map (λ q. q.stmt.now) old ++ statements_of (take i ss)) (s ∷ []) (inner_of s)
    ∙ append_assoc (map (λ q. q.stmt.now) old) (statements_of (take i ss)) (s ∷ inner_of s) ∙ ap (λ (xs : List Stmt). map (λ q. q.stmt.now) old ++ xs) (sym more)

-- ---- inside a statement

module _ (s : Stmt) where
  module _ (old mid new : List Place) (at next : ℕ) where
    pub own_if : (e : Expr) (a b : List Stmt) (second : ℕ) → s ≡ tree.If e a b → second ≡ at + 1 + sizes_of a → Own old mid (at + 1) (at + 1 + sizes_of a) (spot_among a (at + 1) next) →
        Own mid new second (second + sizes_of b) (spot_among b second next) → Own old new (at + 1) (at + size_of s) (inside_of s s at next)
    own_if e a b second is q f g =
        let size = size_if s e a b is in
        let layer = λ (after : Option Spot) (w : ℕ). inside_by s (If e a b) at next after w (ap out-Stmt is ∙ if_out e a b) in
        record {
          long = g.long ∙ omega (arith, size, q);
          before = λ number l. g.before number (omega (arith, q)) ∙ f.before number l;
          inside = λ after number place l u x k. elim (cases_lt number (at + 1 + sizes_of a)) [
            | inl h ↦ layer after number ∙ rw (lt-ltb number (at + 1 + sizes_of a) h) (f.inside after number place l h (sym (g.before number (omega (arith, q))) ∙ x) k)
            | inr h ↦ layer after number ∙ rw (le-ltb number (at + 1 + sizes_of a) h) (ap (λ (n : ℕ). spot_among b n next after number) (sym q) ∙ g.inside after number place (omega (arith, q)) (omega (arith, size, q)) x k)
          ];
        }

  module _ (old new : List Place) (at next : ℕ) where
    own_loop : (a : List Stmt) → size_of s ≡ 1 + sizes_of a → ((after : Option Spot) (w : ℕ) → inside_of s s at next after w ≡ spot_among a (at + 1) at (loop_spot s at next) w) → Own old new (at + 1) (at + 1 + sizes_of a) (spot_among a (at + 1) at) → Own old new (at + 1) (at + size_of s) (inside_of s s at next)
    own_loop a size is f = record {
      long = f.long ∙ omega (arith, size);
      before = f.before;
      inside = λ after number place l u x k. is after number ∙ f.inside (loop_spot s at next) number place l (omega (arith, size)) x k;
    }

    pub own_while : (e : Expr) (a : List Stmt) → s ≡ tree.While e a → Own old new (at + 1) (at + 1 + sizes_of a) (spot_among a (at + 1) at) → Own old new (at + 1) (at + size_of s) (inside_of s s at next)
    own_while e a is f = own_loop a (size_while s e a is) (λ after w. inside_by s (While e a) at next after w (ap out-Stmt is ∙ while_out e a)) f

    pub own_yield_loop : (e i : Expr) (a : List Stmt) → s ≡ tree.YieldLoop e i a → Own old new (at + 1) (at + 1 + sizes_of a) (spot_among a (at + 1) at) → Own old new (at + 1) (at + size_of s) (inside_of s s at next)
    own_yield_loop e i a is f = own_loop a (size_yield_loop s e i a is) (λ after w. inside_by s (YieldLoop e i a) at next after w (ap out-Stmt is ∙ yield_loop_out e i a)) f

    pub own_rank_loop : (e r i : Expr) (a : List Stmt) → s ≡ tree.RankLoop e r i a → Own old new (at + 1) (at + 1 + sizes_of a) (spot_among a (at + 1) at) → Own old new (at + 1) (at + size_of s) (inside_of s s at next)
    own_rank_loop e r i a is f = own_loop a (size_rank_loop s e r i a is) (λ after w. inside_by s (RankLoop e r i a) at next after w (ap out-Stmt is ∙ rank_loop_out e r i a)) f

-- ---- a whole body

pub body_places : (body : List Stmt) (new : List Place) → map (λ p. p.stmt.now) new ≡ statements_of body → Own [] new 0 (0 + sizes_of body) (spot_among body 0 (sizes_of body)) → ArePlaces body new
body_places body new same own = record {
  statements = same;
  spots = λ number place g k. own.inside None number place (omega arith) (within number place g) g k;
}
  where
    within : (number : ℕ) (place : Place) → slice_get new number ≡ Some place → number < 0 + sizes_of body
    within number place g = omega (arith, slice_get_within new number place g, own.long)
