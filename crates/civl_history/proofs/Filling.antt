-- A table of the spots at the places of a body, filled part by part.
use Rattle.std.proofs.Common.{◌≡◌, ℕ, ◌+◌, ◌-◌, ◌<◌, ◌≤◌, List, [], ◌∷◌, length, take, drop, get_or, refl, sym, ap, ◌∙◌, subst, Option, None, Some, inl, inr, arith}
use Rattle.std.specs.Prelude.{nat_lt, if◌then◌else◌, slice_get, slice_set, IfSome}
use Rattle.std.proofs.lemmas.Bool.{lt-ltb, le-ltb, cases_lt, cases_eq}
use Rattle.std.proofs.lemmas.List.{length-set}
use Rattle.std.proofs.lemmas.Option.{none-some, slice_get_past, slice_get-get_or}
use Rattle.civl_tree.specs.declared.expr.Expr.{Expr}
use Rattle.civl_tree.specs.declared.stmt.Stmt.{Stmt, out-Stmt}
use Rattle.civl_tree.specs.declared.stmt.Stmt as tree
use Rattle.civl_tree.specs.declared.stmt.Stmt.TheOpen.{If, While, YieldLoop, RankLoop}
use Rattle.civl_tree.specs.declared.program.Proc.{Proc}
use Rattle.civl_tree.specs.Numbering.{size_of, sizes_of}
use Rattle.civl_tree.proofs.Sizes.{if_out, while_out, yield_loop_out, rank_loop_out, size_if, size_while, size_yield_loop, size_rank_loop}
use Rattle.civl_tree.proofs.Numbers.{sizes_more}
use Rattle.civl_tree.proofs.Lists.{get_there, get_other, get_same}
use Rattle.civl_meaning.specs.declared.remaining.Numbered.{Numbered}
use Rattle.civl_meaning.specs.Places.{Spot, start_of, first_in, spot_among, spot_at, inside_of, loop_spot}
use Rattle.civl_meaning.specs.inner.Filled.{here_spot}
use Rattle.civl_meaning.proofs.Finding.{among_here, among_inside}
use Rattle.civl_meaning.proofs.Spots.{among_past}
use Rattle.civl_meaning.proofs.Tables.{Turn, inside_by}
use Rattle.civl_meaning.specs.declared.config.Plain.{Plain}
use Rattle.civl_meaning.specs.declared.config.Activation.{Activation}
use Rattle.civl_meaning.proofs.Zipping.{zip_long, zip_there}
use Rattle.civl_history.specs.declared.spots.BodySpots.{BodySpots}
use Rattle.civl_history.specs.declared.spots.Spots.{Spots}
use Rattle.civl_history.specs.Stands.{spot_in_proc, spot_of_frame}
use Rattle.civl_history.specs.inner.Spots.{IsFound, Filled, entry, entry_in, numbered_spot, AreSpotsOf, AreSpots}

as_found : (found : Option Numbered) (a b : Option Spot) → a ≡ b → IsFound found a → IsFound found b
as_found found a b e h = subst (IsFound found) e h

-- ---- nothing is filled

pub fills_none : (es : List (Option Numbered)) (low high : ℕ) (there : ℕ → Option Spot) → high ≤ low → Filled es es low high there
fills_none es low high there h = record {
  long = refl;
  inside = λ place l u. absurd (omega arith);
  outside = λ place o. refl;
}

-- ---- two parts, one behind the other

fills_both : (old mid new : List (Option Numbered)) (low second high : ℕ) (f g there : ℕ → Option Spot) → low ≤ second → second ≤ high →
    Filled old mid low second f → Filled mid new second high g → ((w : ℕ) → there w ≡ (if nat_lt w second then f w else g w)) → Filled old new low high there
fills_both old mid new low second high f g there ls sh a b is = record {
  long = b.long ∙ a.long;
  inside = λ place l u. elim (cases_lt place second) [
    | inl h ↦ as_found (entry new place) (f place) (there place) (sym (is place ∙ rw (lt-ltb place second h) refl)) (subst (λ (o : Option Numbered). IsFound o (f place)) (sym (b.outside place (inl h))) (a.inside place l h))
    | inr h ↦ as_found (entry new place) (g place) (there place) (sym (is place ∙ rw (le-ltb place second h) refl)) (b.inside place h u)
  ];
  outside = λ place o. elim o [
    | inl h ↦ b.outside place (inl (omega arith)) ∙ a.outside place (inl h)
    | inr h ↦ b.outside place (inr h) ∙ a.outside place (inr (omega arith))
  ];
}

-- ---- one statement in front of others

fills_more : (old es mid : List (Option Numbered)) (s : Stmt) (ss : List Stmt) (here high next : ℕ) (last : Option Spot) (x : Option Numbered) →
    here + size_of s ≤ high → 1 ≤ size_of s → here < length es →
    Filled old es (here + size_of s) high (spot_among ss (here + size_of s) next last) →
    Filled es mid (here + 1) (here + size_of s) (inside_of s s here (start_of ss (here + size_of s) next) (first_in ss (here + size_of s) next last)) →
    IsFound x (first_in (s ∷ ss) here next last) →
    Filled old (slice_set mid here x) here high (spot_among (s ∷ ss) here next last)
fills_more old es mid s ss here high next last x hh some room later inner found =
    let within : here < length mid = omega (arith, inner.long) in
    let own = get_there mid here within in
    let other : (place : ℕ) → (place ≡ here → ⊥) → entry (slice_set mid here x) place ≡ entry mid place = λ place n. ap entry_in (get_other mid here place x n) in
    record {
      long = length-set mid here x ∙ inner.long ∙ later.long;
      inside = λ place l u. elim (cases_eq place here) [
        | inl e ↦
            as_entry place (ap entry_in (ap (λ (k : ℕ). slice_get (slice_set mid here x) k) e ∙ get_same mid here x own.0 own.1)) (among_here s ss here next last place (omega arith) e)
        | inr n ↦ elim (cases_lt place (here + size_of s)) [
          | inl h ↦
              as_found (entry (slice_set mid here x) place) _ _ (sym (among_inside s ss here next last place h n))
              (subst (λ (o : Option Numbered). IsFound o (inside_of s s here (start_of ss (here + size_of s) next) (first_in ss (here + size_of s) next last) place)) (sym (other place n)) (inner.inside place (omega arith) h))
          | inr h ↦
              as_found (entry (slice_set mid here x) place) _ _ (sym (among_past s ss here next last place h))
              (subst (λ (o : Option Numbered). IsFound o (spot_among ss (here + size_of s) next last place)) (sym (other place n ∙ inner.outside place (inr h))) (later.inside place h u))
        ]
      ];
      outside = λ place o. elim o [
        | inl h ↦ other place (λ e. absurd (omega arith)) ∙ inner.outside place (inl (omega arith)) ∙ later.outside place (inl (omega arith))
        | inr h ↦ other place (λ e. absurd (omega arith)) ∙ inner.outside place (inr (omega arith)) ∙ later.outside place (inr h)
      ];
    }
  where
    as_entry : (place : ℕ) → entry (slice_set mid here x) place ≡ x → spot_among (s ∷ ss) here next last place ≡ first_in (s ∷ ss) here next last → IsFound (entry (slice_set mid here x) place) (spot_among (s ∷ ss) here next last place)
    as_entry place q k = subst (λ (o : Option Numbered). IsFound o (spot_among (s ∷ ss) here next last place)) (sym q) (as_found x _ _ (sym k) found)

-- ---- one turn of the loop, which goes over the statements backward

pub record Turned (rest : List Stmt) (old new : List (Option Numbered)) (here high next : ℕ) (last : Option Spot) (x : Option Numbered) : Type 0 where
  pub first : IsFound x (first_in rest here next last)
  pub filled : Filled old new here high (spot_among rest here next last)

turned_more : (old es mid : List (Option Numbered)) (s : Stmt) (rest : List Stmt) (here behind high next : ℕ) (last : Option Spot) (x : Option Numbered) →
    here + size_of s ≡ behind → behind ≤ high → 1 ≤ size_of s → here < length es →
    Filled old es behind high (spot_among rest behind next last) →
    Filled es mid (here + 1) (here + size_of s) (inside_of s s here (start_of rest behind next) (first_in rest behind next last)) →
    IsFound x (here_spot s here (start_of rest behind next) (first_in rest behind next last)) → Turned (s ∷ rest) old (slice_set mid here x) here high next last x
turned_more old es mid s rest here behind high next last x e hh some room later inner found =
    let later2 : Filled old es (here + size_of s) high (spot_among rest (here + size_of s) next last) = subst (λ (n : ℕ). Filled old es n high (spot_among rest n next last)) (sym e) later in
    let inner2 : Filled es mid (here + 1) (here + size_of s) (inside_of s s here (start_of rest (here + size_of s) next) (first_in rest (here + size_of s) next last)) =
    subst (λ (n : ℕ). Filled es mid (here + 1) (here + size_of s) (inside_of s s here (start_of rest n next) (first_in rest n next last))) (sym e) inner in
    let found2 : IsFound x (first_in (s ∷ rest) here next last) = subst (λ (n : ℕ). IsFound x (here_spot s here (start_of rest n next) (first_in rest n next last))) (sym e) found in
    record {
      first = found2;
      filled = fills_more old es mid s rest here high next last x (omega arith) some room later2 inner2 found2;
    }

pub turned : (old es mid : List (Option Numbered)) (ss : List Stmt) (at left behind here next : ℕ) (s : Stmt) (last : Option Spot) (x : Option Numbered) → Turn ss at left behind here s → at + sizes_of ss ≤ length es →
    Filled old es behind (at + sizes_of ss) (spot_among (drop left ss) behind next last) →
    Filled es mid (here + 1) (here + size_of s) (inside_of s s here (start_of (drop left ss) behind next) (first_in (drop left ss) behind next last)) →
    IsFound x (here_spot s here (start_of (drop left ss) behind next) (first_in (drop left ss) behind next last)) → Turned (drop (left - 1) ss) old (slice_set mid here x) here (at + sizes_of ss) next last x
turned old es mid ss at left behind here next s last x k room later inner found =
    let sum = k.sum in
    let high = k.high in
    let some = k.some in
    subst (λ (rest : List Stmt). Turned rest old (slice_set mid here x) here (at + sizes_of ss) next last x) (sym k.more)
    (turned_more old es mid s (drop left ss) here behind (at + sizes_of ss) next last x k.sum k.high k.some (omega arith) later inner found)

-- ---- inside a statement

pub fills_if : (s : Stmt) (e : Expr) (a b : List Stmt) (old mid new : List (Option Numbered)) (at next second : ℕ) (last : Option Spot) → s ≡ tree.If e a b → second ≡ at + 1 + sizes_of a →
    Filled old mid (at + 1) (at + 1 + sizes_of a) (spot_among a (at + 1) next last) → Filled mid new second (second + sizes_of b) (spot_among b second next last) →
    Filled old new (at + 1) (at + size_of s) (inside_of s s at next last)
fills_if s e a b old mid new at next second last is q f g =
    let size = size_if s e a b is in
    let same : second + sizes_of b ≡ at + size_of s = omega arith in
    let g2 : Filled mid new (at + 1 + sizes_of a) (at + size_of s) (spot_among b (at + 1 + sizes_of a) next last) =
    subst (λ (n : ℕ). Filled mid new n (at + size_of s) (spot_among b n next last)) q (subst (λ (n : ℕ). Filled mid new second n (spot_among b second next last)) same g) in
    fills_both old mid new (at + 1) (at + 1 + sizes_of a) (at + size_of s) (spot_among a (at + 1) next last) (spot_among b (at + 1 + sizes_of a) next last) (inside_of s s at next last) (omega arith) (omega arith) f g2
    (λ w. inside_by s (If e a b) at next last w (ap out-Stmt is ∙ if_out e a b))

fills_loop : (s : Stmt) (a : List Stmt) (old new : List (Option Numbered)) (at next : ℕ) (last : Option Spot) → size_of s ≡ 1 + sizes_of a → ((w : ℕ) → inside_of s s at next last w ≡ spot_among a (at + 1) at (loop_spot s at next) w) →
    Filled old new (at + 1) (at + 1 + sizes_of a) (spot_among a (at + 1) at (loop_spot s at next)) → Filled old new (at + 1) (at + size_of s) (inside_of s s at next last)
fills_loop s a old new at next last size is f = record {
  long = f.long;
  inside = λ place l u. as_found (entry new place) (spot_among a (at + 1) at (loop_spot s at next) place) (inside_of s s at next last place) (sym (is place)) (f.inside place l (omega arith));
  outside = λ place x. elim x [
    | inl h ↦ f.outside place (inl h)
    | inr h ↦ f.outside place (inr (omega arith))
  ];
}

module _ (s : Stmt) (old new : List (Option Numbered)) (at next : ℕ) (last : Option Spot) where
  pub fills_while : (e : Expr) (a : List Stmt) → s ≡ tree.While e a → Filled old new (at + 1) (at + 1 + sizes_of a) (spot_among a (at + 1) at (loop_spot s at next)) → Filled old new (at + 1) (at + size_of s) (inside_of s s at next last)
  fills_while e a is f = fills_loop s a old new at next last (size_while s e a is) (λ w. inside_by s (While e a) at next last w (ap out-Stmt is ∙ while_out e a)) f

  pub fills_yield_loop : (e i : Expr) (a : List Stmt) → s ≡ tree.YieldLoop e i a → Filled old new (at + 1) (at + 1 + sizes_of a) (spot_among a (at + 1) at (loop_spot s at next)) → Filled old new (at + 1) (at + size_of s) (inside_of s s at next last)
  fills_yield_loop e i a is f = fills_loop s a old new at next last (size_yield_loop s e i a is) (λ w. inside_by s (YieldLoop e i a) at next last w (ap out-Stmt is ∙ yield_loop_out e i a)) f

  pub fills_rank_loop : (e r i : Expr) (a : List Stmt) → s ≡ tree.RankLoop e r i a → Filled old new (at + 1) (at + 1 + sizes_of a) (spot_among a (at + 1) at (loop_spot s at next)) → Filled old new (at + 1) (at + size_of s) (inside_of s s at next last)
  fills_rank_loop e r i a is f = fills_loop s a old new at next last (size_rank_loop s e r i a is) (λ w. inside_by s (RankLoop e r i a) at next last w (ap out-Stmt is ∙ rank_loop_out e r i a)) f

-- ---- a whole body

among_none : (ss : List Stmt) (at next : ℕ) (last : Option Spot) (w : ℕ) → at + sizes_of ss ≤ w → spot_among ss at next last w ≡ last
among_none [] at next last w h = refl
among_none (s ∷ ss) at next last w h =
    let more = sizes_more s ss in
    among_past s ss at next last w (omega arith) ∙ among_none ss (at + size_of s) next last w (omega arith)

nothing : (o : Option Numbered) → o ≡ None → IsFound o None
nothing None e = refl
nothing (Some f) e = absurd (cc)

pub body_is_filled : (body : List Stmt) (old new : List (Option Numbered)) → length old ≡ sizes_of body → Filled old new 0 (0 + sizes_of body) (spot_among body 0 (sizes_of body) None) → (place : ℕ) → IsFound (entry new place) (spot_at body place)
body_is_filled body old new n h place = elim (cases_lt place (sizes_of body)) [
  | inl l ↦ h.inside place (omega arith) (omega arith)
  | inr l ↦
      let past : length new ≤ place = omega (arith, h.long) in
      as_found (entry new place) None (spot_at body place) (sym (among_none body 0 (sizes_of body) None place (omega arith))) (nothing (entry new place) (ap entry_in (slice_get_past new place past)))
]

-- ---- a look-up

pub entry_read : (es ys : List (Option Numbered)) (place : ℕ) (x : Option Numbered) → ys ≡ es → place < length ys → x ≡ get_or ys place x → entry es place ≡ x
entry_read es ys place x same h e =
    ap (λ (zs : List (Option Numbered)). entry zs place) (sym same) ∙ ap entry_in (slice_get-get_or ys place x h ∙ ap (λ (o : Option Numbered). Some o) (sym e))

pub entry_past : (es ys : List (Option Numbered)) (place : ℕ) → ys ≡ es → length ys ≤ place → entry es place ≡ None
entry_past es ys place same h = ap (λ (zs : List (Option Numbered)). entry zs place) (sym same) ∙ ap entry_in (slice_get_past ys place h)

-- the loop's end, where all statements are behind it
pub all_filled : (old new : List (Option Numbered)) (stmts items : List Stmt) (at left behind next : ℕ) (last : Option Spot) → items ≡ stmts → left ≡ 0 → behind ≡ at + sizes_of (take left items) →
    Filled old new behind (at + sizes_of items) (spot_among (drop left items) behind next last) → Filled old new at (at + sizes_of stmts) (spot_among stmts at next last)
all_filled old new stmts items at left behind next last same none is f =
    let first : at + sizes_of (take left items) ≡ at + 0 = ap (λ (n : ℕ). at + sizes_of (take n items)) none in
    let begins : behind ≡ at = omega arith in
    subst (λ (ss : List Stmt). Filled old new at (at + sizes_of ss) (spot_among ss at next last)) same
    (subst (λ (n : ℕ). Filled old new n (at + sizes_of items) (spot_among items n next last)) begins
    (subst (λ (n : ℕ). Filled old new behind (at + sizes_of items) (spot_among (drop n items) behind next last)) none f))

-- what is found in a frame of a procedure
module _ (plain : Plain) (spots : Spots) (frame : Activation) (all : AreSpots plain spots) where
  pub found_nowhere : length spots.procs.items ≤ frame.procedure → IsFound None (spot_of_frame plain frame)
  found_nowhere past =
      let none : slice_get plain.program.procs frame.procedure ≡ None = slice_get_past plain.program.procs frame.procedure (omega (arith, zip_long AreSpotsOf plain.program.procs spots.procs.items all)) in
      ap (λ (o : Option Proc). numbered_spot (spot_in_proc o frame.place)) (sym none)

  pub found_in_table : (table : BodySpots) (found : Option Numbered) → frame.procedure < length spots.procs.items → table ≡ get_or spots.procs.items frame.procedure table → entry table.entries.items frame.place ≡ found → IsFound found (spot_of_frame plain frame)
  found_in_table table found within is e =
      by_proc (slice_get plain.program.procs frame.procedure) refl
      (zip_there AreSpotsOf plain.program.procs spots.procs.items frame.procedure table all (slice_get-get_or spots.procs.items frame.procedure table within ∙ ap (λ (t : BodySpots). Some t) (sym is)))
    where
      by_proc : (o : Option Proc) → slice_get plain.program.procs frame.procedure ≡ o → IfSome o (λ proc. AreSpotsOf proc table) → IsFound found (spot_in_proc o frame.place)
      by_proc None none h = absurd (lost none)
        where
          lost : slice_get plain.program.procs frame.procedure ≡ None → ⊥
          lost none =
              let there = get_there plain.program.procs frame.procedure (omega (arith, zip_long AreSpotsOf plain.program.procs spots.procs.items all)) in
              none-some there.0 (sym none ∙ there.1)
      by_proc (Some proc) some h = subst (λ (o : Option Numbered). IsFound o (spot_at proc.body frame.place)) e (h frame.place)
