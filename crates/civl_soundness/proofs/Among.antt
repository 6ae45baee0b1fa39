-- What stands at a place of a body is one of its statements.
use Rattle.std.proofs.Common.{◌≡◌, ℕ, zero, suc, ◌+◌, Bool, true, false, List, [], ◌∷◌, ◌++◌, map, refl, sym, ap, ◌∙◌, subst, Option, None, Some, slice_get, map-id}
use Rattle.std.specs.Prelude.{nat_lt, nat_eq, if◌then◌else◌}
use Rattle.civl_tree.specs.declared.stmt.Stmt.{Stmt, roll-Stmt, out-roll-Stmt, map-Stmt}
use Rattle.civl_tree.specs.declared.stmt.Stmt.TheOpen.{Stmt-F, If, While, YieldLoop, RankLoop}
use Rattle.civl_tree.specs.declared.stmt.Stmt.TheFolds.{ind-Stmt}
use Rattle.civl_tree.specs.Numbering.{inner_of, statements_of, size_of, sizes_of}
use Rattle.civl_tree.proofs.Preorder.{inner_layer, inner_is}
use Rattle.civl_tree.proofs.Lists.{get_front}
use Rattle.civl_meaning.specs.Places.{Spot, is_skipped, skip_layer, start_of, first_in, spot_among, spot_at, inside_of, loop_spot}
use Rattle.civl_meaning.proofs.Placing.{inside_is, inside_layer}
use Rattle.civl_meaning.proofs.Finding.{among_is}
use Rattle.civl_meaning.proofs.Spots.{chosen}

-- a statement stands in this list, at some place
abbrev pub Among : List Stmt → Stmt → Type 0
Among ss s = (n : ℕ) × (slice_get ss n ≡ Some s)

on_left : (xs ys : List Stmt) (s : Stmt) → Among xs s → Among (xs ++ ys) s
on_left xs ys s a = (a.0, get_front xs ys a.0 s a.1)

on_right : (xs ys : List Stmt) (s : Stmt) → Among ys s → Among (xs ++ ys) s
on_right [] ys s a = a
on_right (x ∷ xs) ys s a = let r = on_right xs ys s a in (suc r.0, r.1)

either : (P : Option Spot → Type 0) (c : Bool) (x y : Option Spot) → P x → P y → P (if c then x else y)
either P true x y p q = p
either P false x y p q = q

either_by : (P : Option Spot → Type 0) (c b : Bool) (x y : Option Spot) → c ≡ b → P x → (c ≡ false → P y) → P (if b then x else y)
either_by P c true x y e p q = p
either_by P c false x y e p q = q e

-- what holds of each statement of a body holds of what stands at its places
module _ (Holds : Stmt → Type 0) where
  abbrev Each : List Stmt → Type 0
  Each ss = (s : Stmt) → Among ss s → Holds s

  abbrev Good : Option Spot → Type 0
  Good o = (s : Spot) → o ≡ Some s → Holds s.stmt × (is_skipped s.stmt ≡ false)

  one_good : (s : Stmt) (at next : ℕ) → Holds s → is_skipped s ≡ false → Good (Some (record { number = at; stmt = s; next = next }))
  one_good s at next h k t e = let q : s ≡ t.stmt = cc in subst (λ (x : Stmt). Holds x × (is_skipped x ≡ false)) q (h, k)

  each_first : (xs ys : List Stmt) → Each (xs ++ ys) → Each xs
  each_first xs ys h s a = h s (on_left xs ys s a)

  each_behind : (xs ys : List Stmt) → Each (xs ++ ys) → Each ys
  each_behind xs ys h s a = h s (on_right xs ys s a)

  each_inner : (s : Stmt) (ss : List Stmt) → Each (statements_of (s ∷ ss)) → Each (inner_of s)
  each_inner s ss h t a = each_first (s ∷ inner_of s) (statements_of ss) h t (suc a.0, a.1)

  first_good : (ss : List Stmt) (at next : ℕ) (after : Option Spot) → Each (statements_of ss) → Good after → Good (first_in ss at next after)
  first_good [] at next after h g = g
  first_good (s ∷ ss) at next after h g =
      either_by Good (is_skipped s) (is_skipped s) _ _ refl (first_good ss (at + size_of s) next after (each_behind (s ∷ inner_of s) (statements_of ss) h) g) (one_good s at (start_of ss (at + size_of s) next) (h s (zero, refl)))

  abbrev Finds : Stmt → Type 0
  Finds s = (at next : ℕ) (after : Option Spot) (wanted : ℕ) → Holds s → Each (inner_of s) → Good after → Good (inside_of s s at next after wanted)

  all_find : {S : Type 0} (ys : List S) (v : S → Stmt) (f : (x : S) → Finds (v x)) (at next : ℕ) (after : Option Spot) (wanted : ℕ) → Each (statements_of (map v ys)) → Good after → Good (spot_among (map v ys) at next after wanted)
  all_find [] v f at next after wanted h g = g
  all_find (y ∷ ys) v f at next after wanted h g =
      let s = v y in
      let ss = map v ys in
      let rest = each_behind (s ∷ inner_of s) (statements_of ss) h in
      let behind = first_good ss (at + size_of s) next after rest g in
      let inside = f y at (start_of ss (at + size_of s) next) (first_in ss (at + size_of s) next after) wanted (h s (zero, refl)) (each_inner s ss h) behind in
      subst Good (sym (among_is s ss at next after wanted))
      (chosen Good (nat_lt wanted (at + size_of s)) (nat_eq wanted at) _ _ _ (first_good (s ∷ ss) at next after h g) inside (all_find ys v f (at + size_of s) next after wanted rest g))

  layer_finds : {S : Type 0} (y : Stmt-F S) (v : S → Stmt) (f : (x : S) → Finds (v x)) (t : Stmt) (at next : ℕ) (after : Option Spot) (wanted : ℕ) → Holds t → is_skipped t ≡ skip_layer (map-Stmt S Stmt v y) → Each (inner_layer (map-Stmt S Stmt v y)) → Good after → Good (inside_layer (map-Stmt S Stmt v y) t at next after wanted)
  layer_finds (If e a b) v f t at next after wanted own sk h g =
      let first = each_first (statements_of (map v a)) (statements_of (map v b)) h in
      let second = each_behind (statements_of (map v a)) (statements_of (map v b)) h in
      either Good (nat_lt wanted (at + 1 + sizes_of (map v a))) _ _ (all_find a v f (at + 1) next after wanted first g) (all_find b v f (at + 1 + sizes_of (map v a)) next after wanted second g)
  layer_finds (While e a) v f t at next after wanted own sk h g = all_find a v f (at + 1) at (loop_spot t at next) wanted h (one_good t at next own sk)
  layer_finds (YieldLoop e i a) v f t at next after wanted own sk h g = all_find a v f (at + 1) at (loop_spot t at next) wanted h (one_good t at next own sk)
  layer_finds (RankLoop e r i a) v f t at next after wanted own sk h g = all_find a v f (at + 1) at (loop_spot t at next) wanted h (one_good t at next own sk)
  layer_finds _ v f t at next after wanted own sk h g = g

  finds : (s : Stmt) → Finds s
  finds s =
      ind-Stmt Finds (λ x y e at next after wanted own h g.
      let t = roll-Stmt x in
      let q = out-roll-Stmt x ∙ sym e in
      let inside = inside_is t t at next after wanted ∙ ap (λ (d : Stmt-F Stmt). inside_layer d t at next after wanted) q in
      let inner = inner_is t ∙ ap inner_layer q in
      subst Good (sym inside) (layer_finds y (λ z. z.0) (λ z. z.1) t at next after wanted own (ap skip_layer q) (λ u a. h u (subst (λ (l : List Stmt). Among l u) (sym inner) a)) g)) s

  body_good : (body : List Stmt) (wanted : ℕ) → Each (statements_of body) → Good (spot_at body wanted)
  body_good body wanted h =
      let all = λ (k : Each (statements_of (map (λ s. s) body))). all_find body (λ s. s) finds 0 (sizes_of body) None wanted k (λ t e. absurd (cc)) in
      subst (λ (ss : List Stmt). Good (spot_among ss 0 (sizes_of body) None wanted)) (map-id body) (all (subst (λ (ss : List Stmt). Each (statements_of ss)) (sym (map-id body)) h))

among_all : (body : List Stmt) (wanted : ℕ) (s : Spot) → spot_at body wanted ≡ Some s → Among (statements_of body) s.stmt × (is_skipped s.stmt ≡ false)
among_all body wanted s e = body_good (Among (statements_of body)) body wanted (λ t a. a) s e

pub spot_is_among : (body : List Stmt) (wanted : ℕ) (s : Spot) → spot_at body wanted ≡ Some s → Among (statements_of body) s.stmt
spot_is_among body wanted s e = (among_all body wanted s e).0

-- and it is a statement of a plain program
pub spot_is_plain : (body : List Stmt) (wanted : ℕ) (s : Spot) → spot_at body wanted ≡ Some s → is_skipped s.stmt ≡ false
spot_is_plain body wanted s e = (among_all body wanted s e).1
