-- What is still to run from a place of a body belongs to the body: from its own place on, and from those behind it and inside
-- its first statement, what is still to run is the rest of it.
use Rattle.std.proofs.Common.{◌≡◌, ℕ, ◌+◌, ◌<◌, ◌≤◌, Bool, true, false, List, [], ◌∷◌, ◌++◌, map, refl, sym, ap, ◌∙◌, subst, arith, inl, inr, map-id}
use Rattle.std.proofs.lemmas.Bool.{false≢true, cases_lt, lt-ltb, le-ltb, eq-eqb, ne_eqb}
use Rattle.std.specs.Prelude.{if◌then◌else◌}
use Rattle.civl_tree.specs.declared.expr.Expr.{Expr}
use Rattle.civl_tree.specs.declared.stmt.Stmt.{Stmt, out-Stmt, roll-Stmt, out-roll-Stmt, map-Stmt}
use Rattle.civl_tree.specs.declared.stmt.Stmt.TheOpen.{Stmt-F, If, While, YieldLoop, RankLoop}
use Rattle.civl_tree.specs.declared.stmt.Stmt.TheFolds.{ind-Stmt}
use Rattle.civl_tree.specs.Numbering.{size_step, size_of, sizes_of, numbered}
use Rattle.civl_tree.proofs.Numbers.{sizes_more}
use Rattle.civl_tree.proofs.Sizes.{size_is_some, size_by}
use Rattle.civl_meaning.specs.Places.{start_of}
use Rattle.civl_meaning.specs.Rest.{Rest, rest_inside, rest_among, rest_at, place_in}
use Rattle.civl_meaning.proofs.Rests.{rest_layer, rest_is, among_rest, rest_none}

-- from a place of these statements on, what is still to run in the body is what is still to run among them, with k behind
abbrev pub Covers : List Stmt → List Stmt → ℕ → Rest → Type 0
Covers body ss at k = (w : ℕ) → at ≤ w → w < at + sizes_of ss → rest_at body w ≡ rest_among ss at k w

-- each statement of a rest stands in the body before those behind it
abbrev pub Belongs : List Stmt → Rest → Type 0
Belongs body [] = rest_at body (sizes_of body) ≡ []
Belongs body (q ∷ k) = Covers body (q.1 ∷ []) q.0 k × Belongs body k

-- ---- among statements

-- at a statement, inside it, and past it
pub at_first : (s : Stmt) (ss : List Stmt) (at : ℕ) (k : Rest) (w : ℕ) → w ≡ at → rest_among (s ∷ ss) at k w ≡ numbered at (s ∷ ss) ++ k
at_first s ss at k w e =
    let some = size_is_some s in
    let h : w < at + size_of s = omega arith in
    among_rest s ss at k w ∙ rw (lt-ltb w (at + size_of s) h, eq-eqb w at e) refl

pub in_first : (s : Stmt) (ss : List Stmt) (at : ℕ) (k : Rest) (w : ℕ) → at < w → w < at + size_of s → rest_among (s ∷ ss) at k w ≡ rest_inside s s at (numbered (at + size_of s) ss ++ k) w
in_first s ss at k w low h =
    let ne : w ≡ at → ⊥ = λ e. absurd (omega arith) in
    among_rest s ss at k w ∙ rw (lt-ltb w (at + size_of s) h, ne_eqb w at ne) refl

pub past_first : (s : Stmt) (ss : List Stmt) (at : ℕ) (k : Rest) (w : ℕ) → at + size_of s ≤ w → rest_among (s ∷ ss) at k w ≡ rest_among ss (at + size_of s) k w
past_first s ss at k w h = among_rest s ss at k w ∙ rw (le-ltb w (at + size_of s) h) refl

pub past_all : (ss : List Stmt) (at : ℕ) (k : Rest) (w : ℕ) → at + sizes_of ss ≤ w → rest_among ss at k w ≡ k
past_all [] at k w h = rest_none at k w
past_all (s ∷ ss) at k w h =
    let more = sizes_more s ss in
    past_first s ss at k w (omega arith) ∙ past_all ss (at + size_of s) k w (omega arith)

pub exit_is : (body : List Stmt) → rest_at body (sizes_of body) ≡ []
exit_is body = past_all body 0 [] (sizes_of body) (omega arith)

if_so : (b : Bool) (x y : Rest) → b ≡ true → (if b then x else y) ≡ x
if_so true x y e = refl
if_so false x y e = absurd (false≢true e)

-- the first of them, with the others behind it
first_with : (s : Stmt) (ss : List Stmt) (at : ℕ) (k : Rest) (w : ℕ) → w < at + size_of s → rest_among (s ∷ ss) at k w ≡ rest_among (s ∷ []) at (numbered (at + size_of s) ss ++ k) w
first_with s ss at k w h =
    let b = lt-ltb w (at + size_of s) h in
    among_rest s ss at k w ∙ if_so _ _ _ b ∙ sym (if_so _ _ _ b) ∙ sym (among_rest s [] at (numbered (at + size_of s) ss ++ k) w)

module _ (body : List Stmt) where
  covers_first : (s : Stmt) (ss : List Stmt) (at : ℕ) (k : Rest) → Covers body (s ∷ ss) at k → Covers body (s ∷ []) at (numbered (at + size_of s) ss ++ k)
  covers_first s ss at k c w low high =
      let more = sizes_more s ss in
      let alone = sizes_more s [] in
      c w low (omega arith) ∙ first_with s ss at k w (omega arith)

  covers_others : (s : Stmt) (ss : List Stmt) (at : ℕ) (k : Rest) → Covers body (s ∷ ss) at k → Covers body ss (at + size_of s) k
  covers_others s ss at k c w low high =
      let more = sizes_more s ss in
      c w (omega arith) (omega arith) ∙ past_first s ss at k w low

  pub all_belong : (ss : List Stmt) (at : ℕ) (k : Rest) → Covers body ss at k → Belongs body k → Belongs body (numbered at ss ++ k)
  all_belong [] at k c h = h
  all_belong (s ∷ ss) at k c h = (covers_first s ss at k c, all_belong ss (at + size_of s) k (covers_others s ss at k c) h)

  -- a rest is what is still to run from its own place on
  pub own_place : (r : Rest) → Belongs body r → rest_at body (place_in (sizes_of body) r) ≡ r
  own_place [] h = h
  own_place (q ∷ k) h =
      let some = size_is_some q.1 in
      let alone = sizes_more q.1 [] in
      h.0 q.0 (omega arith) (omega arith) ∙ at_first q.1 [] q.0 k q.0 refl

  pub start_place : (ss : List Stmt) (at : ℕ) (k : Rest) → Belongs body (numbered at ss ++ k) → rest_at body (start_of ss at (place_in (sizes_of body) k)) ≡ numbered at ss ++ k
  start_place [] at k h = own_place k h
  start_place (s ∷ ss) at k h = own_place (numbered at (s ∷ ss) ++ k) h

  -- ---- the parts of a statement

  inside_first : (s : Stmt) (at : ℕ) (k : Rest) (d : Stmt-F Stmt) → out-Stmt s ≡ d → Covers body (s ∷ []) at k → (w : ℕ) → at < w → w < at + size_of s → rest_at body w ≡ rest_layer d s at k w
  inside_first s at k d e c w low high =
      let alone = sizes_more s [] in
      c w (omega arith) (omega arith) ∙ in_first s [] at k w low high ∙ rest_is s s at k w ∙ ap (λ (d : Stmt-F Stmt). rest_layer d s at k w) e

  pub first_covered : (s : Stmt) (at : ℕ) (k : Rest) (e : Expr) (a b : List Stmt) → out-Stmt s ≡ If e a b → Covers body (s ∷ []) at k → Covers body a (at + 1) k
  first_covered s at k e a b o c w low high =
      let size : size_of s ≡ 1 + sizes_of a + sizes_of b = size_by s (If e a b) o in
      let below : w < at + 1 + sizes_of a = high in
      inside_first s at k (If e a b) o c w (omega arith) (omega arith) ∙ rw (lt-ltb w (at + 1 + sizes_of a) below) refl

  pub second_covered : (s : Stmt) (at : ℕ) (k : Rest) (e : Expr) (a b : List Stmt) → out-Stmt s ≡ If e a b → Covers body (s ∷ []) at k → Covers body b (at + 1 + sizes_of a) k
  second_covered s at k e a b o c w low high =
      let size : size_of s ≡ 1 + sizes_of a + sizes_of b = size_by s (If e a b) o in
      inside_first s at k (If e a b) o c w (omega arith) (omega arith) ∙ rw (le-ltb w (at + 1 + sizes_of a) low) refl

  loop_covered : (s : Stmt) (at : ℕ) (k : Rest) (a : List Stmt) (d : Stmt-F Stmt) → out-Stmt s ≡ d → size_step (map-Stmt Stmt ℕ size_of d) ≡ 1 + sizes_of a → ((w : ℕ) → rest_layer d s at k w ≡ rest_among a (at + 1) ((at, s) ∷ k) w) → Covers body (s ∷ []) at k → Covers body a (at + 1) ((at, s) ∷ k)
  loop_covered s at k a d o size layer c w low high =
      let e = size_by s d o in
      inside_first s at k d o c w (omega arith) (omega arith) ∙ layer w

  pub while_covered : (s : Stmt) (at : ℕ) (k : Rest) (e : Expr) (a : List Stmt) → out-Stmt s ≡ While e a → Covers body (s ∷ []) at k → Covers body a (at + 1) ((at, s) ∷ k)
  while_covered s at k e a o c = loop_covered s at k a (While e a) o refl (λ w. refl) c

  pub yield_loop_covered : (s : Stmt) (at : ℕ) (k : Rest) (e i : Expr) (a : List Stmt) → out-Stmt s ≡ YieldLoop e i a → Covers body (s ∷ []) at k → Covers body a (at + 1) ((at, s) ∷ k)
  yield_loop_covered s at k e i a o c = loop_covered s at k a (YieldLoop e i a) o refl (λ w. refl) c

  pub rank_loop_covered : (s : Stmt) (at : ℕ) (k : Rest) (e r i : Expr) (a : List Stmt) → out-Stmt s ≡ RankLoop e r i a → Covers body (s ∷ []) at k → Covers body a (at + 1) ((at, s) ∷ k)
  rank_loop_covered s at k e r i a o c = loop_covered s at k a (RankLoop e r i a) o refl (λ w. refl) c

  -- ---- from any place on

  -- what is to be shown of a statement
  abbrev Within : Stmt → Type 0
  Within s = (at : ℕ) (k : Rest) (w : ℕ) → at < w → Belongs body ((at, s) ∷ k) → Belongs body (rest_inside s s at k w)

  among_belongs : {S : Type 0} (ys : List S) (v : S → Stmt) → ((x : S) → Within (v x)) → (at : ℕ) (k : Rest) (w : ℕ) → at ≤ w → Covers body (map v ys) at k → Belongs body k → Belongs body (rest_among (map v ys) at k w)
  among_belongs [] v h at k w low c b = subst (Belongs body) (sym (rest_none at k w)) b
  among_belongs (y ∷ ys) v h at k w low c b =
      let s = v y in
      let ss = map v ys in
      let all = all_belong (s ∷ ss) at k c b in
      elim (cases_lt w (at + size_of s)) [
        | inl below ↦ elim (cases_lt at w) [
          | inl inside ↦ subst (Belongs body) (sym (in_first s ss at k w inside below)) (h y at (numbered (at + size_of s) ss ++ k) w inside all)
          | inr here ↦ subst (Belongs body) (sym (at_first s ss at k w (omega arith))) all
        ]
        | inr above ↦ subst (Belongs body) (sym (past_first s ss at k w above)) (among_belongs ys v h (at + size_of s) k w above (covers_others s ss at k c) b)
      ]

  layer_belongs : {S : Type 0} (d : Stmt-F S) (v : S → Stmt) → ((x : S) → Within (v x)) → (s : Stmt) → out-Stmt s ≡ map-Stmt S Stmt v d → (at : ℕ) (k : Rest) (w : ℕ) → at < w → Belongs body ((at, s) ∷ k) → Belongs body (rest_layer (map-Stmt S Stmt v d) s at k w)
  layer_belongs (If e a b) v h s o at k w low g = elim (cases_lt w (at + 1 + sizes_of (map v a))) [
    | inl below ↦
        rw (lt-ltb w (at + 1 + sizes_of (map v a)) below) (among_belongs a v h (at + 1) k w (omega arith) (first_covered s at k e (map v a) (map v b) o g.0) g.1)
    | inr above ↦
        rw (le-ltb w (at + 1 + sizes_of (map v a)) above) (among_belongs b v h (at + 1 + sizes_of (map v a)) k w above (second_covered s at k e (map v a) (map v b) o g.0) g.1)
  ]
  layer_belongs (While e a) v h s o at k w low g = among_belongs a v h (at + 1) ((at, s) ∷ k) w (omega arith) (while_covered s at k e (map v a) o g.0) g
  layer_belongs (YieldLoop e i a) v h s o at k w low g = among_belongs a v h (at + 1) ((at, s) ∷ k) w (omega arith) (yield_loop_covered s at k e i (map v a) o g.0) g
  layer_belongs (RankLoop e r i a) v h s o at k w low g = among_belongs a v h (at + 1) ((at, s) ∷ k) w (omega arith) (rank_loop_covered s at k e r i (map v a) o g.0) g
  layer_belongs _ v h s o at k w low g = g.1

  within : (s : Stmt) → Within s
  within s =
      ind-Stmt Within (λ x y e at k w low g.
      let r = roll-Stmt x in
      let q = out-roll-Stmt x ∙ sym e in
      subst (Belongs body) (sym (rest_is r r at k w ∙ ap (λ (d : Stmt-F Stmt). rest_layer d r at k w) q))
      (layer_belongs y (λ z. z.0) (λ z. z.1) r q at k w low g)) s

  pub rest_belongs : (w : ℕ) → Belongs body (rest_at body w)
  rest_belongs w =
      subst (λ (ss : List Stmt). Covers body ss 0 [] → Belongs body (rest_among ss 0 [] w)) (map-id body)
      (λ c. among_belongs body (λ (s : Stmt). s) within 0 [] w (omega arith) c (exit_is body)) (λ w low high. refl)
