-- What holds of each statement of a body, with its number, holds of each statement that is still to run from a place, and of
-- those in it.
use Rattle.std.proofs.Common.{◌≡◌, ℕ, suc, ◌+◌, List, [], ◌∷◌, ◌++◌, map, length, refl, sym, ap, ◌∙◌, subst, arith, Some, map-id}
use Rattle.std.specs.Prelude.{slice_get, nat_lt, nat_eq}
use Rattle.civl_tree.specs.declared.stmt.Stmt.{Stmt, roll-Stmt, out-roll-Stmt, map-Stmt}
use Rattle.civl_tree.specs.declared.stmt.Stmt.TheOpen.{Stmt-F, If, While, YieldLoop, RankLoop}
use Rattle.civl_tree.specs.declared.stmt.Stmt.TheFolds.{ind-Stmt}
use Rattle.civl_tree.specs.Numbering.{size_of, sizes_of, numbered, inner_of, statements_of}
use Rattle.civl_tree.proofs.Numbers.{sizes_are_counts}
use Rattle.civl_tree.proofs.Preorder.{inner_layer, inner_is}
use Rattle.civl_tree.proofs.Bools.{either}
use Rattle.civl_tree.proofs.Lists.{get_front}
use Rattle.civl_meaning.specs.Rest.{Rest, rest_inside, rest_among, rest_at}
use Rattle.civl_meaning.proofs.Rests.{rest_layer, rest_is, among_rest, rest_none}
use Rattle.civl_conditions.proofs.paths.Heading.{counted}

-- behind these elements
right_at : (xs ys : List Stmt) (j : ℕ) (s : Stmt) → slice_get ys j ≡ Some s → (i : ℕ) × (i ≡ length xs + j) × (slice_get (xs ++ ys) i ≡ Some s)
right_at [] ys j s e = (j, omega arith, e)
right_at (x ∷ xs) ys j s e = let r = right_at xs ys j s e in let place = r.1 in (suc r.0, omega arith, r.2)

module _ (Holds : ℕ → Stmt → Type 0) where
  -- of each of these, which have the numbers from this one on
  abbrev pub Each : ℕ → List Stmt → Type 0
  Each at ss = (j n : ℕ) (s : Stmt) → n ≡ at + j → slice_get ss j ≡ Some s → Holds n s

  pub each_left : (at : ℕ) (xs ys : List Stmt) → Each at (xs ++ ys) → Each at xs
  each_left at xs ys h j n s e g = h j n s e (get_front xs ys j s g)

  pub each_right : (at next : ℕ) (xs ys : List Stmt) → next ≡ at + length xs → Each at (xs ++ ys) → Each next ys
  each_right at next xs ys f h j n s e g = let r = right_at xs ys j s g in let place = r.1 in h r.0 n s (omega arith) r.2

  -- the first of these with those in it, and the others
  pub each_first : (at : ℕ) (s : Stmt) (ss : List Stmt) → Each at (statements_of (s ∷ ss)) → Each at (s ∷ inner_of s)
  each_first at s ss h = each_left at (s ∷ inner_of s) (statements_of ss) h

  pub each_others : (at : ℕ) (s : Stmt) (ss : List Stmt) → Each at (statements_of (s ∷ ss)) → Each (at + size_of s) (statements_of ss)
  each_others at s ss h = let size = counted s in each_right at (at + size_of s) (s ∷ inner_of s) (statements_of ss) (omega arith) h

  -- the two branches of an `if`
  pub each_branch : (at : ℕ) (xs ys : List Stmt) → Each (at + 1) (statements_of xs ++ statements_of ys) → Each (at + 1) (statements_of xs)
  each_branch at xs ys h = each_left (at + 1) (statements_of xs) (statements_of ys) h

  pub each_else : (at : ℕ) (xs ys : List Stmt) → Each (at + 1) (statements_of xs ++ statements_of ys) → Each (at + 1 + sizes_of xs) (statements_of ys)
  each_else at xs ys h = let size = sizes_are_counts xs in each_right (at + 1) (at + 1 + sizes_of xs) (statements_of xs) (statements_of ys) (omega arith) h

  -- a statement, and those in it by its layer
  pub each_own : (at : ℕ) (s : Stmt) → Each at (s ∷ inner_of s) → Holds at s
  each_own at s h = h 0 at s (omega arith) refl

  pub each_of_layer : (at : ℕ) (s : Stmt) (d : Stmt-F Stmt) → inner_of s ≡ inner_layer d → Each at (s ∷ inner_of s) → Each (at + 1) (inner_layer d)
  each_of_layer at s d e h j n t f g = h (suc j) n t (omega arith) (ap (λ (l : List Stmt). slice_get l j) e ∙ g)

  -- each statement of a rest, and those in it
  abbrev pub EachIn : Rest → Type 0
  EachIn [] = Unit {0}
  EachIn (q ∷ k) = Each q.0 (q.1 ∷ inner_of q.1) × EachIn k

  pub each_numbered : (ss : List Stmt) (at : ℕ) (k : Rest) → Each at (statements_of ss) → EachIn k → EachIn (numbered at ss ++ k)
  each_numbered [] at k h b = b
  each_numbered (s ∷ ss) at k h b = (each_first at s ss h, each_numbered ss (at + size_of s) k (each_others at s ss h) b)

  -- ---- from any place on

  -- what is to be shown of a statement
  abbrev Within : Stmt → Type 0
  Within s = (at : ℕ) (k : Rest) (w : ℕ) → Each at (s ∷ inner_of s) → EachIn k → EachIn (rest_inside s s at k w)

  among_each : {S : Type 0} (ys : List S) (v : S → Stmt) → ((x : S) → Within (v x)) → (at : ℕ) (k : Rest) (w : ℕ) → Each at (statements_of (map v ys)) → EachIn k → EachIn (rest_among (map v ys) at k w)
  among_each [] v f at k w h b = subst EachIn (sym (rest_none at k w)) b
  among_each (y ∷ ys) v f at k w h b =
      let s = v y in
      let ss = map v ys in
      let others = each_others at s ss h in
      subst EachIn (sym (among_rest s ss at k w))
      (either EachIn (nat_lt w (at + size_of s)) _ _
      (either EachIn (nat_eq w at) _ _ (each_numbered (s ∷ ss) at k h b) (f y at (numbered (at + size_of s) ss ++ k) w (each_first at s ss h) (each_numbered ss (at + size_of s) k others b)))
      (among_each ys v f (at + size_of s) k w others b))

  layer_each : {S : Type 0} (d : Stmt-F S) (v : S → Stmt) → ((x : S) → Within (v x)) → (s : Stmt) (at : ℕ) (k : Rest) (w : ℕ) → Each at (s ∷ inner_of s) → Each (at + 1) (inner_layer (map-Stmt S Stmt v d)) → EachIn k → EachIn (rest_layer (map-Stmt S Stmt v d) s at k w)
  layer_each (If e x y) v f s at k w own h b =
      either EachIn (nat_lt w (at + 1 + sizes_of (map v x))) _ _
      (among_each x v f (at + 1) k w (each_branch at (map v x) (map v y) h) b)
      (among_each y v f (at + 1 + sizes_of (map v x)) k w (each_else at (map v x) (map v y) h) b)
  layer_each (While e x) v f s at k w own h b = among_each x v f (at + 1) ((at, s) ∷ k) w h (own, b)
  layer_each (YieldLoop e i x) v f s at k w own h b = among_each x v f (at + 1) ((at, s) ∷ k) w h (own, b)
  layer_each (RankLoop e r i x) v f s at k w own h b = among_each x v f (at + 1) ((at, s) ∷ k) w h (own, b)
  layer_each _ v f s at k w own h b = b

  within : (s : Stmt) → Within s
  within s =
      ind-Stmt Within (λ x y e at k w h b.
      let r = roll-Stmt x in
      let q = out-roll-Stmt x ∙ sym e in
      subst EachIn (sym (rest_is r r at k w ∙ ap (λ (d : Stmt-F Stmt). rest_layer d r at k w) q))
      (layer_each y (λ z. z.0) (λ z. z.1) r at k w h (each_of_layer at r _ (inner_is r ∙ ap inner_layer q) h) b)) s

  pub rest_each : (body : List Stmt) (w : ℕ) → Each 0 (statements_of body) → EachIn (rest_at body w)
  rest_each body w =
      subst (λ (ss : List Stmt). Each 0 (statements_of ss) → EachIn (rest_among ss 0 [] w)) (map-id body)
      (λ h. among_each body (λ (s : Stmt). s) within 0 [] w h tt)
