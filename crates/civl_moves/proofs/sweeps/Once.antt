-- No two ends of the paths from a cut have one number.
use Rattle.std.specs.Prelude.{nat_lt, nat_eq, if◌then◌else◌}
use Rattle.std.proofs.Common.{◌≡◌, ◌∙◌, ℕ, ◌+◌, ◌<◌, ◌≤◌, Bool, true, false, List, [], ◌∷◌, ◌++◌, map, inl, inr, refl, sym, ap, subst, arith, map-id}
use Rattle.std.proofs.lemmas.Bool.{lt-ltb, le-ltb, ne_eqb, cases_lt}
use Rattle.civl_tree.specs.declared.stmt.Stmt.{Stmt, out-Stmt, roll-Stmt, out-roll-Stmt, map-Stmt}
use Rattle.civl_tree.specs.declared.stmt.Stmt.TheOpen as stmt
use Rattle.civl_tree.specs.declared.stmt.Stmt.TheFolds.{ind-Stmt}
use Rattle.civl_tree.specs.Numbering.{size_step, size_of, sizes_of, numbered}
use Rattle.civl_tree.proofs.Numbers.{sizes_more}
use Rattle.civl_tree.proofs.Sizes.{size_is}
use Rattle.civl_tree.proofs.Bools.{either}
use Rattle.civl_meaning.specs.Rest.{Rest, rest_inside, rest_among, rest_at}
use Rattle.civl_meaning.proofs.Rests.{rest_layer, rest_is, among_rest, rest_none}
use Rattle.civl_layers.specs.declared.cut.CutKind.{CutKind}
use Rattle.civl_layers.specs.declared.cut.CutKind.TheVariants as kind
use Rattle.civl_conditions.specs.paths.Flows.{Flow, ended_flow, flow_then, flow, flow_all, flow_loop, flow_layer, flow_rest, flow_kind, flow_from}
use Rattle.civl_conditions.proofs.paths.Passing.{flow_of_layer, flow_is, flow_none, flow_more}
use Rattle.civl_conditions.proofs.paths.Following.{flow_append}
use Rattle.civl_moves.specs.sweeps.Flowing.{times, EndsComeOnce}

module _ (n : ℕ) where
  -- ---- 1 below a number, and 0 from it on

  abbrev below : ℕ → ℕ
  below b = if nat_lt n b then 1 else 0

  abbrev hit : ℕ → ℕ
  hit x = if nat_eq n x then 1 else 0

  below_yes : (b : ℕ) → n < b → below b ≡ 1
  below_yes b l = ap (λ (t : Bool). if t then 1 else 0) (lt-ltb n b l)

  below_not : (b : ℕ) → b ≤ n → below b ≡ 0
  below_not b l = ap (λ (t : Bool). if t then 1 else 0) (le-ltb n b l)

  hit_not : (x : ℕ) → (n ≡ x → ⊥) → hit x ≡ 0
  hit_not x e = ap (λ (t : Bool). if t then 1 else 0) (ne_eqb n x e)

  most : (t : Bool) → (if t then 1 else 0) ≤ 1
  most true = omega arith
  most false = omega arith

  below_rises : (a b : ℕ) → a ≤ b → below a ≤ below b
  below_rises a b l = elim (cases_lt n a) [
    | inl k ↦ let x = below_yes a k in let y = below_yes b (omega (arith, k, l)) in omega (arith, x, y)
    | inr g ↦ let x = below_not a g in omega (arith, x)
  ]

  hit_below : (x : ℕ) → hit x + below x ≤ below (x + 1)
  hit_below x = elim (cases_lt n x) [
    | inl l ↦ let a = hit_not x (λ e. absurd (omega (arith, e, l))) in let b = below_yes x l in let c = below_yes (x + 1) (omega (arith, l)) in omega (arith, a, b, c)
    | inr g ↦ let b = below_not x g in elim (cases_lt x n) [
      | inl l ↦ let a = hit_not x (λ e. absurd (omega (arith, e, l))) in omega (arith, a, b)
      | inr k ↦ let a = most (nat_eq n x) in let c = below_yes (x + 1) (omega (arith, k)) in omega (arith, a, b, c)
    ]
  ]

  times_append : (xs ys : List ℕ) → times n (xs ++ ys) ≡ times n xs + times n ys
  times_append [] ys = omega arith
  times_append (x ∷ xs) ys = let t = times_append xs ys in omega (arith, t)

  -- ---- statements

  then_times : (a b : Flow) → times n (flow_then a b).ends ≤ times n a.ends + times n b.ends
  then_times a b = by_onward a.onward
    where
      by_onward : (o : Bool) → times n (if o then record { passed = a.passed ++ b.passed; ends = a.ends ++ b.ends; onward = b.onward } else a).ends ≤ times n a.ends + times n b.ends
      by_onward true = let t = times_append a.ends b.ends in omega (arith, t)
      by_onward false = omega arith

  -- at most once, and only from its own number on and below the next
  abbrev Few : Stmt → Type 0
  Few s = (t : Stmt) (at : ℕ) → times n (flow s t at).ends + below at ≤ below (at + size_of s)

  more_times : (at : ℕ) (s : Stmt) (k : Rest) → times n (flow_all ((at, s) ∷ k)).ends ≤ times n (flow s s at).ends + times n (flow_all k).ends
  more_times at s k =
      let e = ap (λ (f : Flow). times n f.ends) (flow_more at s k) in
      let t = then_times (flow s s at) (flow_all k) in
      omega (arith, e, t)

  none_times : times n (flow_all []).ends ≡ 0
  none_times = ap (λ (f : Flow). times n f.ends) flow_none

  all_few : {S : Type 0} (ys : List S) (v : S → Stmt) → ((x : S) → Few (v x)) → (at : ℕ) → times n (flow_all (numbered at (map v ys))).ends + below at ≤ below (at + sizes_of (map v ys))
  all_few [] v f at =
      let e = none_times in
      let l = below_rises at (at + 0) (omega arith) in
      omega (arith, e, l)
  all_few (y ∷ ys) v f at =
      let s = v y in
      let one = f y s at in
      let others = all_few ys v f (at + size_of s) in
      let t = more_times at s (numbered (at + size_of s) (map v ys)) in
      let e : below (at + size_of s + sizes_of (map v ys)) ≡ below (at + sizes_of (map v (y ∷ ys))) = ap below (omega (arith, sizes_more s (map v ys))) in
      omega (arith, one, others, t, e)

  layer_few : {S : Type 0} (d : stmt.Stmt-F S) (v : S → Stmt) → ((x : S) → Few (v x)) → (t : Stmt) (at : ℕ) → times n (flow_of_layer (map-Stmt S Stmt v d) t at).ends + below at ≤ below (at + size_step (map-Stmt Stmt ℕ size_of (map-Stmt S Stmt v d)))
  layer_few (stmt.If e x y) v f t at =
      let a = map v x in
      let b = map v y in
      let first = all_few x v f (at + 1) in
      let second = all_few y v f (at + 1 + sizes_of a) in
      let both = times_append (flow_all (numbered (at + 1) a)).ends (flow_all (numbered (at + 1 + sizes_of a) b)).ends in
      let l = below_rises at (at + 1) (omega arith) in
      let e : below (at + 1 + sizes_of a + sizes_of b) ≡ below (at + (1 + sizes_of a + sizes_of b)) = ap below (omega arith) in
      omega (arith, first, second, both, l, e)
  layer_few (stmt.While e x) v f t at = let l = below_rises at (at + (1 + sizes_of (map v x))) (omega arith) in omega (arith, l)
  layer_few (stmt.YieldLoop e i x) v f t at =
      let h = hit_below at in
      let l = below_rises (at + 1) (at + (1 + sizes_of (map v x))) (omega arith) in
      omega (arith, h, l)
  layer_few (stmt.RankLoop e r i x) v f t at =
      let h = hit_below at in
      let l = below_rises (at + 1) (at + (1 + sizes_of (map v x))) (omega arith) in
      omega (arith, h, l)
  layer_few (stmt.Yield i) v f t at = let h = hit_below at in omega (arith, h)
  layer_few (stmt.Spawn g es) v f t at = let l = below_rises at (at + 1) (omega arith) in omega (arith, l)
  layer_few _ v f t at = let l = below_rises at (at + 1) (omega arith) in omega (arith, l)

  stmt_few : (s : Stmt) → Few s
  stmt_few s =
      ind-Stmt Few (λ x y e t at.
      let r = roll-Stmt x in
      let q = out-roll-Stmt x ∙ sym e in
      let sized : size_of r ≡ size_step (map-Stmt Stmt ℕ size_of (map-Stmt _ Stmt (λ z. z.0) y)) = size_is r ∙ ap (λ (d : stmt.Stmt-F Stmt). size_step (map-Stmt Stmt ℕ size_of d)) q in
      let flows = flow_is r t at ∙ ap (λ (d : stmt.Stmt-F Stmt). flow_of_layer d t at) q in
      subst (λ (m : ℕ). times n (flow r t at).ends + below at ≤ below (at + m)) (sym sized)
      (subst (λ (g : Flow). times n g.ends + below at ≤ below (at + size_step (map-Stmt Stmt ℕ size_of (map-Stmt _ Stmt (λ z. z.0) y)))) (sym flows) (layer_few y (λ z. z.0) (λ z. z.1) t at))) s

  body_few : (ss : List Stmt) (at : ℕ) → times n (flow_all (numbered at ss)).ends + below at ≤ below (at + sizes_of ss)
  body_few ss at = subst (λ (xs : List Stmt). times n (flow_all (numbered at xs)).ends + below at ≤ below (at + sizes_of xs)) (map-id ss) (all_few ss (λ (s : Stmt). s) stmt_few at)

  -- ---- what is still to run from a place

  abbrev own : ℕ × Stmt → ℕ
  own q = times n (flow q.1 q.1 q.0).ends

  abbrev room : Rest → ℕ
  room [] = 0
  room (q ∷ k) = own q + room k

  room_all : (k : Rest) → times n (flow_all k).ends ≤ room k
  room_all [] = let e = none_times in omega (arith, e)
  room_all (q ∷ k) =
      let t = more_times q.0 q.1 k in
      let r = room_all k in
      omega (arith, t, r)

  room_numbered : (ss : List Stmt) (at : ℕ) (k : Rest) → room (numbered at ss ++ k) + below at ≤ below (at + sizes_of ss) + room k
  room_numbered [] at k = let l = below_rises at (at + 0) (omega arith) in omega (arith, l)
  room_numbered (s ∷ ss) at k =
      let one = stmt_few s s at in
      let others = room_numbered ss (at + size_of s) k in
      let e : below (at + size_of s + sizes_of ss) ≡ below (at + sizes_of (s ∷ ss)) = ap below (omega (arith, sizes_more s ss)) in
      omega (arith, one, others, e)

  -- the first statement with all that is in it, and what is behind, come to one at most
  abbrev Room : Rest → Type 0
  Room [] = Unit {0}
  Room (q ∷ k) = below (q.0 + size_of q.1) + room k ≤ 1 + below q.0

  head_numbered : (ss : List Stmt) (at : ℕ) (k : Rest) → below (at + sizes_of ss) + room k ≤ 1 + below at → Room k → Room (numbered at ss ++ k)
  head_numbered [] at k h b = b
  head_numbered (s ∷ ss) at k h b =
      let others = room_numbered ss (at + size_of s) k in
      let e : below (at + size_of s + sizes_of ss) ≡ below (at + sizes_of (s ∷ ss)) = ap below (omega (arith, sizes_more s ss)) in
      omega (arith, others, h, e)

  abbrev Within : Stmt → Type 0
  Within s = (at : ℕ) (k : Rest) (w : ℕ) → below (at + size_of s) + room k ≤ 1 + below at → Room k → Room (rest_inside s s at k w)

  among_room : {S : Type 0} (ys : List S) (v : S → Stmt) → ((x : S) → Within (v x)) → (at : ℕ) (k : Rest) (w : ℕ) → below (at + sizes_of (map v ys)) + room k ≤ 1 + below at → Room k → Room (rest_among (map v ys) at k w)
  among_room [] v f at k w h b = subst Room (sym (rest_none at k w)) b
  among_room (y ∷ ys) v f at k w h b =
      let s = v y in
      let ss = map v ys in
      let e : below (at + size_of s + sizes_of ss) ≡ below (at + sizes_of (s ∷ ss)) = ap below (omega (arith, sizes_more s ss)) in
      let up = below_rises at (at + size_of s) (omega arith) in
      let behind : below (at + size_of s + sizes_of ss) + room k ≤ 1 + below (at + size_of s) = omega (arith, e, up, h) in
      let others = room_numbered ss (at + size_of s) k in
      subst Room (sym (among_rest s ss at k w))
      (either Room (nat_lt w (at + size_of s)) _ _
      (either Room (nat_eq w at) _ _ (head_numbered (s ∷ ss) at k h b) (f y at (numbered (at + size_of s) ss ++ k) w (omega (arith, others, e, h)) (head_numbered ss (at + size_of s) k behind b)))
      (among_room ys v f (at + size_of s) k w behind b))

  loop_room : {S : Type 0} (ys : List S) (v : S → Stmt) → ((x : S) → Within (v x)) → (s : Stmt) (at : ℕ) (k : Rest) (w : ℕ) → size_of s ≡ 1 + sizes_of (map v ys) → own (at, s) ≤ hit at → below (at + size_of s) + room k ≤ 1 + below at → Room (rest_among (map v ys) (at + 1) ((at, s) ∷ k) w)
  loop_room ys v f s at k w z o h =
      let e : below (at + 1 + sizes_of (map v ys)) ≡ below (at + size_of s) = ap below (omega (arith, z)) in
      let b = hit_below at in
      among_room ys v f (at + 1) ((at, s) ∷ k) w (omega (arith, e, b, o, h)) h

  layer_room : {S : Type 0} (d : stmt.Stmt-F S) (v : S → Stmt) → ((x : S) → Within (v x)) → (s : Stmt) (at : ℕ) (k : Rest) (w : ℕ) → out-Stmt s ≡ map-Stmt S Stmt v d → size_of s ≡ size_step (map-Stmt Stmt ℕ size_of (map-Stmt S Stmt v d)) → below (at + size_of s) + room k ≤ 1 + below at → Room k → Room (rest_layer (map-Stmt S Stmt v d) s at k w)
  layer_room (stmt.If e x y) v f s at k w q z h b =
      let a = map v x in
      let c = map v y in
      let l1 = below_rises at (at + 1) (omega arith) in
      let l2 = below_rises (at + 1) (at + 1 + sizes_of a) (omega arith) in
      let l3 = below_rises (at + 1 + sizes_of a) (at + 1 + sizes_of a + sizes_of c) (omega arith) in
      let e : below (at + 1 + sizes_of a + sizes_of c) ≡ below (at + size_of s) = ap below (omega (arith, z)) in
      either Room (nat_lt w (at + 1 + sizes_of a)) _ _
      (among_room x v f (at + 1) k w (omega (arith, l1, l2, l3, e, h)) b)
      (among_room y v f (at + 1 + sizes_of a) k w (omega (arith, l1, l2, l3, e, h)) b)
  layer_room (stmt.While e x) v f s at k w q z h b = loop_room x v f s at k w z (let o = ap (λ (g : Flow). times n g.ends) (flow_is s s at ∙ ap (λ (d : stmt.Stmt-F Stmt). flow_of_layer d s at) q) in omega (arith, o)) h
  layer_room (stmt.YieldLoop e i x) v f s at k w q z h b = loop_room x v f s at k w z (let o = ap (λ (g : Flow). times n g.ends) (flow_is s s at ∙ ap (λ (d : stmt.Stmt-F Stmt). flow_of_layer d s at) q) in omega (arith, o)) h
  layer_room (stmt.RankLoop e r i x) v f s at k w q z h b = loop_room x v f s at k w z (let o = ap (λ (g : Flow). times n g.ends) (flow_is s s at ∙ ap (λ (d : stmt.Stmt-F Stmt). flow_of_layer d s at) q) in omega (arith, o)) h
  layer_room _ v f s at k w q z h b = b

  within : (s : Stmt) → Within s
  within s =
      ind-Stmt Within (λ x y e at k w h b.
      let r = roll-Stmt x in
      let q = out-roll-Stmt x ∙ sym e in
      let sized : size_of r ≡ size_step (map-Stmt Stmt ℕ size_of (map-Stmt _ Stmt (λ z. z.0) y)) = size_is r ∙ ap (λ (d : stmt.Stmt-F Stmt). size_step (map-Stmt Stmt ℕ size_of d)) q in
      subst Room (sym (rest_is r r at k w ∙ ap (λ (d : stmt.Stmt-F Stmt). rest_layer d r at k w) q))
      (layer_room y (λ z. z.0) (λ z. z.1) r at k w q sized h b)) s

  rest_room : (body : List Stmt) (w : ℕ) → Room (rest_at body w)
  rest_room body w =
      let m = most (nat_lt n (0 + sizes_of body)) in
      subst (λ (ss : List Stmt). below (0 + sizes_of ss) ≤ 1 → Room (rest_among ss 0 [] w)) (map-id body) (λ h. among_room body (λ (s : Stmt). s) within 0 [] w (omega (arith, h)) tt) m

  -- ---- from a cut

  loop_once : (ss : List Stmt) (q : ℕ × Stmt) (k : Rest) → size_of q.1 ≡ 1 + sizes_of ss → flow q.1 q.1 q.0 ≡ ended_flow (q.0 ∷ []) → Room (q ∷ k) → times n (flow_loop ss (q ∷ k)).ends ≤ 1
  loop_once ss q k z o h =
      let body = numbered (q.0 + 1) ss in
      let whole = times_append (flow_all (body ++ q ∷ k)).ends (flow_all k).ends in
      let again = ap (λ (f : Flow). times n f.ends) (flow_append body (q ∷ k) ∙ ap (flow_then (flow_all body)) (flow_more q.0 q.1 k ∙ ap (λ (f : Flow). flow_then f (flow_all k)) o)) in
      let both = then_times (flow_all body) (ended_flow (q.0 ∷ [])) in
      let inside = body_few ss (q.0 + 1) in
      let b = hit_below q.0 in
      let e : below (q.0 + 1 + sizes_of ss) ≡ below (q.0 + size_of q.1) = ap below (omega (arith, z)) in
      let r = room_all k in
      omega (arith, whole, again, both, inside, b, e, r, h)

  plain_once : (q : ℕ × Stmt) (k : Rest) → Room (q ∷ k) → times n (flow_all k).ends ≤ 1
  plain_once q k h =
      let r = room_all k in
      let l = below_rises q.0 (q.0 + size_of q.1) (omega arith) in
      omega (arith, r, l, h)

  layer_once : (d : stmt.Stmt-F Stmt) (q : ℕ × Stmt) (k : Rest) → out-Stmt q.1 ≡ d → Room (q ∷ k) → times n (flow_layer d (q ∷ k)).ends ≤ 1
  unfolding flow_layer
  layer_once (stmt.YieldLoop e i ss) q k o h =
      loop_once ss q k (size_is q.1 ∙ ap (λ (d : stmt.Stmt-F Stmt). size_step (map-Stmt Stmt ℕ size_of d)) o) (flow_is q.1 q.1 q.0 ∙ ap (λ (d : stmt.Stmt-F Stmt). flow_of_layer d q.1 q.0) o) h
  layer_once (stmt.RankLoop e r i ss) q k o h =
      loop_once ss q k (size_is q.1 ∙ ap (λ (d : stmt.Stmt-F Stmt). size_step (map-Stmt Stmt ℕ size_of d)) o) (flow_is q.1 q.1 q.0 ∙ ap (λ (d : stmt.Stmt-F Stmt). flow_of_layer d q.1 q.0) o) h
  layer_once _ q k o h = plain_once q k h

  from_rest_once : (k : Rest) → Room k → times n (flow_rest k).ends ≤ 1
  from_rest_once [] h = omega arith
  from_rest_once (q ∷ k) h = layer_once (out-Stmt q.1) q k refl h

  from_kind_once : (body : List Stmt) (kind : CutKind) (number : ℕ) → times n (flow_kind body number kind).ends ≤ 1
  from_kind_once body kind.Entry number =
      let a = body_few body 0 in
      let m = most (nat_lt n (0 + sizes_of body)) in
      omega (arith, a, m)
  from_kind_once body kind.Yield number = from_rest_once (rest_at body number) (rest_room body number)
  from_kind_once body kind.YieldLoop number = from_rest_once (rest_at body number) (rest_room body number)
  from_kind_once body kind.RankLoop number = from_rest_once (rest_at body number) (rest_room body number)

pub ends_come_once : EndsComeOnce
unfolding flow_from
ends_come_once proc cut n = from_kind_once n proc.body cut.kind cut.statement
