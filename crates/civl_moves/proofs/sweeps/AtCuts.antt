-- Each end of the paths from a cut is a cut.
use Rattle.std.specs.Prelude.{if◌then◌else◌, nat_eq, slice_get, take, not, ◌&&◌}
use Rattle.std.specs.List.{Contains}
use Rattle.std.proofs.Common.{◌≡◌, ◌∙◌, ℕ, zero, suc, ◌+◌, ◌<◌, Bool, true, false, List, [], ◌∷◌, ◌++◌, length, map, inl, inr, refl, sym, ap, subst, arith, Option, None, Some, append-nil}
use Rattle.std.proofs.lemmas.Bool.{eq-eqb, ne_eqb, eqb-true}
use Rattle.std.proofs.lemmas.List.Elements.{Contains-append_cases}
use Rattle.std.proofs.lemmas.Option.{none-some, slice_get_within}
use Rattle.civl_tree.specs.declared.stmt.Stmt.{Stmt, out-Stmt, roll-Stmt, out-roll-Stmt, map-Stmt}
use Rattle.civl_tree.specs.declared.stmt.Stmt.TheOpen as stmt
use Rattle.civl_tree.specs.declared.stmt.Stmt.TheFolds.{ind-Stmt}
use Rattle.civl_tree.specs.declared.program.Proc.{Proc}
use Rattle.civl_tree.specs.declared.program.Refines.{Refines}
use Rattle.civl_tree.specs.Numbering.{size_of, sizes_of, numbered, inner_of, statements_of, statement_at}
use Rattle.civl_tree.proofs.Pairs.{contains_nil, contains_cons}
use Rattle.civl_tree.proofs.Preorder.{inner_layer, inner_is}
use Rattle.civl_meaning.specs.Rest.{Rest, rest_at}
use Rattle.civl_layers.specs.declared.cut.Cut.{Cut}
use Rattle.civl_layers.specs.declared.cut.CutKind.{CutKind}
use Rattle.civl_layers.specs.declared.cut.CutKind.TheVariants as kind
use Rattle.civl_layers.specs.Cuts.{form_cut, cut_kind, cut_at, cuts_among, entry_cut, cuts_below, proc_cuts}
use Rattle.civl_conditions.specs.paths.Flows.{Flow, flow_then, flow, flow_all, flow_loop, flow_layer, flow_rest, flow_kind, flow_from}
use Rattle.civl_conditions.specs.paths.Ends.{is_entry}
use Rattle.civl_conditions.proofs.paths.Passing.{flow_of_layer, flow_is, flow_none, flow_more}
use Rattle.civl_conditions.proofs.paths.Each.{Each, EachIn, each_first, each_others, each_branch, each_else, each_of_layer, each_own, each_numbered, rest_each}
use Rattle.civl_moves.specs.sweeps.Flowing.{is_statement, EndsAreCuts}

module _ (body : List Stmt) where
  -- the statement with this number is a cut
  record IsCutAt (n : ℕ) : Type 0 where
    stmt : Stmt
    kind : CutKind
    there : statement_at body n ≡ Some stmt
    of_kind : cut_kind stmt ≡ Some kind

  abbrev Holds : ℕ → Stmt → Type 0
  Holds n s = statement_at body n ≡ Some s

  abbrev EachCut : List ℕ → Type 0
  EachCut ends = (n : ℕ) → Contains ends n → IsCutAt n

  none_cut : EachCut []
  none_cut n a = absurd (contains_nil n a)

  one_cut : (at : ℕ) → IsCutAt at → EachCut (at ∷ [])
  one_cut at h n a = elim (contains_cons at [] n a) [ inl e ↦ subst IsCutAt e h | inr there ↦ none_cut n there ]

  both_cut : (xs ys : List ℕ) → EachCut xs → EachCut ys → EachCut (xs ++ ys)
  both_cut xs ys h k n a = elim (Contains-append_cases xs ys n a) [ inl here ↦ h n here | inr there ↦ k n there ]

  by_flow : (f g : Flow) → f ≡ g → EachCut f.ends → EachCut g.ends
  by_flow f g e h = subst (λ (f : Flow). EachCut f.ends) e h

  then_cut : (f g : Flow) → EachCut f.ends → EachCut g.ends → EachCut (flow_then f g).ends
  then_cut f g h k = by_onward f.onward
    where
      by_onward : (b : Bool) → EachCut (if b then record { passed = f.passed ++ g.passed; ends = f.ends ++ g.ends; onward = g.onward } else f).ends
      by_onward true = both_cut f.ends g.ends h k
      by_onward false = h

  -- ---- statements

  abbrev Cuts : Stmt → Type 0
  Cuts s = (at : ℕ) → Each Holds at (s ∷ inner_of s) → EachCut (flow s s at).ends

  more_cut : (at : ℕ) (s : Stmt) (k : Rest) → EachCut (flow s s at).ends → EachCut (flow_all k).ends → EachCut (flow_all ((at, s) ∷ k)).ends
  more_cut at s k h g = by_flow _ _ (sym (flow_more at s k)) (then_cut (flow s s at) (flow_all k) h g)

  nothing_cut : EachCut (flow_all []).ends
  nothing_cut = by_flow _ _ (sym flow_none) none_cut

  all_cut : {S : Type 0} (ys : List S) (v : S → Stmt) → ((x : S) → Cuts (v x)) → (at : ℕ) → Each Holds at (statements_of (map v ys)) → EachCut (flow_all (numbered at (map v ys))).ends
  all_cut [] v f at h = nothing_cut
  all_cut (y ∷ ys) v f at h =
      more_cut at (v y) (numbered (at + size_of (v y)) (map v ys)) (f y at (each_first Holds at (v y) (map v ys) h)) (all_cut ys v f (at + size_of (v y)) (each_others Holds at (v y) (map v ys) h))

  layer_cut : {S : Type 0} (d : stmt.Stmt-F S) (v : S → Stmt) → ((x : S) → Cuts (v x)) → (s : Stmt) (at : ℕ) → out-Stmt s ≡ map-Stmt S Stmt v d → Holds at s → Each Holds (at + 1) (inner_layer (map-Stmt S Stmt v d)) → EachCut (flow_of_layer (map-Stmt S Stmt v d) s at).ends
  layer_cut (stmt.If e x y) v f s at q own h =
      both_cut _ _
      (all_cut x v f (at + 1) (each_branch Holds at (map v x) (map v y) h))
      (all_cut y v f (at + 1 + sizes_of (map v x)) (each_else Holds at (map v x) (map v y) h))
  layer_cut (stmt.YieldLoop e i x) v f s at q own h = one_cut at (record { stmt = s; kind = kind.YieldLoop; there = own; of_kind = ap form_cut q })
  layer_cut (stmt.RankLoop e r i x) v f s at q own h = one_cut at (record { stmt = s; kind = kind.RankLoop; there = own; of_kind = ap form_cut q })
  layer_cut (stmt.Yield i) v f s at q own h = one_cut at (record { stmt = s; kind = kind.Yield; there = own; of_kind = ap form_cut q })
  layer_cut _ v f s at q own h = none_cut

  stmt_cut : (s : Stmt) → Cuts s
  stmt_cut s =
      ind-Stmt Cuts (λ x y e at h.
      let r = roll-Stmt x in
      let d = out-roll-Stmt x ∙ sym e in
      by_flow _ _ (sym (flow_is r r at ∙ ap (λ (d : stmt.Stmt-F Stmt). flow_of_layer d r at) d))
      (layer_cut y (λ z. z.0) (λ z. z.1) r at d (each_own Holds at r h) (each_of_layer Holds at r _ (inner_is r ∙ ap inner_layer d) h))) s

  rest_cut : (k : Rest) → EachIn Holds k → EachCut (flow_all k).ends
  rest_cut [] h = nothing_cut
  rest_cut (q ∷ k) h = more_cut q.0 q.1 k (stmt_cut q.1 q.0 h.0) (rest_cut k h.1)

  -- ---- from a cut

  loop_cut : (ss : List Stmt) (q : ℕ × Stmt) (k : Rest) → Each Holds (q.0 + 1) (statements_of ss) → EachIn Holds (q ∷ k) → EachCut (flow_loop ss (q ∷ k)).ends
  loop_cut ss q k h each = both_cut _ _ (rest_cut (numbered (q.0 + 1) ss ++ q ∷ k) (each_numbered Holds ss (q.0 + 1) (q ∷ k) h each)) (rest_cut k each.1)

  from_layer_cut : (d : stmt.Stmt-F Stmt) (q : ℕ × Stmt) (k : Rest) → Each Holds (q.0 + 1) (inner_layer d) → EachIn Holds (q ∷ k) → EachCut (flow_layer d (q ∷ k)).ends
  unfolding flow_layer
  from_layer_cut (stmt.YieldLoop e i ss) q k h each = loop_cut ss q k h each
  from_layer_cut (stmt.RankLoop e r i ss) q k h each = loop_cut ss q k h each
  from_layer_cut _ q k h each = rest_cut k each.1

  from_rest_cut : (k : Rest) → EachIn Holds k → EachCut (flow_rest k).ends
  from_rest_cut [] each = none_cut
  from_rest_cut (q ∷ k) each = from_layer_cut (out-Stmt q.1) q k (each_of_layer Holds q.0 q.1 (out-Stmt q.1) (inner_is q.1) each.0) each

  from_kind_cut : (kind : CutKind) (number : ℕ) → Each Holds 0 (statements_of body) → EachCut (flow_kind body number kind).ends
  from_kind_cut kind.Entry number h =
      rest_cut (numbered 0 body) (subst (EachIn Holds) (append-nil (numbered 0 body)) (each_numbered Holds body 0 [] h tt))
  from_kind_cut kind.Yield number h = from_rest_cut (rest_at body number) (rest_each Holds body number h)
  from_kind_cut kind.YieldLoop number h = from_rest_cut (rest_at body number) (rest_each Holds body number h)
  from_kind_cut kind.RankLoop number h = from_rest_cut (rest_at body number) (rest_each Holds body number h)

  each_at : Each Holds 0 (statements_of body)
  each_at j n s e g = let same : n ≡ j = omega (arith, e) in ap (statement_at body) same ∙ g

-- an end is a cut
ends_cut : (proc : Proc) (cut : Cut) (n : ℕ) → Contains (flow_from proc cut).ends n → IsCutAt proc.body n
unfolding flow_from
ends_cut proc cut n a = from_kind_cut proc.body cut.kind cut.statement (each_at proc.body) n a

-- ---- the cut with a number

no_entry : (d : stmt.Stmt-F Stmt) (k : CutKind) → form_cut d ≡ Some k → is_entry k ≡ false
no_entry (stmt.YieldLoop e i a) k h = sym (ap (λ (o : Option CutKind). is_entry (kind_in o)) h)
  where
    kind_in : Option CutKind → CutKind
    kind_in None = k
    kind_in (Some x) = x
no_entry (stmt.RankLoop e r i a) k h = sym (ap (λ (o : Option CutKind). is_entry (kind_in o)) h)
  where
    kind_in : Option CutKind → CutKind
    kind_in None = k
    kind_in (Some x) = x
no_entry (stmt.Yield i) k h = sym (ap (λ (o : Option CutKind). is_entry (kind_in o)) h)
  where
    kind_in : Option CutKind → CutKind
    kind_in None = k
    kind_in (Some x) = x
no_entry _ k h = absurd (none-some k h)

abbrev place : ℕ → List Stmt → ℕ → ℕ
place at ss n = length (cuts_among at (take n ss))

-- the statement at this place is a cut: then the cut with that number is it
found_cut : (at n : ℕ) (ss : List Stmt) (t : Stmt) (k : CutKind) → slice_get ss n ≡ Some t → cut_kind t ≡ Some k → slice_get (cuts_among at ss) (place at ss n) ≡ Some (record { statement = at + n; kind = k })
unfolding cuts_among
found_cut at n [] t k e o = absurd (none-some t e)
found_cut at zero (s ∷ ss) t k e o =
    let same : s ≡ t = cc in
    let kind : cut_kind s ≡ Some k = ap cut_kind same ∙ o in
    ap (λ (x : Option CutKind). slice_get (cut_at at x ++ cuts_among (at + 1) ss) 0) kind ∙ ap (λ (m : ℕ). Some (record { statement = m; kind = k })) (omega arith)
found_cut at (suc n) (s ∷ ss) t k e o =
    by_kind (cut_kind s) (found_cut (at + 1) n ss t k e o) ∙ ap (λ (m : ℕ). Some (record { statement = m; kind = k })) (omega arith)
  where
    by_kind : (x : Option CutKind) → slice_get (cuts_among (at + 1) ss) (place (at + 1) ss n) ≡ Some (record { statement = at + 1 + n; kind = k })
        → slice_get (cut_at at x ++ cuts_among (at + 1) ss) (length (cut_at at x ++ cuts_among (at + 1) (take n ss))) ≡ Some (record { statement = at + 1 + n; kind = k })
    by_kind None h = h
    by_kind (Some x) h = h

-- a cut among these is a statement, and the cuts before it are those of the statements before
record Found (at i : ℕ) (ss : List Stmt) (cut : Cut) : Type 0 where
  number : ℕ
  is : cut.statement ≡ at + number
  counts : i ≡ place at ss number
  no_entry : is_entry cut.kind ≡ false

where_cut : (at i : ℕ) (ss : List Stmt) (cut : Cut) → slice_get (cuts_among at ss) i ≡ Some cut → Found at i ss cut
unfolding cuts_among
where_cut at i [] cut e = absurd (none-some cut e)
where_cut at i (s ∷ ss) cut e = by_kind (cut_kind s) refl i (λ j f. where_cut (at + 1) j ss cut f) e
  where
    by_kind : (x : Option CutKind) → cut_kind s ≡ x → (i : ℕ) → ((j : ℕ) → slice_get (cuts_among (at + 1) ss) j ≡ Some cut → Found (at + 1) j ss cut) → slice_get (cut_at at x ++ cuts_among (at + 1) ss) i ≡ Some cut → Found at i (s ∷ ss) cut
    by_kind None k i later e =
        let f = later i e in
        record { number = suc f.number; is = omega (arith, f.is); counts = f.counts ∙ sym (ap (λ (x : Option CutKind). length (cut_at at x ++ cuts_among (at + 1) (take f.number ss))) k); no_entry = f.no_entry }
    by_kind (Some kind) k zero later e =
        let same : record { statement = at; kind = kind } ≡ cut = cc in
        record { number = 0; is = sym (ap (λ (cut : Cut). cut.statement) same) ∙ omega arith; counts = refl; no_entry = ap (λ (cut : Cut). is_entry cut.kind) (sym same) ∙ no_entry (out-Stmt s) kind k }
    by_kind (Some kind) k (suc i) later e =
        let f = later i e in
        record { number = suc f.number; is = omega (arith, f.is); counts = ap suc f.counts ∙ sym (ap (λ (x : Option CutKind). length (cut_at at x ++ cuts_among (at + 1) (take f.number ss))) k); no_entry = f.no_entry }

-- ---- of a procedure that refines an action

module _ (ss : List Stmt) (n : ℕ) (t : Stmt) (k : CutKind) (there : slice_get ss n ≡ Some t) (of_kind : cut_kind t ≡ Some k) where
  same_place : (i : ℕ) (cut : Cut) → slice_get (entry_cut ∷ cuts_among 0 ss) i ≡ Some cut → is_statement n cut ≡ nat_eq i (1 + place 0 ss n)
  same_place zero cut e =
      let same : entry_cut ≡ cut = cc in
      ap (is_statement n) (sym same) ∙ sym (ne_eqb 0 (1 + place 0 ss n) (λ f. absurd (omega (arith, f))))
  same_place (suc i) cut e =
      let f = where_cut 0 i ss cut e in
      let found = found_cut 0 n ss t k there of_kind in
      let free : (not (is_entry cut.kind) && nat_eq n cut.statement) ≡ nat_eq n cut.statement = ap (λ (b : Bool). not b && nat_eq n cut.statement) f.no_entry in
      free ∙ by_test (nat_eq n cut.statement) (nat_eq (suc i) (1 + place 0 ss n)) refl refl
      (λ h. let m : n ≡ f.number = omega (arith, eqb-true n cut.statement h, f.is) in eq-eqb (suc i) (1 + place 0 ss n) (ap suc (f.counts ∙ ap (place 0 ss) (sym m)) ∙ omega arith))
      (λ h. let m : i ≡ place 0 ss n = omega (arith, eqb-true (suc i) (1 + place 0 ss n) h) in
      let same : Some cut ≡ Some (record { statement = 0 + n; kind = k }) = sym e ∙ ap (slice_get (cuts_among 0 ss)) m ∙ found in
      eq-eqb n cut.statement (omega (arith, statement_of cut (record { statement = 0 + n; kind = k }) same)))
    where
      statement_of : (a b : Cut) → Some a ≡ Some b → a.statement ≡ b.statement
      statement_of a b q = let same : a ≡ b = cc in ap (λ (c : Cut). c.statement) same

      by_test : (a b : Bool) → nat_eq n cut.statement ≡ a → nat_eq (suc i) (1 + place 0 ss n) ≡ b → (nat_eq n cut.statement ≡ true → nat_eq (suc i) (1 + place 0 ss n) ≡ true) → (nat_eq (suc i) (1 + place 0 ss n) ≡ true → nat_eq n cut.statement ≡ true) → nat_eq n cut.statement ≡ nat_eq (suc i) (1 + place 0 ss n)
      by_test true b p q f g = p ∙ sym (f p)
      by_test false true p q f g = g q ∙ sym q
      by_test false false p q f g = p ∙ sym q

  before_exit : 1 + place 0 ss n < length (entry_cut ∷ cuts_among 0 ss)
  before_exit = let l = slice_get_within (cuts_among 0 ss) (place 0 ss n) _ (found_cut 0 n ss t k there of_kind) in omega (arith, l)

cuts_are : (proc : Proc) (refines : Refines) → proc.refines ≡ Some refines → proc_cuts proc ≡ entry_cut ∷ cuts_among 0 (statements_of proc.body)
cuts_are proc refines some = ap (λ (o : Option Refines). cuts_below o proc.body) some

pub ends_are_cuts : EndsAreCuts
ends_are_cuts proc refines cut n some a =
    let c = ends_cut proc cut n a in
    let ss = statements_of proc.body in
    let l = before_exit ss n c.stmt c.kind c.there c.of_kind in (
      omega (arith, l, ap (length {A = Cut}) (cuts_are proc refines some)),
      λ i k e. same_place ss n c.stmt c.kind c.there c.of_kind i k (ap (λ (l : List Cut). slice_get l i) (sym (cuts_are proc refines some)) ∙ e),
    )
