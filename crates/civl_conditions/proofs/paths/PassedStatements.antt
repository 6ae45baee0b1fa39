-- The statements that paths pass stand in the body at their numbers.
use Rattle.std.proofs.Common.{◌≡◌, ℕ, ◌+◌, Bool, true, false, List, [], ◌∷◌, ◌++◌, map, refl, sym, ap, ap₂, ◌∙◌, subst, Option, Some, map-id}
use Rattle.std.specs.Prelude.{if◌then◌else◌, nat_lt, nat_eq}
use Rattle.std.specs.List.{AllByRecursion}
use Rattle.civl_tree.specs.declared.expr.Expr.{Expr}
use Rattle.civl_tree.specs.declared.program.Proc.{Proc}
use Rattle.civl_tree.specs.declared.stmt.Stmt.{Stmt, out-Stmt, roll-Stmt, roll-out-Stmt, out-roll-Stmt, map-Stmt, the_lemmas as of_stmt}
use Rattle.civl_tree.specs.declared.stmt.Stmt as whole
use Rattle.civl_tree.specs.declared.stmt.Stmt.TheOpen.{Stmt-F, If, While, YieldLoop, RankLoop, Yield, Spawn}
use Rattle.civl_tree.specs.declared.stmt.Stmt.TheFolds.{ind-Stmt}
use Rattle.civl_tree.specs.Numbering.{size_of, sizes_of, numbered, statement_at}
use Rattle.civl_tree.specs.SpellingLaws.{AreNumberedIn}
use Rattle.civl_tree.proofs.Numbers.{body_statements_numbered, branches_are_numbered, loops_are_numbered}
use Rattle.civl_meaning.specs.Rest.{Rest, rest_inside, rest_among, rest_at}
use Rattle.civl_meaning.proofs.Rests.{rest_layer, rest_is, among_rest, rest_none}
use Rattle.civl_layers.specs.declared.cut.Cut.{Cut}
use Rattle.civl_layers.specs.declared.cut.CutKind.{CutKind}
use Rattle.civl_layers.specs.declared.cut.CutKind.TheVariants as kind
use Rattle.civl_conditions.specs.paths.Flows.{Flow, flow_then, flow, flow_all, flow_loop, flow_layer, flow_rest, flow_kind, flow_from}
use Rattle.civl_conditions.specs.paths.Meets.{numbers_met, ArePassed}
use Rattle.civl_conditions.proofs.paths.Passing.{flow_of_layer, flow_is, flow_none, flow_more}

-- ---- the parts of each form

is_if : (t : Stmt) (e : Expr) (a b : List Stmt) → out-Stmt t ≡ If e a b → t ≡ whole.If e a b
is_if t e a b o = let told : out-Stmt (whole.If e a b) ≡ If e a b = simp (of_stmt) in sym (roll-out-Stmt t) ∙ ap roll-Stmt (o ∙ sym told) ∙ roll-out-Stmt (whole.If e a b)

is_while : (t : Stmt) (e : Expr) (a : List Stmt) → out-Stmt t ≡ While e a → t ≡ whole.While e a
is_while t e a o = let told : out-Stmt (whole.While e a) ≡ While e a = simp (of_stmt) in sym (roll-out-Stmt t) ∙ ap roll-Stmt (o ∙ sym told) ∙ roll-out-Stmt (whole.While e a)

is_yield_loop : (t : Stmt) (e i : Expr) (a : List Stmt) → out-Stmt t ≡ YieldLoop e i a → t ≡ whole.YieldLoop e i a
is_yield_loop t e i a o = let told : out-Stmt (whole.YieldLoop e i a) ≡ YieldLoop e i a = simp (of_stmt) in sym (roll-out-Stmt t) ∙ ap roll-Stmt (o ∙ sym told) ∙ roll-out-Stmt (whole.YieldLoop e i a)

is_rank_loop : (t : Stmt) (e r i : Expr) (a : List Stmt) → out-Stmt t ≡ RankLoop e r i a → t ≡ whole.RankLoop e r i a
is_rank_loop t e r i a o = let told : out-Stmt (whole.RankLoop e r i a) ≡ RankLoop e r i a = simp (of_stmt) in sym (roll-out-Stmt t) ∙ ap roll-Stmt (o ∙ sym told) ∙ roll-out-Stmt (whole.RankLoop e r i a)

module _ (body : List Stmt) where
  abbrev Stands : ℕ × Stmt → Type 0
  Stands q = statement_at body q.0 ≡ Some q.1

  abbrev AllStand : Rest → Type 0
  AllStand rest = AllByRecursion Stands rest

  both : (x y : Rest) → AllStand x → AllStand y → AllStand (x ++ y)
  both [] y h k = k
  both (q ∷ x) y h k = (h.0, both x y h.1 k)

  in_if : (t : Stmt) (at : ℕ) (e : Expr) (a b : List Stmt) → out-Stmt t ≡ If e a b → statement_at body at ≡ Some t → AreNumberedIn body (at + 1) a × AreNumberedIn body (at + 1 + sizes_of a) b
  in_if t at e a b o h = branches_are_numbered body at e a b (h ∙ ap (λ (s : Stmt). Some s) (is_if t e a b o))

  in_while : (t : Stmt) (at : ℕ) (e : Expr) (a : List Stmt) → out-Stmt t ≡ While e a → statement_at body at ≡ Some t → AreNumberedIn body (at + 1) a
  in_while t at e a o h = (loops_are_numbered body at a).0 e (h ∙ ap (λ (s : Stmt). Some s) (is_while t e a o))

  in_yield_loop : (t : Stmt) (at : ℕ) (e i : Expr) (a : List Stmt) → out-Stmt t ≡ YieldLoop e i a → statement_at body at ≡ Some t → AreNumberedIn body (at + 1) a
  in_yield_loop t at e i a o h = (loops_are_numbered body at a).1 e i (h ∙ ap (λ (s : Stmt). Some s) (is_yield_loop t e i a o))

  in_rank_loop : (t : Stmt) (at : ℕ) (e r i : Expr) (a : List Stmt) → out-Stmt t ≡ RankLoop e r i a → statement_at body at ≡ Some t → AreNumberedIn body (at + 1) a
  in_rank_loop t at e r i a o h = (loops_are_numbered body at a).2 e r i (h ∙ ap (λ (s : Stmt). Some s) (is_rank_loop t e r i a o))

  -- ---- what is still to run

  abbrev Leaves : Stmt → Type 0
  Leaves s = (at : ℕ) (k : Rest) (w : ℕ) → statement_at body at ≡ Some s → AllStand k → AllStand (rest_inside s s at k w)

  choice : (b c : Bool) (x y z : Rest) → AllStand x → AllStand y → AllStand z → AllStand (if b then (if c then x else y) else z)
  choice true true x y z h i j = h
  choice true false x y z h i j = i
  choice false c x y z h i j = j

  choice2 : (b : Bool) (x y : Rest) → AllStand x → AllStand y → AllStand (if b then x else y)
  choice2 true x y h i = h
  choice2 false x y h i = i

  all_leave : {S : Type 0} (ys : List S) (v : S → Stmt) (h : (x : S) → Leaves (v x)) (at : ℕ) (k : Rest) (w : ℕ) → AreNumberedIn body at (map v ys) → AllStand k → AllStand (rest_among (map v ys) at k w)
  all_leave [] v h at k w n s = subst AllStand (sym (rest_none at k w)) s
  all_leave (y ∷ ys) v h at k w n s =
      subst AllStand (sym (among_rest (v y) (map v ys) at k w))
      (choice (nat_lt w (at + size_of (v y))) (nat_eq w at) _ _ _ (both (numbered at (map v (y ∷ ys))) k n s) (h y at (numbered (at + size_of (v y)) (map v ys) ++ k) w n.0 (both (numbered (at + size_of (v y)) (map v ys)) k n.1 s)) (all_leave ys v h (at + size_of (v y)) k w n.1 s))

  layer_leaves : {S : Type 0} (y : Stmt-F S) (v : S → Stmt) (h : (x : S) → Leaves (v x)) (t : Stmt) (at : ℕ) (k : Rest) (w : ℕ) → out-Stmt t ≡ map-Stmt S Stmt v y → statement_at body at ≡ Some t → AllStand k → AllStand (rest_layer (map-Stmt S Stmt v y) t at k w)
  layer_leaves (If e a b) v h t at k w o n s =
      let parts = in_if t at e (map v a) (map v b) o n in
      choice2 (nat_lt w (at + 1 + sizes_of (map v a))) _ _ (all_leave a v h (at + 1) k w parts.0 s) (all_leave b v h (at + 1 + sizes_of (map v a)) k w parts.1 s)
  layer_leaves (While e a) v h t at k w o n s = all_leave a v h (at + 1) ((at, t) ∷ k) w (in_while t at e (map v a) o n) (n, s)
  layer_leaves (YieldLoop e i a) v h t at k w o n s = all_leave a v h (at + 1) ((at, t) ∷ k) w (in_yield_loop t at e i (map v a) o n) (n, s)
  layer_leaves (RankLoop e r i a) v h t at k w o n s = all_leave a v h (at + 1) ((at, t) ∷ k) w (in_rank_loop t at e r i (map v a) o n) (n, s)
  layer_leaves _ v h t at k w o n s = s

  leaves : (s : Stmt) → Leaves s
  leaves s =
      ind-Stmt Leaves (λ x y e at k w n i.
      let r = roll-Stmt x in
      let q = out-roll-Stmt x ∙ sym e in
      subst AllStand (sym (rest_is r r at k w ∙ ap (λ (d : Stmt-F Stmt). rest_layer d r at k w) q)) (layer_leaves y (λ z. z.0) (λ z. z.1) r at k w q n i)) s

  rest_stands : (w : ℕ) → AllStand (rest_at body w)
  rest_stands w =
      subst (λ (ss : List Stmt). AreNumberedIn body 0 ss → AllStand (rest_among ss 0 [] w)) (map-id body) (λ n. all_leave body (λ (s : Stmt). s) leaves 0 [] w n tt) (body_statements_numbered body)

  -- ---- what is passed

  then_cases : (p : Rest) (e : List ℕ) (x : Bool) (g : Flow) → AllStand p → AllStand g.passed → AllStand (flow_then (record { passed = p; ends = e; onward = x }) g).passed
  then_cases p e true g h k = both p g.passed h k
  then_cases p e false g h k = h

  then_stand : (f g : Flow) → AllStand f.passed → AllStand g.passed → AllStand (flow_then f g).passed
  then_stand f g h k = then_cases f.passed f.ends f.onward g h k

  abbrev Passes : Stmt → Type 0
  Passes s = (at : ℕ) → statement_at body at ≡ Some s → AllStand (flow s s at).passed

  all_pass : {S : Type 0} (ys : List S) (v : S → Stmt) (h : (x : S) → Passes (v x)) (at : ℕ) → AreNumberedIn body at (map v ys) → AllStand (flow_all (numbered at (map v ys))).passed
  all_pass [] v h at n = subst (λ (f : Flow). AllStand f.passed) (sym flow_none) tt
  all_pass (y ∷ ys) v h at n =
      let s = v y in
      let others = numbered (at + size_of s) (map v ys) in
      subst (λ (f : Flow). AllStand f.passed) (sym (flow_more at s others)) (then_stand (flow s s at) (flow_all others) (h y at n.0) (all_pass ys v h (at + size_of s) n.1))

  layer_passes : {S : Type 0} (y : Stmt-F S) (v : S → Stmt) (h : (x : S) → Passes (v x)) (t : Stmt) (at : ℕ) → out-Stmt t ≡ map-Stmt S Stmt v y → statement_at body at ≡ Some t → AllStand (flow_of_layer (map-Stmt S Stmt v y) t at).passed
  layer_passes (If e a b) v h t at o n =
      let parts = in_if t at e (map v a) (map v b) o n in
      (n, both _ _ (all_pass a v h (at + 1) parts.0) (all_pass b v h (at + 1 + sizes_of (map v a)) parts.1))
  layer_passes (While e a) v h t at o n = tt
  layer_passes (YieldLoop e i a) v h t at o n = tt
  layer_passes (RankLoop e r i a) v h t at o n = tt
  layer_passes (Yield i) v h t at o n = tt
  layer_passes (Spawn f es) v h t at o n = tt
  layer_passes _ v h t at o n = (n, tt)

  passes : (s : Stmt) → Passes s
  passes s =
      ind-Stmt Passes (λ x y e at n.
      let r = roll-Stmt x in
      let q = out-roll-Stmt x ∙ sym e in
      subst (λ (f : Flow). AllStand f.passed) (sym (flow_is r r at ∙ ap (λ (d : Stmt-F Stmt). flow_of_layer d r at) q)) (layer_passes y (λ z. z.0) (λ z. z.1) r at q n)) s

  rest_passes : (rest : Rest) → AllStand rest → AllStand (flow_all rest).passed
  rest_passes [] h = subst (λ (f : Flow). AllStand f.passed) (sym flow_none) tt
  rest_passes (q ∷ qs) h = subst (λ (f : Flow). AllStand f.passed) (sym (flow_more q.0 q.1 qs)) (then_stand (flow q.1 q.1 q.0) (flow_all qs) (passes q.1 q.0 h.0) (rest_passes qs h.1))

  loop_passes : (a : List Stmt) (q : ℕ × Stmt) (qs : Rest) → AreNumberedIn body (q.0 + 1) a → AllStand (q ∷ qs) → AllStand (flow_loop a (q ∷ qs)).passed
  loop_passes a q qs n h = (h.0, both _ _ (rest_passes (numbered (q.0 + 1) a ++ q ∷ qs) (both (numbered (q.0 + 1) a) (q ∷ qs) n h)) (rest_passes qs h.1))

  from_layer : (d : Stmt-F Stmt) (q : ℕ × Stmt) (qs : Rest) → out-Stmt q.1 ≡ d → AllStand (q ∷ qs) → AllStand (flow_layer d (q ∷ qs)).passed
  unfolding flow_layer
  from_layer (YieldLoop e i a) q qs o h = loop_passes a q qs (in_yield_loop q.1 q.0 e i a o h.0) h
  from_layer (RankLoop e r i a) q qs o h = loop_passes a q qs (in_rank_loop q.1 q.0 e r i a o h.0) h
  from_layer _ q qs o h = rest_passes qs h.1

  from_rest : (rest : Rest) → AllStand rest → AllStand (flow_rest rest).passed
  from_rest [] h = tt
  from_rest (q ∷ qs) h = from_layer (out-Stmt q.1) q qs refl h

  from_kind : (number : ℕ) (k : CutKind) → AllStand (flow_kind body number k).passed
  from_kind number kind.Entry = rest_passes (numbered 0 body) (body_statements_numbered body)
  from_kind number kind.Yield = from_rest (rest_at body number) (rest_stands number)
  from_kind number kind.YieldLoop = from_rest (rest_at body number) (rest_stands number)
  from_kind number kind.RankLoop = from_rest (rest_at body number) (rest_stands number)

  statements_same : (rest : Rest) → AllStand rest → map (statement_at body) (map (λ q. q.0) rest) ≡ map (λ q. Some q.1) rest
  statements_same [] h = refl
  statements_same (q ∷ rest) h = ap₂ (λ (s : Option Stmt) (ss : List (Option Stmt)). s ∷ ss) h.0 (statements_same rest h.1)

-- the statements with the numbers of what is passed
pub are_passed : (proc : Proc) (cut : Cut) → ArePassed proc (flow_from proc cut) (numbers_met (flow_from proc cut))
unfolding flow_from
are_passed proc cut = statements_same proc.body (flow_kind proc.body cut.statement cut.kind).passed (from_kind proc.body cut.statement cut.kind)
