-- A spot's statement has its number.
use Rattle.std.proofs.Common.{◌≡◌, ℕ, ◌+◌, Bool, true, false, List, [], ◌∷◌, ◌++◌, map, refl, sym, ap, ◌∙◌, subst, Option, Some, None, map-id}
use Rattle.std.specs.Prelude.{if◌then◌else◌, nat_lt, nat_eq, slice_get}
use Rattle.std.specs.List.{AllByRecursion}
use Rattle.std.proofs.lemmas.Option.{none-some, same_Some}
use Rattle.civl_tree.specs.declared.expr.Expr.{Expr}
use Rattle.civl_tree.specs.declared.program.Proc.{Proc}
use Rattle.civl_tree.specs.declared.stmt.Stmt.{Stmt, out-Stmt, roll-Stmt, roll-out-Stmt, out-roll-Stmt, map-Stmt, the_lemmas as of_stmt}
use Rattle.civl_tree.specs.declared.stmt.Stmt as whole
use Rattle.civl_tree.specs.declared.stmt.Stmt.TheOpen.{Stmt-F, If, While, YieldLoop, RankLoop}
use Rattle.civl_tree.specs.declared.stmt.Stmt.TheFolds.{ind-Stmt}
use Rattle.civl_tree.specs.Numbering.{size_of, sizes_of, numbered, statement_at}
use Rattle.civl_tree.specs.SpellingLaws.{AreNumberedIn}
use Rattle.civl_tree.proofs.Numbers.{body_statements_numbered, branches_are_numbered, loops_are_numbered}
use Rattle.civl_meaning.specs.declared.config.Plain.{Plain}
use Rattle.civl_meaning.specs.declared.config.State.{State}
use Rattle.civl_meaning.specs.declared.config.State.TheVariants as state
use Rattle.civl_meaning.specs.Places.{Spot, is_skipped, spot_at}
use Rattle.civl_meaning.specs.Rest.{Rest, place_in, head_of, rest_inside, rest_among, rest_at}
use Rattle.civl_meaning.proofs.Rests.{rest_layer, rest_is, among_rest, rest_none, spot_of_rest}
use Rattle.civl_history.specs.declared.stand.Stand.{Stand}
use Rattle.civl_history.specs.declared.stand.Stand.TheVariants as stand
use Rattle.civl_history.specs.Stands.{spot_in_proc, frame_stands, state_stands}
use Rattle.civl_history.specs.Laws.{IsStatement, StatementsStand}

-- ---- the parts of each form

is_if : (t : Stmt) (e : Expr) (a b : List Stmt) → out-Stmt t ≡ If e a b → t ≡ whole.If e a b
is_if t e a b o = let told : out-Stmt (whole.If e a b) ≡ If e a b = simp (of_stmt) in sym (roll-out-Stmt t) ∙ ap roll-Stmt (o ∙ sym told) ∙ roll-out-Stmt (whole.If e a b)

is_while : (t : Stmt) (e : Expr) (a : List Stmt) → out-Stmt t ≡ While e a → t ≡ whole.While e a
is_while t e a o = let told : out-Stmt (whole.While e a) ≡ While e a = simp (of_stmt) in sym (roll-out-Stmt t) ∙ ap roll-Stmt (o ∙ sym told) ∙ roll-out-Stmt (whole.While e a)

is_yield_loop : (t : Stmt) (e i : Expr) (a : List Stmt) → out-Stmt t ≡ YieldLoop e i a → t ≡ whole.YieldLoop e i a
is_yield_loop t e i a o = let told : out-Stmt (whole.YieldLoop e i a) ≡ YieldLoop e i a = simp (of_stmt) in sym (roll-out-Stmt t) ∙ ap roll-Stmt (o ∙ sym told) ∙ roll-out-Stmt (whole.YieldLoop e i a)

is_rank_loop : (t : Stmt) (e r i : Expr) (a : List Stmt) → out-Stmt t ≡ RankLoop e r i a → t ≡ whole.RankLoop e r i a
is_rank_loop t e r i a o = let told : out-Stmt (whole.RankLoop e r i a) ≡ RankLoop e r i a = simp (of_stmt) in sym (roll-out-Stmt t) ∙ ap roll-Stmt (o ∙ sym told) ∙ roll-out-Stmt (whole.RankLoop e r i a)

module _ (body : List Stmt) where
  abbrev Stands : ℕ × Stmt → Type 0
  Stands q = statement_at body q.0 ≡ Some q.1

  abbrev AllStand : Rest → Type 0
  AllStand rest = AllByRecursion Stands rest

  both : (x y : Rest) → AllStand x → AllStand y → AllStand (x ++ y)
  both [] y h k = k
  both (q ∷ x) y h k = (h.0, both x y h.1 k)

  in_if : (t : Stmt) (at : ℕ) (e : Expr) (a b : List Stmt) → out-Stmt t ≡ If e a b → statement_at body at ≡ Some t → AreNumberedIn body (at + 1) a × AreNumberedIn body (at + 1 + sizes_of a) b
  in_if t at e a b o h = branches_are_numbered body at e a b (h ∙ ap (λ (s : Stmt). Some s) (is_if t e a b o))

  in_while : (t : Stmt) (at : ℕ) (e : Expr) (a : List Stmt) → out-Stmt t ≡ While e a → statement_at body at ≡ Some t → AreNumberedIn body (at + 1) a
  in_while t at e a o h = (loops_are_numbered body at a).0 e (h ∙ ap (λ (s : Stmt). Some s) (is_while t e a o))

  in_yield_loop : (t : Stmt) (at : ℕ) (e i : Expr) (a : List Stmt) → out-Stmt t ≡ YieldLoop e i a → statement_at body at ≡ Some t → AreNumberedIn body (at + 1) a
  in_yield_loop t at e i a o h = (loops_are_numbered body at a).1 e i (h ∙ ap (λ (s : Stmt). Some s) (is_yield_loop t e i a o))

  in_rank_loop : (t : Stmt) (at : ℕ) (e r i : Expr) (a : List Stmt) → out-Stmt t ≡ RankLoop e r i a → statement_at body at ≡ Some t → AreNumberedIn body (at + 1) a
  in_rank_loop t at e r i a o h = (loops_are_numbered body at a).2 e r i (h ∙ ap (λ (s : Stmt). Some s) (is_rank_loop t e r i a o))

  -- ---- what is still to run

  abbrev Leaves : Stmt → Type 0
  Leaves s = (at : ℕ) (k : Rest) (w : ℕ) → statement_at body at ≡ Some s → AllStand k → AllStand (rest_inside s s at k w)

  choice : (b c : Bool) (x y z : Rest) → AllStand x → AllStand y → AllStand z → AllStand (if b then (if c then x else y) else z)
  choice true true x y z h i j = h
  choice true false x y z h i j = i
  choice false c x y z h i j = j

  choice2 : (b : Bool) (x y : Rest) → AllStand x → AllStand y → AllStand (if b then x else y)
  choice2 true x y h i = h
  choice2 false x y h i = i

  all_leave : {S : Type 0} (ys : List S) (v : S → Stmt) (h : (x : S) → Leaves (v x)) (at : ℕ) (k : Rest) (w : ℕ) → AreNumberedIn body at (map v ys) → AllStand k → AllStand (rest_among (map v ys) at k w)
  all_leave [] v h at k w n s = subst AllStand (sym (rest_none at k w)) s
  all_leave (y ∷ ys) v h at k w n s =
      subst AllStand (sym (among_rest (v y) (map v ys) at k w))
      (choice (nat_lt w (at + size_of (v y))) (nat_eq w at) _ _ _ (both (numbered at (map v (y ∷ ys))) k n s) (h y at (numbered (at + size_of (v y)) (map v ys) ++ k) w n.0 (both (numbered (at + size_of (v y)) (map v ys)) k n.1 s)) (all_leave ys v h (at + size_of (v y)) k w n.1 s))

  layer_leaves : {S : Type 0} (y : Stmt-F S) (v : S → Stmt) (h : (x : S) → Leaves (v x)) (t : Stmt) (at : ℕ) (k : Rest) (w : ℕ) → out-Stmt t ≡ map-Stmt S Stmt v y → statement_at body at ≡ Some t → AllStand k → AllStand (rest_layer (map-Stmt S Stmt v y) t at k w)
  layer_leaves (If e a b) v h t at k w o n s =
      let parts = in_if t at e (map v a) (map v b) o n in
      choice2 (nat_lt w (at + 1 + sizes_of (map v a))) _ _ (all_leave a v h (at + 1) k w parts.0 s) (all_leave b v h (at + 1 + sizes_of (map v a)) k w parts.1 s)
  layer_leaves (While e a) v h t at k w o n s = all_leave a v h (at + 1) ((at, t) ∷ k) w (in_while t at e (map v a) o n) (n, s)
  layer_leaves (YieldLoop e i a) v h t at k w o n s = all_leave a v h (at + 1) ((at, t) ∷ k) w (in_yield_loop t at e i (map v a) o n) (n, s)
  layer_leaves (RankLoop e r i a) v h t at k w o n s = all_leave a v h (at + 1) ((at, t) ∷ k) w (in_rank_loop t at e r i (map v a) o n) (n, s)
  layer_leaves _ v h t at k w o n s = s

  leaves : (s : Stmt) → Leaves s
  leaves s =
      ind-Stmt Leaves (λ x y e at k w n i.
      let r = roll-Stmt x in
      let q = out-roll-Stmt x ∙ sym e in
      subst AllStand (sym (rest_is r r at k w ∙ ap (λ (d : Stmt-F Stmt). rest_layer d r at k w) q)) (layer_leaves y (λ z. z.0) (λ z. z.1) r at k w q n i)) s

  rest_stands : (w : ℕ) → AllStand (rest_at body w)
  rest_stands w =
      subst (λ (ss : List Stmt). AreNumberedIn body 0 ss → AllStand (rest_among ss 0 [] w)) (map-id body) (λ n. all_leave body (λ (s : Stmt). s) leaves 0 [] w n tt) (body_statements_numbered body)

  -- ---- a spot

  pub record Stood (spot : Spot) : Type 0 where
    pub there : statement_at body spot.number ≡ Some spot.stmt
    pub plain_one : is_skipped spot.stmt ≡ false

  head_stood : (end : ℕ) (rest : Rest) (spot : Spot) → AllStand rest → head_of end rest ≡ Some spot → Stood spot
  head_stood end [] spot h e = absurd (none-some spot e)
  head_stood end (q ∷ rest) spot h e = by (head_stood end rest spot h.1) (is_skipped q.1) refl e
    where
      here : Spot
      here = record { number = q.0; stmt = q.1; next = place_in end rest }

      by : (head_of end rest ≡ Some spot → Stood spot) → (b : Bool) → is_skipped q.1 ≡ b → (if b then head_of end rest else Some here) ≡ Some spot → Stood spot
      by later true skipped e = later e
      by later false kept e = subst Stood (same_Some here spot e) (record { there = h.0; plain_one = kept })

  pub spot_stood : (wanted : ℕ) (spot : Spot) → spot_at body wanted ≡ Some spot → Stood spot
  spot_stood wanted spot e = head_stood (sizes_of body) (rest_at body wanted) spot (rest_stands wanted) (sym (spot_of_rest body wanted) ∙ e)

-- ---- a thread

pub is_statement : (plain : Plain) (procedure : ℕ) (proc : Proc) (wanted : ℕ) (spot : Spot) → slice_get plain.program.procs procedure ≡ Some proc → spot_at proc.body wanted ≡ Some spot → IsStatement plain procedure spot.number proc spot.stmt
is_statement plain procedure proc wanted spot there e =
    let stood = spot_stood proc.body wanted spot e in
    record { proc_there = there; there = stood.there; plain_one = stood.plain_one }

-- two stands before a statement are at one statement of one procedure
numbers_of : Stand → ℕ × ℕ
numbers_of (stand.Begins callee) = (0, 0)
numbers_of (stand.Before procedure number) = (procedure, number)
numbers_of (stand.Leaves procedure) = (0, 0)
numbers_of (stand.Ended callee) = (0, 0)

abbrev Found : Plain → ℕ → ℕ → Type 0
Found plain procedure number = (proc : Proc) × (statement : Stmt) × IsStatement plain procedure number proc statement

spot_found : (plain : Plain) (own : ℕ) (proc : Proc) (place : ℕ) (procedure number : ℕ) → slice_get plain.program.procs own ≡ Some proc → (spot : Option Spot) → spot_at proc.body place ≡ spot → frame_stands own spot ≡ stand.Before procedure number → Found plain procedure number
unfolding numbers_of
spot_found plain own proc place procedure number there None at e = absurd (cc)
spot_found plain own proc place procedure number there (Some spot) at e =
    let first : own ≡ procedure = ap (λ (s : Stand). (numbers_of s).0) e in
    let second : spot.number ≡ number = ap (λ (s : Stand). (numbers_of s).1) e in
    (proc, spot.stmt, subst (λ (n : ℕ). IsStatement plain n number proc spot.stmt) first (subst (λ (n : ℕ). IsStatement plain own n proc spot.stmt) second (is_statement plain own proc place spot there at)))

proc_found : (plain : Plain) (own place procedure number : ℕ) (proc : Option Proc) → slice_get plain.program.procs own ≡ proc → frame_stands own (spot_in_proc proc place) ≡ stand.Before procedure number → Found plain procedure number
proc_found plain own place procedure number None there e = absurd (cc)
proc_found plain own place procedure number (Some proc) there e = spot_found plain own proc place procedure number there (spot_at proc.body place) refl e

state_found : (plain : Plain) (callee : ℕ) (s : State) (procedure number : ℕ) → state_stands plain callee s ≡ stand.Before procedure number → Found plain procedure number
state_found plain callee state.Before procedure number e = absurd (cc)
state_found plain callee (state.Inside below top) procedure number e = proc_found plain top.procedure top.place procedure number (slice_get plain.program.procs top.procedure) refl e
state_found plain callee state.After procedure number e = absurd (cc)

pub statements_stand : StatementsStand
statements_stand plain thread procedure number e = state_found plain thread.callee thread.state procedure number e
