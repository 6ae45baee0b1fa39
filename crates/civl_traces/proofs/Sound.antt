-- What holds of each turn, and so of each trace.
use Rattle.std.proofs.Common.{◌≡◌, ℕ, ◌+◌, Bool, true, false, List, [], ◌∷◌, ◌++◌, refl, sym, ap, ◌∙◌, subst, append-nil, None, Some, inl, inr}
use Rattle.std.specs.Prelude.{if◌then◌else◌}
use Rattle.std.specs.List.{Contains}
use Rattle.civl_tree.specs.declared.expr.Expr.{Expr}
use Rattle.civl_tree.specs.declared.stmt.Stmt.{Stmt, out-Stmt}
use Rattle.civl_tree.specs.declared.stmt.Stmt.TheOpen as stmt
use Rattle.civl_tree.specs.Numbering.{sizes_of, numbered, statements_of}
use Rattle.civl_tree.proofs.Pairs.{contains_nil, contains_cons}
use Rattle.civl_tree.proofs.Preorder.{inner_layer, inner_is}
use Rattle.civl_meaning.specs.declared.config.Change.{Change}
use Rattle.civl_meaning.specs.declared.config.Change.TheVariants.{Stays, Goes, Acts, Enters, Leaves, Spawns}
use Rattle.civl_meaning.specs.declared.config.Stepped.TheVariants as answer
use Rattle.civl_meaning.specs.Rest.{Rest, rest_at}
use Rattle.civl_meaning.specs.Change.{done_by, statement_doing}
use Rattle.civl_meaning.specs.Failing.{fails_at, answers_failing}
use Rattle.civl_meaning.proofs.Failures.{failing_is_done}
use Rattle.civl_layers.specs.declared.cut.Cut.{Cut}
use Rattle.civl_layers.specs.declared.cut.CutKind.{CutKind}
use Rattle.civl_layers.specs.declared.cut.CutKind.TheVariants as kind
use Rattle.civl_conditions.specs.paths.Paths.{Course, Progress, Outcome, Past, Comes, Fails, Stops, after, came, tested, pass, pass_all, from_loop, from_layer, from_rest, from_kind, path_from, progress_of}
use Rattle.civl_conditions.proofs.paths.Passing.{pass_layer, pass_is, pass_none, pass_more}
use Rattle.civl_conditions.proofs.paths.Going.{pass_joined}
use Rattle.civl_conditions.proofs.paths.Each.{Each, EachIn, each_branch, each_else, each_own, each_of_layer, each_numbered, rest_each}
use Rattle.civl_traces.specs.Traces.{Passed, trace_from}
use Rattle.civl_traces.specs.Turns.{Turn, Ends, Passes, turn, turn_by, turn_layer, loop_turn, cut_turn, rest_turn, first_turn, Follows}
use Rattle.civl_traces.specs.Laws.{TracesAreOfPaths, AreJoined, TracesAreJoined, condition, StandsInBody, PassedStandInBody, EndsSo, TracesEndSo}
use Rattle.civl_traces.proofs.Within.{Stands, body_stands}
use Rattle.civl_traces.proofs.Turning.{traces_are_chains}

module _ (c : Course) where
  abbrev AllStand : Rest → Type 0
  AllStand k = EachIn (Stands c.proc.body) k

  -- a turn from this state, on a path that comes to this outcome
  abbrev IsSound : Progress → Outcome → Turn → Type 0
  IsSound p all (Ends at o) = (o ≡ all) × (progress_of o ≡ p) × EndsSo c at o
  IsSound p all (Passes q rest) = (pass_all c rest q.behind ≡ all) × (q.before ≡ p) × StandsInBody c q × AllStand rest

  -- ---- a statement without a condition

  abbrev fails_there : Stmt → ℕ → Progress → Bool
  fails_there s n p = fails_at c.plain p.store (statement_doing c.plain c.proc p.locals n (n + 1) (out-Stmt s))

  -- what is asked of its outcome
  abbrev Fits : Stmt → ℕ → Progress → Outcome → Type 0
  Fits s n p (Past b) = condition (out-Stmt s) ≡ None
  Fits s n p (Comes m b) = (m ≡ n) × (b ≡ p)
  Fits s n p (Fails b) = (b ≡ p) × (fails_there s n p ≡ true)
  Fits s n p (Stops b) = b ≡ p

  by_outcome : (s : Stmt) (n : ℕ) (k : Rest) (p : Progress) → AllStand ((n, s) ∷ k) → (o : Outcome) → pass c s n p ≡ o → Fits s n p o → IsSound p (pass_all c ((n, s) ∷ k) p) (turn_by n p k o)
  by_outcome s n k p h (Past b) e f = (
    sym (pass_more c n s k p ∙ ap (λ (o : Outcome). after o (pass_all c k)) e),
    refl,
    (s, each_own (Stands c.proc.body) n s h.0, (f, e)),
    h.1,
  )
  by_outcome s n k p h (Comes m b) e f = (sym (pass_more c n s k p ∙ ap (λ (o : Outcome). after o (pass_all c k)) e), f.1, sym f.0)
  by_outcome s n k p h (Fails b) e f = (
    sym (pass_more c n s k p ∙ ap (λ (o : Outcome). after o (pass_all c k)) e),
    f.0,
    (s, each_own (Stands c.proc.body) n s h.0, subst (λ (p : Progress). fails_there s n p ≡ true) (sym f.0) f.1),
  )
  by_outcome s n k p h (Stops b) e f = (
    sym (pass_more c n s k p ∙ ap (λ (o : Outcome). after o (pass_all c k)) e),
    f,
    (s, each_own (Stands c.proc.body) n s h.0, ap (pass c s n) f ∙ e),
  )

  came_fits : (s : Stmt) (n : ℕ) (p : Progress) (change : Change) → condition (out-Stmt s) ≡ None → answers_failing change ≡ fails_there s n p → Fits s n p (came p change)
  came_fits s n p (Goes locals place) h e = h
  came_fits s n p (Acts store locals place) h e = h
  came_fits s n p (Stays answer.Failing) h e = (refl, sym e)
  came_fits s n p (Stays answer.Moved) h e = refl
  came_fits s n p (Stays answer.Blocked) h e = refl
  came_fits s n p (Stays answer.NoThread) h e = refl
  came_fits s n p (Stays answer.Ended) h e = refl
  came_fits s n p (Stays answer.BadChoices) h e = refl
  came_fits s n p (Enters frame place) h e = refl
  came_fits s n p (Leaves frame) h e = refl
  came_fits s n p (Spawns thread place) h e = refl

  step_fits : (s : Stmt) (n : ℕ) (p : Progress) (d : stmt.Stmt-F Stmt) → out-Stmt s ≡ d → condition d ≡ None → Fits s n p (came p (done_by c.plain p.store (c.chosen n) (statement_doing c.plain c.proc p.locals n (n + 1) d)))
  step_fits s n p d o h =
      let there = failing_is_done c.plain p.store (c.chosen n) (statement_doing c.plain c.proc p.locals n (n + 1) d) in
      came_fits s n p (done_by c.plain p.store (c.chosen n) (statement_doing c.plain c.proc p.locals n (n + 1) d)) (ap condition o ∙ h)
      (there ∙ ap (λ (d : stmt.Stmt-F Stmt). fails_at c.plain p.store (statement_doing c.plain c.proc p.locals n (n + 1) d)) (sym o))

  by_pass : (s : Stmt) (n : ℕ) (k : Rest) (p : Progress) → AllStand ((n, s) ∷ k) → (d : stmt.Stmt-F Stmt) → out-Stmt s ≡ d → Fits s n p (pass_layer c d n p) → IsSound p (pass_all c ((n, s) ∷ k) p) (turn_by n p k (pass c s n p))
  by_pass s n k p h d o f =
      let e : pass c s n p ≡ pass_layer c d n p = pass_is c s n p ∙ ap (λ (d : stmt.Stmt-F Stmt). pass_layer c d n p) o in
      subst (λ (o : Outcome). IsSound p (pass_all c ((n, s) ∷ k) p) (turn_by n p k o)) (sym e) (by_outcome s n k p h (pass_layer c d n p) e f)

  -- ---- an `if`

  branch_stands : (t : Bool) (n : ℕ) (a b : List Stmt) (k : Rest) → Each (Stands c.proc.body) (n + 1) (statements_of a ++ statements_of b) → AllStand k → AllStand ((if t then numbered (n + 1) a else numbered (n + 1 + sizes_of a) b) ++ k)
  branch_stands true n a b k h g = each_numbered (Stands c.proc.body) a (n + 1) k (each_branch (Stands c.proc.body) n a b h) g
  branch_stands false n a b k h g = each_numbered (Stands c.proc.body) b (n + 1 + sizes_of a) k (each_else (Stands c.proc.body) n a b h) g

  pass_branch : (t : Bool) (x y : Rest) (p : Progress) → pass_all c (if t then x else y) p ≡ (if t then pass_all c x p else pass_all c y p)
  pass_branch true x y p = refl
  pass_branch false x y p = refl

  by_if : (s : Stmt) (n : ℕ) (k : Rest) (p : Progress) → AllStand ((n, s) ∷ k) → (e : Expr) (a b : List Stmt) → out-Stmt s ≡ stmt.If e a b → IsSound p (pass_all c ((n, s) ∷ k) p) (turn_layer c (stmt.If e a b) s n k p)
  by_if s n k p h e a b o =
      let t = tested c e p in
      let x = numbered (n + 1) a in
      let y = numbered (n + 1 + sizes_of a) b in (
        pass_joined c (if t then x else y) k p
            ∙ ap (λ (o : Outcome). after o (pass_all c k)) (pass_branch t x y p ∙ sym (pass_is c s n p ∙ ap (λ (d : stmt.Stmt-F Stmt). pass_layer c d n p) o))
            ∙ sym (pass_more c n s k p),
        refl,
        (s, each_own (Stands c.proc.body) n s h.0, (e, ap condition o, refl, refl)),
        branch_stands t n a b k (each_of_layer (Stands c.proc.body) n s (stmt.If e a b) (inner_is s ∙ ap inner_layer o) h.0) h.1,
      )

  -- ---- a turn

  layer_sound : (s : Stmt) (n : ℕ) (k : Rest) (p : Progress) → AllStand ((n, s) ∷ k) → (d : stmt.Stmt-F Stmt) → out-Stmt s ≡ d → IsSound p (pass_all c ((n, s) ∷ k) p) (turn_layer c d s n k p)
  layer_sound s n k p h (stmt.If e a b) o = by_if s n k p h e a b o
  layer_sound s n k p h (stmt.While e a) o = by_pass s n k p h (stmt.While e a) o refl
  layer_sound s n k p h (stmt.YieldLoop e i a) o = by_pass s n k p h (stmt.YieldLoop e i a) o (refl, refl)
  layer_sound s n k p h (stmt.RankLoop e r i a) o = by_pass s n k p h (stmt.RankLoop e r i a) o (refl, refl)
  layer_sound s n k p h (stmt.Assign x e) o = by_pass s n k p h (stmt.Assign x e) o (step_fits s n p (stmt.Assign x e) o refl)
  layer_sound s n k p h (stmt.Assert e) o = by_pass s n k p h (stmt.Assert e) o (step_fits s n p (stmt.Assert e) o refl)
  layer_sound s n k p h (stmt.Call f es rs) o = by_pass s n k p h (stmt.Call f es rs) o (step_fits s n p (stmt.Call f es rs) o refl)
  layer_sound s n k p h (stmt.Yield i) o = by_pass s n k p h (stmt.Yield i) o (refl, refl)
  layer_sound s n k p h stmt.Commit o = by_pass s n k p h stmt.Commit o (ap condition o)
  layer_sound s n k p h (stmt.Intro x e) o = by_pass s n k p h (stmt.Intro x e) o (ap condition o)
  layer_sound s n k p h (stmt.Spawn f es) o = by_pass s n k p h (stmt.Spawn f es) o refl

  turn_sound : (r : Rest) → AllStand r → (p : Progress) → IsSound p (pass_all c r p) (turn c r p)
  turn_sound [] h p = (sym (pass_none c p), refl, refl)
  turn_sound (q ∷ k) h p = layer_sound q.1 q.0 k p h (out-Stmt q.1) refl

  -- ---- from a cut

  loop_sound : (e : Expr) (a : List Stmt) (s : Stmt) (n : ℕ) (k : Rest) (p : Progress) → condition (out-Stmt s) ≡ Some e → Each (Stands c.proc.body) (n + 1) (statements_of a) → AllStand ((n, s) ∷ k)
      → IsSound p (from_loop c e a ((n, s) ∷ k) p) (loop_turn c e a ((n, s) ∷ k) p)
  loop_sound e a s n k p o each h = (
    pass_branch (tested c e p) (numbered (n + 1) a ++ (n, s) ∷ k) k p,
    refl,
    (s, each_own (Stands c.proc.body) n s h.0, (e, o, refl, refl)),
    by_test (tested c e p),
  )
    where
      by_test : (t : Bool) → AllStand (if t then numbered (n + 1) a ++ (n, s) ∷ k else k)
      by_test true = each_numbered (Stands c.proc.body) a (n + 1) ((n, s) ∷ k) each h
      by_test false = h.1

  cut_sound : (s : Stmt) (n : ℕ) (k : Rest) (p : Progress) → AllStand ((n, s) ∷ k) → (d : stmt.Stmt-F Stmt) → out-Stmt s ≡ d → IsSound p (from_layer c d ((n, s) ∷ k) p) (cut_turn c d ((n, s) ∷ k) p)
  unfolding from_layer cut_turn
  cut_sound s n k p h (stmt.YieldLoop e i a) o = loop_sound e a s n k p (ap condition o) (each_of_layer (Stands c.proc.body) n s (stmt.YieldLoop e i a) (inner_is s ∙ ap inner_layer o) h.0) h
  cut_sound s n k p h (stmt.RankLoop e r i a) o = loop_sound e a s n k p (ap condition o) (each_of_layer (Stands c.proc.body) n s (stmt.RankLoop e r i a) (inner_is s ∙ ap inner_layer o) h.0) h
  cut_sound s n k p h _ o = turn_sound k h.1 p

  rest_sound : (r : Rest) → AllStand r → (p : Progress) → IsSound p (from_rest c r p) (rest_turn c r p)
  rest_sound [] h p = (refl, refl, refl)
  rest_sound (q ∷ k) h p = cut_sound q.1 q.0 k p h (out-Stmt q.1) refl

  all_stand : AllStand (numbered 0 c.proc.body)
  all_stand = subst AllStand (append-nil (numbered 0 c.proc.body)) (each_numbered (Stands c.proc.body) c.proc.body 0 [] (body_stands c.proc.body) tt)

  kind_sound : (n : ℕ) (cut : CutKind) (p : Progress) → IsSound p (from_kind c n cut p) (first_turn c n cut p)
  kind_sound n kind.Entry p = turn_sound (numbered 0 c.proc.body) all_stand p
  kind_sound n kind.Yield p = rest_sound (rest_at c.proc.body n) (rest_each (Stands c.proc.body) c.proc.body n (body_stands c.proc.body)) p
  kind_sound n kind.YieldLoop p = rest_sound (rest_at c.proc.body n) (rest_each (Stands c.proc.body) c.proc.body n (body_stands c.proc.body)) p
  kind_sound n kind.RankLoop p = rest_sound (rest_at c.proc.body n) (rest_each (Stands c.proc.body) c.proc.body n (body_stands c.proc.body)) p

  -- ---- a chain of them

  abbrev AllInBody : List Passed → Type 0
  AllInBody [] = Unit {0}
  AllInBody (q ∷ qs) = StandsInBody c q × AllInBody qs

  pub record IsTold (p : Progress) (all : Outcome) (qs : List Passed) (at : ℕ) (o : Outcome) : Type 0 where
    pub same : o ≡ all
    pub joined : AreJoined p qs (progress_of o)
    pub stand : AllInBody qs
    pub ends : EndsSo c at o

  chain_told : (first : Turn) (qs : List Passed) (at : ℕ) (o : Outcome) (p : Progress) (all : Outcome) → IsSound p all first → Follows c first qs at o → IsTold p all qs at o
  chain_told first [] at o p all h e =
      let s = subst (IsSound p all) e h in
      record { same = s.0; joined = sym s.1; stand = tt; ends = s.2 }
  chain_told first (q ∷ qs) at o p all h e =
      let s = subst (IsSound p all) e.1 h in
      let next = chain_told (turn c e.0 q.behind) qs at o q.behind (pass_all c e.0 q.behind) (turn_sound e.0 s.3 q.behind) e.2 in
      record { same = next.same ∙ s.0; joined = (s.1, next.joined); stand = (s.2, next.stand); ends = next.ends }

  pub trace_told : (cut : Cut) (p : Progress) → IsTold p (path_from c cut p) (trace_from c cut p).passed (trace_from c cut p).at (trace_from c cut p).outcome
  unfolding path_from
  trace_told cut p = chain_told (first_turn c cut.statement cut.kind p) _ _ _ p _ (kind_sound cut.statement cut.kind p) (traces_are_chains c cut p)

  each_in_body : (qs : List Passed) → AllInBody qs → (q : Passed) → Contains qs q → StandsInBody c q
  each_in_body [] h q a = absurd (contains_nil q a)
  each_in_body (x ∷ qs) h q a = elim (contains_cons x qs q a) [ inl e ↦ subst (StandsInBody c) e h.0 | inr there ↦ each_in_body qs h.1 q there ]

  pub passed_in_body : (cut : Cut) (p : Progress) (q : Passed) → Contains (trace_from c cut p).passed q → StandsInBody c q
  passed_in_body cut p q a = each_in_body (trace_from c cut p).passed (trace_told cut p).stand q a

pub traces_are_of_paths : TracesAreOfPaths
traces_are_of_paths c cut p = (trace_told c cut p).same

pub traces_are_joined : TracesAreJoined
traces_are_joined c cut p = (trace_told c cut p).joined

pub passed_stand_in_body : PassedStandInBody
passed_stand_in_body c cut p q a = passed_in_body c cut p q a

pub traces_end_so : TracesEndSo
traces_end_so c cut p = (trace_told c cut p).ends
