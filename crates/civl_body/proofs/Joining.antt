-- An `if`: its first branch, then its second on what the first collected, and both joined.
use Rattle.std.specs.Prelude.{map, not}
use Rattle.std.specs.List.{Contains}
use Rattle.std.proofs.Common.{◌≡◌, ◌∙◌, ℕ, ◌+◌, Bool, true, ◌&&◌, List, [], ◌∷◌, ◌++◌, refl, sym, ap, subst, Some}
use Rattle.std.proofs.lemmas.List.Elements.{Contains-append_left, Contains-append_right}
use Rattle.civl_tree.specs.declared.expr.Expr.{Expr}
use Rattle.civl_tree.specs.declared.program.Proc.{Proc}
use Rattle.civl_tree.specs.declared.program.Program.{Program}
use Rattle.civl_tree.specs.declared.stmt.Stmt.{Stmt, out-Stmt}
use Rattle.civl_tree.specs.declared.stmt.Stmt.TheOpen as stmt
use Rattle.civl_tree.specs.Numbering.{statement_at, numbered, sizes_of, inner_of, statements_of}
use Rattle.civl_tree.proofs.Preorder.{inner_layer, inner_is}
use Rattle.civl_meaning.specs.Rest.{Rest}
use Rattle.civl_meaning.specs.Config.{frame_sorts}
use Rattle.civl_terms.specs.declared.node.Node.{Node}
use Rattle.civl_terms.specs.Building.{Grows}
use Rattle.civl_terms.proofs.Growing.{grows_trans}
use Rattle.civl_actions.proofs.Staying.{are_stay, values_stay}
use Rattle.civl_conditions.specs.paths.Flows.{Flow, flow_or, flow_with, flow, flow_all}
use Rattle.civl_conditions.proofs.paths.Passing.{flow_of_layer, flow_is}
use Rattle.civl_conditions.proofs.paths.Each.{each_branch, each_else, each_of_layer}
use Rattle.civl_moves.specs.sweeps.Sweeps.{Swept, first_begins, second_begins, joined, by_both}
use Rattle.civl_bits.specs.declared.value.Value.{Value}
use Rattle.civl_moves.specs.sweeps.Sweeps.{where_onward, sweep, sweep_all}
use Rattle.civl_states.specs.declared.choices.Chosen.{Chosen}
use Rattle.civl_body.specs.Passing.{course_in, StandIn, HasChoices, SaysChoices, Ready, Passes}
use Rattle.civl_body.proofs.Passing.{passed_by, has_less, says_less, has_stay, says_stay, own_choices}
use Rattle.civl_states.specs.formula_parts.Lists.{AreAlike}
use Rattle.civl_states.specs.formula_parts.Said.{Env, IsTest}
use Rattle.civl_moves.specs.declared.branches.Front.{Front}
use Rattle.civl_moves.specs.declared.branches.Fork.{Fork}
use Rattle.civl_moves.specs.declared.sweep.Sweep.{Sweep}
use Rattle.civl_moves.specs.Branches.{CanEnd, ended_at, front_of, with_front}
use Rattle.civl_moves.specs.States.{bool_at, IsBool, swept_at, CanSweep, Moves, holds_at}
use Rattle.civl_moves.proofs.States.{test_value, test_bool, bool_same, bool_stays, same_swept, stops_same, can_stays}

abbrev pub Within : Rest → Rest → Type 0
Within q p = (x : ℕ × Stmt) → Contains q x → Contains p x

-- what the branches of an `if` pass
both_within : (at : ℕ) (s : Stmt) (e : Expr) (a b : List Stmt) → out-Stmt s ≡ stmt.If e a b → flow s s at ≡ flow_with (at, s) (flow_or (flow_all (numbered (at + 1) a)) (flow_all (numbered (at + 1 + sizes_of a) b)))
both_within at s e a b o = flow_is s s at ∙ ap (λ (d : stmt.Stmt-F Stmt). flow_of_layer d s at) o

contains_behind : (x : ℕ × Stmt) (xs : Rest) (y : ℕ × Stmt) → Contains xs y → Contains (x ∷ xs) y
contains_behind x xs y c = Contains-append_right (x ∷ []) xs y c

pub first_branch : (at : ℕ) (s : Stmt) (e : Expr) (a b : List Stmt) → out-Stmt s ≡ stmt.If e a b → Within (flow_all (numbered (at + 1) a)).passed (flow s s at).passed
first_branch at s e a b o x c =
    subst (λ (f : Flow). Contains f.passed x) (sym (both_within at s e a b o)) (contains_behind (at, s) _ x (Contains-append_left (flow_all (numbered (at + 1) a)).passed _ x c))

pub second_branch : (at : ℕ) (s : Stmt) (e : Expr) (a b : List Stmt) → out-Stmt s ≡ stmt.If e a b → Within (flow_all (numbered (at + 1 + sizes_of a) b)).passed (flow s s at).passed
second_branch at s e a b o x c =
    subst (λ (f : Flow). Contains f.passed x) (sym (both_within at s e a b o)) (contains_behind (at, s) _ x (Contains-append_right (flow_all (numbered (at + 1) a)).passed _ x c))

abbrev pub before_second : Sweep → ℕ → Front
before_second s live = record { onward = s.onward; live = live; globals = s.globals; locals = s.locals; done = s.done }

module _ (o0 o1 : List Node) (program : Program) (proc : Proc) (s : Sweep) (e : Expr) (fork : Fork) (g1 : Grows o0 o1) (can : CanSweep o0 program proc s)
    (tests : IsTest o1 fork.test (λ env. holds_at program proc e (swept_at env o0 s)))
    (firsts : IsTest o1 fork.first (λ env. bool_at env o0 s.live && holds_at program proc e (swept_at env o0 s)))
    (seconds : IsTest o1 fork.second (λ env. bool_at env o0 s.live && not (holds_at program proc e (swept_at env o0 s)))) where
  now1 : CanSweep o1 program proc s
  now1 = can_stays o0 o1 program proc g1 s can

  pub first_can : CanSweep o1 program proc (record s { live = fork.first })
  first_can = record { live = test_bool o1 fork.first _ firsts; globals = now1.globals; locals = now1.locals; done = now1.done; safe = now1.safe; once = now1.once; stops = now1.stops }

  module _ (o2 : List Node) (s2 : Sweep) (g2 : Grows o1 o2) (can2 : CanSweep o2 program proc s2) where
    now2 : CanSweep o2 program proc s
    now2 = can_stays o1 o2 program proc g2 s now1

    pub second_can : CanSweep o2 program proc (with_front (before_second s fork.second) s2)
    second_can = record { live = bool_stays o1 o2 fork.second g2 (test_bool o1 fork.second _ seconds); globals = now2.globals; locals = now2.locals; done = now2.done; safe = can2.safe; once = can2.once; stops = can2.stops }

    module _ (o3 o4 : List Node) (s4 s5 : Sweep) (g3 : Grows o2 o3) (g4 : Grows o3 o4) where
      pub ended_can : CanEnd o3 program proc (front_of s2)
      ended_can = record { live = bool_stays o2 o3 s2.live g3 can2.live; globals = are_stay o2 o3 s2.globals _ can2.globals g3; locals = are_stay o2 o3 s2.locals _ can2.locals g3; done = bool_stays o2 o3 s2.done g3 can2.done }

      pub test_can : IsBool o3 fork.test
      test_can = bool_stays o1 o3 fork.test (grows_trans o1 o2 o3 g2 g3) (test_bool o1 fork.test _ tests)

      pub if_moves : (f k : Env → Swept → Swept) → Moves o1 o2 program proc (record s { live = fork.first }) s2 f → Moves o2 o3 program proc (with_front (before_second s fork.second) s2) s4 k
          → Moves o3 o4 program proc s4 s5 (λ env d. joined (bool_at env o3 fork.test) (ended_at env o3 (front_of s2) d) d) → Moves o0 o4 program proc s s5 (λ env d. by_both (holds_at program proc e d) (f env) (k env) d)
      if_moves f k m1 m2 m3 = record {
        can = m3.can;
        is = λ env fits4.
            let fits3 = g4.fits env fits4 in
            let fits2 = g3.fits env fits3 in
            let fits1 = g2.fits env fits2 in
            let d = swept_at env o0 s in
            let t = holds_at program proc e d in
            let a = swept_at env o2 s2 in
            let x = swept_at env o3 s4 in
            let g02 = grows_trans o0 o1 o2 g1 g2 in
            let begins = same_swept s.onward _ _ _ _ _ _ _ _ _ _ _ _ _ _ (test_value o1 fork.first _ firsts env fits1) (values_stay env o0 o1 s.globals _ can.globals g1) (values_stay env o0 o1 s.locals _ can.locals g1) (bool_same o0 o1 s.done g1 can.done env)
            (ap not (bool_same o0 o1 s.safe g1 can.safe env)) (ap not (bool_same o0 o1 s.once g1 can.once env)) (stops_same o0 o1 program proc g1 s.stops can.stops env) in
            let first : a ≡ f env (first_begins t d) = m1.is env fits2 ∙ ap (f env) begins in
            let behind = same_swept s.onward _ _ _ _ _ _ _ _ a.broken _ a.again _ a.stops _ (bool_same o1 o2 fork.second g2 (test_bool o1 fork.second _ seconds) env ∙ test_value o1 fork.second _ seconds env fits1)
            (values_stay env o0 o2 s.globals _ can.globals g02) (values_stay env o0 o2 s.locals _ can.locals g02) (bool_same o0 o2 s.done g02 can.done env) refl refl refl in
            let second : x ≡ k env (second_begins t d a) = m2.is env fits3 ∙ ap (k env) behind in
            let test : bool_at env o3 fork.test ≡ t = bool_same o1 o3 fork.test (grows_trans o1 o2 o3 g2 g3) (test_bool o1 fork.test _ tests) env ∙ test_value o1 fork.test _ tests env fits1 in
            let ends = same_swept s2.onward _ _ _ _ _ _ _ _ x.broken _ x.again _ x.stops _ (bool_same o2 o3 s2.live g3 can2.live env) (values_stay env o2 o3 s2.globals _ can2.globals g3) (values_stay env o2 o3 s2.locals _ can2.locals g3) (bool_same o2 o3 s2.done g3 can2.done env) refl refl refl in
            m3.is env fits4
            ∙ ap (λ (b : Bool). joined b (ended_at env o3 (front_of s2) x) x) test
            ∙ ap (λ (y : Swept). joined t y x) ends
            ∙ ap (λ (y : Swept). joined t a y) second
            ∙ ap (λ (y : Swept). joined t y (k env (second_begins t d y))) first;
      }

-- ---- in the walk

module _ (program : Program) (layer : ℕ) (proc : Proc) (chosen : List Chosen) (at : ℕ) (x : Stmt) (e : Expr) (a b : List Stmt) (form : out-Stmt x ≡ stmt.If e a b)
    (o0 o1 : List Node) (s : Sweep) (fork : Fork) (ready : Ready o0 program layer proc chosen s at (x ∷ inner_of x) (flow x x at).passed) (on : s.onward ≡ true) (g1 : Grows o0 o1)
    (tests : IsTest o1 fork.test (λ env. holds_at program proc e (swept_at env o0 s)))
    (firsts : IsTest o1 fork.first (λ env. bool_at env o0 s.live && holds_at program proc e (swept_at env o0 s)))
    (seconds : IsTest o1 fork.second (λ env. bool_at env o0 s.live && not (holds_at program proc e (swept_at env o0 s)))) where
  abbrev Stands : ℕ → Stmt → Type 0
  Stands n y = statement_at proc.body n ≡ Some y

  inner_stands : StandIn proc (at + 1) (statements_of a ++ statements_of b)
  inner_stands = each_of_layer Stands at x (stmt.If e a b) (inner_is x ∙ ap inner_layer form) ready.stands

  abbrev s1 : Sweep
  s1 = record s { live = fork.first }

  firsts_have : HasChoices o1 program layer chosen (flow_all (numbered (at + 1) a)).passed
  firsts_have = has_stay o0 o1 program layer chosen _ g1 (has_less o0 program layer chosen _ _ (first_branch at x e a b form) (ready.choices on))

  pub first_ready : Ready o1 program layer proc chosen s1 (at + 1) (statements_of a) (flow_all (numbered (at + 1) a)).passed
  first_ready = record {
    layered = ready.layered;
    there = ready.there;
    stands = each_branch Stands at a b inner_stands;
    can = first_can o0 o1 program proc s e fork g1 ready.can tests firsts seconds;
    choices = λ o. firsts_have;
  }

  first_says : (v : Env → ℕ → List Value) → (s.onward ≡ true → SaysChoices o0 program layer chosen (flow x x at).passed v) → SaysChoices o1 program layer chosen (flow_all (numbered (at + 1) a)).passed v
  first_says v says =
      let less = first_branch at x e a b form in
      says_stay o0 o1 program layer chosen _ v g1 (has_less o0 program layer chosen _ _ less (ready.choices on)) (says_less o0 program layer chosen _ _ v less (says on))

  module _ (o2 : List Node) (s2 : Sweep) (g2 : Grows o1 o2) (p1 : Passes o1 o2 program layer proc chosen s1 s2 (flow_all (numbered (at + 1) a)).passed (λ c. sweep_all c (numbered (at + 1) a)))
      (s3 : Sweep) (swapped : s3 ≡ with_front (before_second s fork.second) s2) (behind : ℕ) (next : behind ≡ at + 1 + sizes_of a) where
    can2 : CanSweep o2 program proc s2
    can2 = (p1 (own_choices program layer proc chosen o1) (λ o q c k h env f. refl)).can

    g02 : Grows o0 o2
    g02 = grows_trans o0 o1 o2 g1 g2

    second_within : Within (flow_all (numbered behind b)).passed (flow x x at).passed
    second_within = subst (λ (n : ℕ). Within (flow_all (numbered n b)).passed (flow x x at).passed) (sym next) (second_branch at x e a b form)

    can3 : CanSweep o2 program proc s3
    can3 = subst (CanSweep o2 program proc) (sym swapped) (second_can o0 o1 program proc s e fork g1 ready.can tests firsts seconds o2 s2 g2 can2)

    pub second_ready : Ready o2 program layer proc chosen s3 behind (statements_of b) (flow_all (numbered behind b)).passed
    second_ready = record {
      layered = ready.layered;
      there = ready.there;
      stands = subst (λ (n : ℕ). StandIn proc n (statements_of b)) (sym next) (each_else Stands at a b inner_stands);
      can = can3;
      choices = λ o. has_stay o0 o2 program layer chosen _ g02 (has_less o0 program layer chosen _ _ second_within (ready.choices on));
    }

    second_says : (v : Env → ℕ → List Value) → (s.onward ≡ true → SaysChoices o0 program layer chosen (flow x x at).passed v) → SaysChoices o2 program layer chosen (flow_all (numbered behind b)).passed v
    second_says v says =
        says_stay o0 o2 program layer chosen _ v g02 (has_less o0 program layer chosen _ _ second_within (ready.choices on)) (says_less o0 program layer chosen _ _ v second_within (says on))

    module _ (ended : Front) (was : ended ≡ front_of s2) (o3 : List Node) (s4 : Sweep) (g3 : Grows o2 o3) (p2 : Passes o2 o3 program layer proc chosen s3 s4 (flow_all (numbered behind b)).passed (λ c. sweep_all c (numbered behind b))) where
      pub can4 : CanSweep o3 program proc s4
      can4 = (p2 (own_choices program layer proc chosen o2) (λ o q c k h env f. refl)).can

      pub can_end : CanEnd o3 program proc ended
      can_end = subst (CanEnd o3 program proc) (sym was) (record {
        live = bool_stays o2 o3 s2.live g3 can2.live;
        globals = are_stay o2 o3 s2.globals _ can2.globals g3;
        locals = are_stay o2 o3 s2.locals _ can2.locals g3;
        done = bool_stays o2 o3 s2.done g3 can2.done;
      })

      pub can_test : IsBool o3 fork.test
      can_test = bool_stays o1 o3 fork.test (grows_trans o1 o2 o3 g2 g3) (test_bool o1 fork.test _ tests)

      pub global_alike : AreAlike o3 ended.globals s4.globals
      global_alike = record { sorts = map (λ q. q.sort) program.globals; first = can_end.globals; second = can4.globals }

      pub local_alike : AreAlike o3 ended.locals s4.locals
      local_alike = record { sorts = frame_sorts proc; first = can_end.locals; second = can4.locals }

      pub if_passes : (o4 : List Node) (s5 : Sweep) → Grows o3 o4 → Moves o3 o4 program proc s4 s5 (λ env d. joined (bool_at env o3 fork.test) (ended_at env o3 ended d) d)
          → Passes o0 o4 program layer proc chosen s s5 (flow x x at).passed (λ c. where_onward (sweep c x at))
      if_passes o4 s5 g4 m v says =
          let f = λ (env : Env). sweep_all (course_in program layer proc (v env)) (numbered (at + 1) a) in
          let k = λ (env : Env). sweep_all (course_in program layer proc (v env)) (numbered (at + 1 + sizes_of a) b) in
          let m1 = p1 v (λ o. first_says v says) in
          let m2 = p2 v (λ o. second_says v says) in
          let m2a = subst (λ (n : ℕ). Moves o2 o3 program proc s3 s4 (λ env. sweep_all (course_in program layer proc (v env)) (numbered n b))) next m2 in
          let m2b = subst (λ (y : Sweep). Moves o2 o3 program proc y s4 k) swapped m2a in
          let m3 = subst (λ (y : Front). Moves o3 o4 program proc s4 s5 (λ env d. joined (bool_at env o3 fork.test) (ended_at env o3 y d) d)) was m in
          passed_by o0 o4 program layer proc s s5 v at x (stmt.If e a b) on form (if_moves o0 o1 program proc s e fork g1 ready.can tests firsts seconds o2 s2 g2 can2 o3 o4 s4 s5 g3 g4 f k m1 m2b m3)
