-- From the head of a loop.
use Rattle.std.specs.Prelude.{not}
use Rattle.std.specs.List.{Contains}
use Rattle.std.proofs.Common.{◌≡◌, ◌∙◌, ℕ, ◌&&◌, List, refl, sym, ap, subst}
use Rattle.std.proofs.lemmas.List.Elements.{Contains-append_left, Contains-append_right}
use Rattle.civl_tree.specs.declared.expr.Expr.{Expr}
use Rattle.civl_tree.specs.declared.program.Proc.{Proc}
use Rattle.civl_tree.specs.declared.program.Program.{Program}
use Rattle.civl_tree.specs.declared.stmt.Stmt.{Stmt}
use Rattle.civl_meaning.specs.Rest.{Rest}
use Rattle.civl_terms.specs.declared.node.Node.{Node}
use Rattle.civl_terms.specs.Building.{Grows}
use Rattle.civl_terms.proofs.Growing.{grows_trans}
use Rattle.civl_actions.proofs.Staying.{values_stay}
use Rattle.civl_conditions.specs.paths.Flows.{flow_all}
use Rattle.civl_moves.specs.sweeps.Sweeps.{Swept, first_begins, second_begins, sweep_all}
use Rattle.civl_states.specs.declared.choices.Chosen.{Chosen}
use Rattle.civl_body.specs.Passing.{course_in, HasChoices, ReadyRest, ReadyLoop, Passes, loop_passed, by_loop}
use Rattle.civl_body.proofs.Passing.{has_less, says_less, has_stay, says_stay, own_choices}
use Rattle.civl_body.proofs.Joining.{before_second, first_can, second_can}
use Rattle.civl_states.specs.formula_parts.Said.{IsTest}
use Rattle.civl_moves.specs.declared.branches.Fork.{Fork}
use Rattle.civl_moves.specs.declared.sweep.Sweep.{Sweep}
use Rattle.civl_moves.specs.Branches.{with_front}
use Rattle.civl_moves.specs.States.{bool_at, swept_at, CanSweep, holds_at}
use Rattle.civl_moves.proofs.States.{test_value, test_bool, bool_same, same_swept, stops_same}

module _ (program : Program) (layer : ℕ) (proc : Proc) (chosen : List Chosen) (e : Expr) (inside behind : Rest) (o0 o1 : List Node) (s : Sweep) (fork : Fork)
    (ready : ReadyLoop o0 program layer proc chosen s e inside behind) (g1 : Grows o0 o1)
    (tests : IsTest o1 fork.test (λ env. holds_at program proc e (swept_at env o0 s)))
    (firsts : IsTest o1 fork.first (λ env. bool_at env o0 s.live && holds_at program proc e (swept_at env o0 s)))
    (seconds : IsTest o1 fork.second (λ env. bool_at env o0 s.live && not (holds_at program proc e (swept_at env o0 s)))) where
  abbrev s1 : Sweep
  s1 = record s { live = fork.first }

  inside_less : (x : ℕ × Stmt) → Contains (flow_all inside).passed x → Contains (loop_passed inside behind) x
  inside_less x c = Contains-append_left (flow_all inside).passed (flow_all behind).passed x c

  behind_less : (x : ℕ × Stmt) → Contains (flow_all behind).passed x → Contains (loop_passed inside behind) x
  behind_less x c = Contains-append_right (flow_all inside).passed (flow_all behind).passed x c

  inside_has : HasChoices o0 program layer chosen (flow_all inside).passed
  inside_has = has_less o0 program layer chosen _ _ inside_less ready.choices

  behind_has : HasChoices o0 program layer chosen (flow_all behind).passed
  behind_has = has_less o0 program layer chosen _ _ behind_less ready.choices

  pub inside_ready : ReadyRest o1 program layer proc chosen s1 inside
  inside_ready = record {
    layered = ready.layered;
    there = ready.there;
    stands = ready.first;
    can = first_can o0 o1 program proc s e fork g1 ready.can tests firsts seconds;
    choices = λ o. has_stay o0 o1 program layer chosen _ g1 inside_has;
  }

  module _ (o2 : List Node) (s2 : Sweep) (g2 : Grows o1 o2) (p1 : Passes o1 o2 program layer proc chosen s1 s2 (flow_all inside).passed (λ c. sweep_all c inside))
      (s3 : Sweep) (swapped : s3 ≡ with_front (before_second s fork.second) s2) where
    can2 : CanSweep o2 program proc s2
    can2 = (p1 (own_choices program layer proc chosen o1) (λ o q c k h env f. refl)).can

    g02 : Grows o0 o2
    g02 = grows_trans o0 o1 o2 g1 g2

    pub behind_ready : ReadyRest o2 program layer proc chosen s3 behind
    behind_ready = record {
      layered = ready.layered;
      there = ready.there;
      stands = ready.others;
      can = subst (CanSweep o2 program proc) (sym swapped) (second_can o0 o1 program proc s e fork g1 ready.can tests firsts seconds o2 s2 g2 can2);
      choices = λ o. has_stay o0 o2 program layer chosen _ g02 behind_has;
    }

    pub loop_passes : (o3 : List Node) (s4 : Sweep) → Grows o2 o3 → Passes o2 o3 program layer proc chosen s3 s4 (flow_all behind).passed (λ c. sweep_all c behind)
        → Passes o0 o3 program layer proc chosen s s4 (loop_passed inside behind) (λ c. by_loop c e inside behind)
    loop_passes o3 s4 g3 p2 v says =
        let said = says ready.on in
        let m1 = p1 v (λ o. says_stay o0 o1 program layer chosen _ v g1 inside_has (says_less o0 program layer chosen _ _ v inside_less said)) in
        let m2 = p2 v (λ o. says_stay o0 o2 program layer chosen _ v g02 behind_has (says_less o0 program layer chosen _ _ v behind_less said)) in
        record {
          can = m2.can;
          is = λ env fits3.
              let c = course_in program layer proc (v env) in
              let fits2 = g3.fits env fits3 in
              let fits1 = g2.fits env fits2 in
              let d = swept_at env o0 s in
              let t = holds_at program proc e d in
              let a = swept_at env o2 s2 in
              let begins = same_swept s.onward _ _ _ _ _ _ _ _ _ _ _ _ _ _ (test_value o1 fork.first _ firsts env fits1) (values_stay env o0 o1 s.globals _ ready.can.globals g1) (values_stay env o0 o1 s.locals _ ready.can.locals g1) (bool_same o0 o1 s.done g1 ready.can.done env)
              (ap not (bool_same o0 o1 s.safe g1 ready.can.safe env)) (ap not (bool_same o0 o1 s.once g1 ready.can.once env)) (stops_same o0 o1 program proc g1 s.stops ready.can.stops env) in
              let first : a ≡ sweep_all c inside (first_begins t d) = m1.is env fits2 ∙ ap (sweep_all c inside) begins in
              let next = same_swept s.onward _ _ _ _ _ _ _ _ a.broken _ a.again _ a.stops _ (bool_same o1 o2 fork.second g2 (test_bool o1 fork.second _ seconds) env ∙ test_value o1 fork.second _ seconds env fits1)
              (values_stay env o0 o2 s.globals _ ready.can.globals g02) (values_stay env o0 o2 s.locals _ ready.can.locals g02) (bool_same o0 o2 s.done g02 ready.can.done env) refl refl refl in
              m2.is env fits3
              ∙ ap (λ (y : Sweep). sweep_all c behind (swept_at env o2 y)) swapped
              ∙ ap (sweep_all c behind) next
              ∙ ap (λ (y : Swept). sweep_all c behind (second_begins t d y)) first;
        }
