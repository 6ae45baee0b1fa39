use Rattle.std.proofs.Common.{◌≡◌, ◌+◌, refl, [], ◌∷◌, ◌++◌, List, length, get_or, sym, ◌∙◌, ap, subst}
use Rattle.std.specs.Prelude.{Some}
use Rattle.std.proofs.lemmas.List.{get_or_default}
use Rattle.civl_cnf.specs.Literal.{Literal}
use Rattle.civl_units.specs.Propagation.{Holds, Fails}
use Rattle.civl_units.specs.Marks.{marked}
use Rattle.civl_propagation.specs.Trail.{AreDecided}
use Rattle.civl_propagation.specs.Engine.{EndsBy}
use Rattle.civl_propagation.proofs.Trails.{some_lit}
use Rattle.civl_rup.proofs.Standings.{IsMaking, making_begins, true_conflict, making_next, making_decides, making_conflict, making_ends, mark_at, marked_true, marked_false}
use Rattle.civl_rup.proofs.conflicts.make_false.Goals as goal
use Rattle.civl_rup.proofs.conflicts.make_false.Goals.{in-Some+else-value-positive, in-None+in_ok-decide-in-None+in-Quiet}

pub loop-lit-init : goal.loop-lit-init
loop-lit-init c = making_begins c.args.engine.now c.args.lits.now c.requires.rest c.requires.decided

pub returns-then-value-positive-clause-exact : goal.returns-then-value-positive-clause-exact
returns-then-value-positive-clause-exact c =
    let e = c.loop-lit.engine in
    let lits = c.args.lits.now in
    let at = c.loop-lit.lit-index in
    let l = c.lit-item.result in
    let mark = mark_at c.marks.result.now e.trail.marks c.trail.result.now c.variable.result l (Some c.in-Some.value) c.marks.ensures (ap (λ t. t.marks) c.trail.ensures) c.variable.ensures.is c.in-Some.is in
    let held = marked_true e.trail.marks l c.in-Some.value c.positive.result mark c.positive.ensures c.if-value-positive.true in
    let is : l ≡ get_or lits at some_lit = c.lit-item.is ∙ get_or_default lits at l some_lit c.loop-lit-test.true in
    (λ t. true_conflict e (length c.args.engine.now.trail.marks) c.args.engine.now.clauses lits at c.loop-lit-test.true c.requires.once c.loop-lit.invariant (subst (λ (x : Literal). Holds (marked e.trail.marks) x) is held), λ g. refl)

pub returns-in-Conflict-clause-exact : goal.returns-in-Conflict-clause-exact
returns-in-Conflict-clause-exact c =
    let e = c.loop-lit.engine in
    let new = c.decide.new.self in
    let lits = c.args.lits.now in
    let at = c.loop-lit.lit-index in
    let l = c.lit-item.result in
    let says = c.in_ok-decide-in-None.ensures in
    let ends = subst (EndsBy new) c.in-Conflict.is says.ended in
    let more = subst (λ (m : Literal). (decisions : List Literal) → AreDecided e.trail decisions → AreDecided new.trail (decisions ++ m ∷ [])) c.negate.ensures says.decided in
    let is : (d : Literal) → get_or lits at d ≡ l = λ d. sym (c.lit-item.is ∙ get_or_default lits at l d c.loop-lit-test.true) in
    (λ t. (making_conflict e new (length c.args.engine.now.trail.marks) c.args.engine.now.clauses lits at _ l c.loop-lit-test.true is says.clauses more ends c.loop-lit.invariant).1, λ g. refl)

pub loop-lit-preserved : goal.loop-lit-preserved
loop-lit-preserved c =
    let e = c.loop-lit.engine in
    let n = length c.args.engine.now.trail.marks in
    let clauses = c.args.engine.now.clauses in
    let lits = c.args.lits.now in
    let at = c.loop-lit.lit-index in
    let l = c.lit-item.result in
    let is : (d : Literal) → get_or lits at d ≡ l = λ d. sym (c.lit-item.is ∙ get_or_default lits at l d c.loop-lit-test.true) in
    elim c.match-marks-variable.branch [
      | in-Some+else-value-positive w ↦
          let mark = mark_at c.marks.result.now e.trail.marks c.trail.result.now c.variable.result l (Some w.in-Some.value) c.marks.ensures (ap (λ t. t.marks) c.trail.ensures) c.variable.ensures.is w.in-Some.is in
          let fails = marked_false e.trail.marks l w.in-Some.value w.positive.result mark w.positive.ensures w.if-value-positive.false in
          subst (λ x. IsMaking x n clauses lits (at + 1)) (sym w.engine-is)
          (making_next e n clauses lits at (λ d. subst (λ (x : Literal). Fails (marked e.trail.marks) x) (sym (is d)) fails) c.loop-lit.invariant)
      | in-None+in_ok-decide-in-None+in-Quiet w ↦
          let new = w.decide.new.self in
          let says = w.in_ok-decide-in-None.ensures in
          let ends = subst (EndsBy new) w.in-Quiet.is says.ended in
          let more = subst (λ (m : Literal). (decisions : List Literal) → AreDecided e.trail decisions → AreDecided new.trail (decisions ++ m ∷ [])) w.negate.ensures says.decided in
          subst (λ x. IsMaking x n clauses lits (at + 1)) (sym w.engine-is)
          (making_decides e new n clauses lits at l c.loop-lit-test.true is says.clauses says.size more ends c.loop-lit.invariant)
    ]

pub returns-clause-exact : goal.returns-clause-exact
returns-clause-exact c = (
  λ t. cc,
  λ conflict. absurd (making_ends c.loop-lit.engine (length c.args.engine.now.trail.marks) c.args.engine.now.clauses c.args.lits.now c.loop-lit.lit-index c.loop-lit-test.false c.loop-lit.invariant conflict),
)
