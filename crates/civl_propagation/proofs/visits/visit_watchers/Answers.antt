use Rattle.std.proofs.Common.{arith, ◌∙◌, sym, ap, subst}
use Rattle.civl_cnf.specs.Literal.{Literal, opposite}
use Rattle.civl_cnf.proofs.Literals.{opposite_twice}
use Rattle.civl_propagation.specs.Watches.{VisitSays}
use Rattle.civl_propagation.specs.declared.trail.Step.{Step}
use Rattle.civl_propagation.proofs.Serving.{grows_self, grows_trans}
use Rattle.civl_propagation.proofs.Visiting.{visiting_begins, visiting_ends}
use Rattle.civl_propagation.proofs.visits.visit_watchers.Goals as goal

pub loop-at-init : goal.loop-at-init
loop-at-init c = record {
  grows = grows_self c.args.trail.now;
  visiting = visiting_begins c.args.trail.now c.args.clauses.now c.args.watches.now c.negate-falsified.result c.args.step c.requires.held c.requires.step
      (λ d. ap (λ (x : Step). x.lit) (sym (c.step.ensures d)) ∙ sym (opposite_twice c.step.result.lit) ∙ ap opposite (sym c.negate-falsified.ensures))
      c.requires.keeps;
}

pub returns-in-Falsified : goal.returns-in-Falsified
returns-in-Falsified c =
    let inv = c.loop-at.invariant in
    let says = subst (VisitSays c.loop-at.trail c.loop-at.watches c.visit.new.trail c.visit.new.watches c.args.clauses.now c.negate-falsified.result c.args.step c.loop-at.at) c.in-Falsified.is (c.in_ok-did.ensures c.args.step inv.visiting) in
    (grows_trans c.args.trail.now c.loop-at.trail c.visit.new.trail inv.grows says.0, says.1, says.2)

pub loop-at-smaller-in-Stays : goal.loop-at-smaller-in-Stays
loop-at-smaller-in-Stays c =
    let says = subst (VisitSays c.loop-at.trail c.loop-at.watches c.visit.new.trail c.visit.new.watches c.args.clauses.now c.negate-falsified.result c.args.step c.loop-at.at) c.in-Stays.is (c.in_ok-did.ensures c.args.step c.loop-at.invariant.visiting) in
    let count = says.2 in
    omega (arith, c.count.ensures)

pub loop-at-preserved-in-Stays : goal.loop-at-preserved-in-Stays
loop-at-preserved-in-Stays c =
    let inv = c.loop-at.invariant in
    let says = subst (VisitSays c.loop-at.trail c.loop-at.watches c.visit.new.trail c.visit.new.watches c.args.clauses.now c.negate-falsified.result c.args.step c.loop-at.at) c.in-Stays.is (c.in_ok-did.ensures c.args.step inv.visiting) in
    record { grows = grows_trans c.args.trail.now c.loop-at.trail c.visit.new.trail inv.grows says.0; visiting = says.1 }

pub loop-at-smaller : goal.loop-at-smaller
loop-at-smaller c =
    let says = subst (VisitSays c.loop-at.trail c.loop-at.watches c.visit.new.trail c.visit.new.watches c.args.clauses.now c.negate-falsified.result c.args.step c.loop-at.at) c.in-Moved.is (c.in_ok-did.ensures c.args.step c.loop-at.invariant.visiting) in
    let count = says.2 in
    omega (arith, c.count.ensures)

pub loop-at-preserved : goal.loop-at-preserved
loop-at-preserved c =
    let inv = c.loop-at.invariant in
    let says = subst (VisitSays c.loop-at.trail c.loop-at.watches c.visit.new.trail c.visit.new.watches c.args.clauses.now c.negate-falsified.result c.args.step c.loop-at.at) c.in-Moved.is (c.in_ok-did.ensures c.args.step inv.visiting) in
    record { grows = grows_trans c.args.trail.now c.loop-at.trail c.visit.new.trail inv.grows says.0; visiting = says.1 }

pub returns : goal.returns
returns c =
    let inv = c.loop-at.invariant in
    (inv.grows, inv.visiting.held, visiting_ends c.loop-at.trail c.args.clauses.now c.loop-at.watches c.negate-falsified.result c.args.step c.loop-at.at inv.visiting (omega (arith, c.count.ensures)))

pub count-requires : goal.count-requires
count-requires c =
    let v = c.loop-at.invariant.visiting in
    let within = (v.held.trail.steps_are c.args.step c.step.result v.here).within in
    let same = ap (λ (l : Literal). l.variable) (v.falsity c.step.result) in
    omega (arith, v.held.watched.lists, within, same)
