use Rattle.std.proofs.Common.{arith, sym, ◌∙◌, ap, subst, length, ◌≡◌, ℕ}
use Rattle.civl_cnf.specs.ClauseSet.{AreBelow}
use Rattle.civl_units.specs.Marks.{marked}
use Rattle.civl_propagation.specs.Trail.{before}
use Rattle.civl_propagation.specs.Watches.{AllKeepUp, StepSays}
use Rattle.civl_propagation.proofs.Trails.{before_all}
use Rattle.civl_propagation.proofs.Serving.{grows_self, grows_trans}
use Rattle.civl_propagation.proofs.propagation.propagate.Goals as goal

pub loop-at-init : goal.loop-at-init
loop-at-init c = record {
  grows = grows_self c.args.trail.now;
  held = c.requires.held;
  low = c.requires.from;
  keeps = c.requires.keeps;
}

pub visit_watchers-requires-clause-below : goal.visit_watchers-requires-clause-below
visit_watchers-requires-clause-below c = subst (λ (n : ℕ). AreBelow n c.args.clauses.now) (sym c.loop-at.invariant.grows.size) c.requires.below

pub loop-at-preserved : goal.loop-at-preserved
loop-at-preserved c =
    let old = c.loop-at.trail in
    let new = c.visit_watchers.new.trail in
    let inv = c.loop-at.invariant in
    let says = subst (StepSays old new c.args.clauses.now c.visit_watchers.new.watches c.loop-at.at) c.in-Quiet.is c.in_ok-ended.ensures in
    record {
      grows = grows_trans c.args.trail.now old new inv.grows says.0;
      held = says.1;
      low = omega (arith, says.0.longer);
      keeps = says.2;
    }

pub loop-at-smaller : goal.loop-at-smaller
loop-at-smaller c =
    let says = subst (StepSays c.loop-at.trail c.visit_watchers.new.trail c.args.clauses.now c.visit_watchers.new.watches c.loop-at.at) c.in-Quiet.is c.in_ok-ended.ensures in
    omega (arith, says.0.total, says.0.longer, c.loop-at.invariant.low)

pub returns-in-Conflict : goal.returns-in-Conflict
returns-in-Conflict c =
    let old = c.loop-at.trail in
    let new = c.visit_watchers.new.trail in
    let says = subst (StepSays old new c.args.clauses.now c.visit_watchers.new.watches c.loop-at.at) c.in-Conflict.is c.in_ok-ended.ensures in
    (grows_trans c.args.trail.now old new c.loop-at.invariant.grows says.0, says.1, says.2)

pub returns : goal.returns
returns c =
    let t = c.loop-at.trail in
    let inv = c.loop-at.invariant in
    let end : c.loop-at.at ≡ length t.steps = omega (arith, inv.low) in
    let all = ap (before t.marks t.places) end ∙ before_all t.marks t.places t.steps t.starts c.args.clauses.now inv.held.trail in
    (inv.grows, inv.held, subst (λ f. AllKeepUp f (marked t.marks) c.args.clauses.now c.loop-at.watches.pairs) all inv.keeps)
