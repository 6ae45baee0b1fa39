use Rattle.std.proofs.Common.{arith, ◌-◌, sym, ◌∙◌, subst, length, ◌≡◌, ◌<◌, ◌≤◌, true, false, ℕ, List}
use Rattle.std.specs.Prelude.{All, IsTrue}
use Rattle.civl_propagation.specs.Trail.{ReasonSays, before}
use Rattle.civl_propagation.specs.declared.trail.Step.{Step}
use Rattle.civl_cdcl.specs.inner.Analysis.{IsUnseen, Sees, sees}
use Rattle.civl_cdcl.proofs.Analysing.{at_walk, step_at, reason_at, steps_within, clause_within, analyses_skip, analyses_resolve, one_left, decided_last}
use Rattle.civl_cdcl.proofs.analysis.walk.Goals as goal

pub overflow_sub-at : goal.overflow_sub-at
overflow_sub-at c =
    let t = c.args.trail.now in
    let clauses = c.args.clauses.now in
    let w = at_walk t clauses c.args.start c.loop-seen.at c.loop-seen.seen c.requires.trail c.requires.start c.loop-seen.invariant.seen in
    omega (arith, w.0)

pub step-step-requires : goal.step-step-requires
step-step-requires c =
    let t = c.args.trail.now in
    let clauses = c.args.clauses.now in
    let w = at_walk t clauses c.args.start c.loop-seen.at c.loop-seen.seen c.requires.trail c.requires.start c.loop-seen.invariant.seen in
    omega (arith, w.0)

pub bounds-seen-variable : goal.bounds-seen-variable
bounds-seen-variable c =
    let t = c.args.trail.now in
    let clauses = c.args.clauses.now in
    let at = c.loop-seen.at - 1 in
    let w = at_walk t clauses c.args.start c.loop-seen.at c.loop-seen.seen c.requires.trail c.requires.start c.loop-seen.invariant.seen in
    let low : at < length t.steps = omega (arith, w.0) in
    let step = step_at t clauses at c.step-step.result c.requires.trail low c.step-step.ensures in
    omega (arith, step.within, c.loop-seen.invariant.seen.size, c.variable-variable.ensures.is)

pub any_seen-requires-clause-within : goal.any_seen-requires-clause-within
any_seen-requires-clause-within c =
    let all = steps_within c.args.trail.now c.args.clauses.now (length c.loop-seen.seen) c.requires.trail c.loop-seen.invariant.seen.size in
    subst (All (λ (x : Step). x.lit.variable < length c.loop-seen.seen)) (sym c.steps.ensures) all

pub any_seen-requires-clause-from : goal.any_seen-requires-clause-from
any_seen-requires-clause-from c =
    let t = c.args.trail.now in
    let clauses = c.args.clauses.now in
    let w = at_walk t clauses c.args.start c.loop-seen.at c.loop-seen.seen c.requires.trail c.requires.start c.loop-seen.invariant.seen in
    omega (arith, w.0)

pub returns-then-not-any_seen-clause-one : goal.returns-then-not-any_seen-clause-one
returns-then-not-any_seen-clause-one c =
    let t = c.args.trail.now in
    let clauses = c.args.clauses.now in
    let at = c.loop-seen.at - 1 in
    let w = at_walk t clauses c.args.start c.loop-seen.at c.loop-seen.seen c.requires.trail c.requires.start c.loop-seen.invariant.seen in
    let low : at < length t.steps = omega (arith, w.0) in
    let level : c.args.start ≤ at = omega (arith, w.0) in
    let step = step_at t clauses at c.step-step.result c.requires.trail low c.step-step.ensures in
    let unseen : IsUnseen t.steps c.loop-seen.seen c.args.start at
    = subst (λ (x : List Step). IsUnseen x c.loop-seen.seen c.args.start at) c.steps.ensures (c.any_seen.ensures c.if-not-any_seen.true) in
    one_left t clauses c.args.start at c.step-step.result.lit c.loop-seen.seen c.requires.trail step level unseen w.1

pub returns-in-None-clause-one : goal.returns-in-None-clause-one
returns-in-None-clause-one c =
    let t = c.args.trail.now in
    let clauses = c.args.clauses.now in
    let at = c.loop-seen.at - 1 in
    let w = at_walk t clauses c.args.start c.loop-seen.at c.loop-seen.seen c.requires.trail c.requires.start c.loop-seen.invariant.seen in
    let low : at < length t.steps = omega (arith, w.0) in
    let level : c.args.start ≤ at = omega (arith, w.0) in
    let step = step_at t clauses at c.step-step.result c.requires.trail low c.step-step.ensures in
    let says = reason_at t clauses at c.step-step.result c.requires.trail low c.step-step.ensures in
    let reason = subst (ReasonSays (before t.marks t.places at) clauses t.starts at c.step-step.result.lit) c.in-None.is says in
    let top : at ≤ c.args.start = decided_last t clauses c.args.start at c.requires.trail c.requires.start reason in
    let unseen : IsUnseen t.steps c.loop-seen.seen c.args.start at = λ k d a b. absurd (omega arith) in
    one_left t clauses c.args.start at c.step-step.result.lit c.loop-seen.seen c.requires.trail step level unseen w.1

pub lits-requires : goal.lits-requires
lits-requires c =
    let t = c.args.trail.now in
    let clauses = c.args.clauses.now in
    let at = c.loop-seen.at - 1 in
    let w = at_walk t clauses c.args.start c.loop-seen.at c.loop-seen.seen c.requires.trail c.requires.start c.loop-seen.invariant.seen in
    let low : at < length t.steps = omega (arith, w.0) in
    let says = reason_at t clauses at c.step-step.result c.requires.trail low c.step-step.ensures in
    let reason = subst (ReasonSays (before t.marks t.places at) clauses t.starts at c.step-step.result.lit) c.in-Some.is says in
    reason.0

pub see-requires-clause-clause : goal.see-requires-clause-clause
see-requires-clause-clause c =
    let t = c.args.trail.now in
    let clauses = c.args.clauses.now in
    let at = c.loop-seen.at - 1 in
    let w = at_walk t clauses c.args.start c.loop-seen.at c.loop-seen.seen c.requires.trail c.requires.start c.loop-seen.invariant.seen in
    let low : at < length t.steps = omega (arith, w.0) in
    let says = reason_at t clauses at c.step-step.result c.requires.trail low c.step-step.ensures in
    let reason = subst (ReasonSays (before t.marks t.places at) clauses t.starts at c.step-step.result.lit) c.in-Some.is says in
    clause_within (length c.loop-seen.seen) (length t.marks) clauses c.in-Some.reason c.lits.result.now c.loop-seen.invariant.seen.size c.requires.below reason.0 c.lits.ensures

pub see-requires-clause-places : goal.see-requires-clause-places
see-requires-clause-places c =
    let size = c.requires.trail.size in
    subst (λ (p : List ℕ). length p ≡ length c.loop-seen.seen) (sym c.places.ensures) (size ∙ sym c.loop-seen.invariant.seen.size)

pub loop-seen-preserved-in-Continue-1 : goal.loop-seen-preserved-in-Continue-1
loop-seen-preserved-in-Continue-1 c =
    let t = c.args.trail.now in
    let clauses = c.args.clauses.now in
    let at = c.loop-seen.at - 1 in
    let w = at_walk t clauses c.args.start c.loop-seen.at c.loop-seen.seen c.requires.trail c.requires.start c.loop-seen.invariant.seen in
    let low : at < length t.steps = omega (arith, w.0) in
    let says = reason_at t clauses at c.step-step.result c.requires.trail low c.step-step.ensures in
    let reason = subst (ReasonSays (before t.marks t.places at) clauses t.starts at c.step-step.result.lit) c.in-Some.is says in
    let step = step_at t clauses at c.step-step.result c.requires.trail low c.step-step.ensures in
    let sees = subst (λ (p : List ℕ). Sees p c.args.root c.loop-seen.seen c.see.new.seen c.lits.result.now) c.places.ensures c.in_ok-see-in-Some.ensures.sees in
    record {
      top = omega arith;
      seen = analyses_resolve t clauses c.args.root at c.in-Some.reason c.step-step.result.lit c.lits.result.now c.loop-seen.seen c.see.new.seen c.requires.trail c.requires.root step reason c.lits.ensures sees w.1;
      found = c.in_ok-see-in-Some.ensures.found;
    }

pub loop-seen-smaller : goal.loop-seen-smaller
loop-seen-smaller c =
    let t = c.args.trail.now in
    let clauses = c.args.clauses.now in
    let w = at_walk t clauses c.args.start c.loop-seen.at c.loop-seen.seen c.requires.trail c.requires.start c.loop-seen.invariant.seen in
    omega (arith, w.0)

pub loop-seen-smaller-in-Continue-1 : goal.loop-seen-smaller-in-Continue-1
loop-seen-smaller-in-Continue-1 c =
    let t = c.args.trail.now in
    let clauses = c.args.clauses.now in
    let w = at_walk t clauses c.args.start c.loop-seen.at c.loop-seen.seen c.requires.trail c.requires.start c.loop-seen.invariant.seen in
    omega (arith, w.0)

pub loop-seen-preserved : goal.loop-seen-preserved
loop-seen-preserved c =
    let t = c.args.trail.now in
    let clauses = c.args.clauses.now in
    let at = c.loop-seen.at - 1 in
    let w = at_walk t clauses c.args.start c.loop-seen.at c.loop-seen.seen c.requires.trail c.requires.start c.loop-seen.invariant.seen in
    let low : at < length t.steps = omega (arith, w.0) in
    let step = step_at t clauses at c.step-step.result c.requires.trail low c.step-step.ensures in
    record {
      top = omega arith;
      seen = analyses_skip t clauses at c.step-step.result.lit c.loop-seen.seen c.requires.trail step (λ h.
          let here = subst (λ (v : ℕ). IsTrue (sees c.loop-seen.seen v)) (sym c.variable-variable.ensures.is) h in
          let unseen : false ≡ true = sym c.if-seen-variable.false ∙ here in cc) w.1;
      found = c.loop-seen.invariant.found;
    }
