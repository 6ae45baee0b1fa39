use Rattle.std.proofs.Common.{◌≡◌, ◌<◌, ◌∙◌, ap, get_or, sym, subst, length, arith, List, ℕ}
use Rattle.civl_propagation.specs.Trail.{ReasonSays, before}
use Rattle.civl_cdcl.specs.inner.Analysis.{AreSeen}
use Rattle.civl_cdcl.proofs.Analysing.{clause_within, reason_at}
use Rattle.civl_cdcl.proofs.Lessons.{follows_by}
use Rattle.civl_cdcl.proofs.teaching.is_redundant.Goals as goal

pub place_in-place-requires : goal.place_in-place-requires
place_in-place-requires c = subst (λ (p : List ℕ). c.args.variable < length p) (sym c.places.ensures) (omega (arith, c.requires.trail.size))

pub lits-requires : goal.lits-requires
lits-requires c =
    let t = c.args.trail.now in
    let clauses = c.args.clauses.now in
    let at = c.place_in-place.result in
    let low : at < length t.steps = omega (arith, c.len.ensures) in
    let says = reason_at t clauses at c.step-step.result c.requires.trail low c.step-step.ensures in
    let reason = subst (ReasonSays (before t.marks t.places at) clauses t.starts at c.step-step.result.lit) c.in-Some.is says in
    reason.0

pub all_seen-requires-clause-clause : goal.all_seen-requires-clause-clause
all_seen-requires-clause-clause c =
    let t = c.args.trail.now in
    let clauses = c.args.clauses.now in
    let at = c.place_in-place.result in
    let low : at < length t.steps = omega (arith, c.len.ensures) in
    let says = reason_at t clauses at c.step-step.result c.requires.trail low c.step-step.ensures in
    let reason = subst (ReasonSays (before t.marks t.places at) clauses t.starts at c.step-step.result.lit) c.in-Some.is says in
    clause_within (length c.args.seen.now) (length t.marks) clauses c.in-Some.reason c.lits.result.now c.requires.seen c.requires.below reason.0 c.lits.ensures

pub all_seen-requires-clause-places : goal.all_seen-requires-clause-places
all_seen-requires-clause-places c =
    subst (λ (p : List ℕ). length p ≡ length c.args.seen.now) (sym c.places-in-Some.ensures) (c.requires.trail.size ∙ sym c.requires.seen)

pub returns-in-Some : goal.returns-in-Some
returns-in-Some c h =
    let t = c.args.trail.now in
    let clauses = c.args.clauses.now in
    let at = c.place_in-place.result in
    let low : at < length t.steps = omega (arith, c.len.ensures) in
    let place : at ≡ get_or t.places c.args.variable 0 = c.place_in-place.ensures ∙ ap (λ (p : List ℕ). get_or p c.args.variable 0) c.places.ensures in
    let all = subst (λ (p : List ℕ). AreSeen p c.args.root c.args.seen.now c.args.variable c.lits.result.now) c.places-in-Some.ensures (c.all_seen.ensures h) in
    follows_by t clauses c.args.root c.args.variable at c.in-Some.reason c.step-step.result c.lits.result.now c.args.seen.now c.requires.trail c.requires.root place low c.step-step.ensures c.in-Some.is c.lits.ensures all
