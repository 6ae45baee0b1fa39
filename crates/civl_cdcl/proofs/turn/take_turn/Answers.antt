use Rattle.std.proofs.Common.{◌≡◌, ◌∙◌, ◌≤◌, ◌^◌, [], ap, sym, subst, length, ℕ, List, Bool, false}
use Rattle.std.specs.Prelude.{All, Some}
use Rattle.civl_cnf.specs.Literal.{Literal}
use Rattle.civl_cnf.specs.ClauseSet.{AreBelow}
use Rattle.civl_units.specs.Propagation.{IsFalsified}
use Rattle.civl_units.specs.Marks.{marked, IsQuiet}
use Rattle.civl_propagation.specs.Trail.{TrailState, IsAt, IsTrailOver}
use Rattle.civl_rup.specs.Rup.{HasRup}
use Rattle.civl_cdcl.specs.inner.Levels.{LastSays}
use Rattle.civl_cdcl.specs.inner.Propagation.{DescentSays}
use Rattle.civl_cdcl.proofs.Turning.{refuted_by, full_as, learned_as, learned_by_cut}
use Rattle.civl_cdcl.proofs.turn.take_turn.Goals as goal

pub returns-in-Quiet-clause-says : goal.returns-in-Quiet-clause-says
returns-in-Quiet-clause-says c =
    let e = c.descend.new.engine in
    let says = c.in_ok-ended.ensures in
    let found = subst (DescentSays e) c.in-Quiet.is says.ended in
    record {
      size = says.size;
      quiet = subst (All (IsQuiet (marked e.trail.marks))) says.clauses found.0.quiet;
      whole = found.1;
    }

pub returns-in_ok-refute-in-None-clause-says : goal.returns-in_ok-refute-in-None-clause-says
returns-in_ok-refute-in-None-clause-says c =
    let n = length c.args.engine.now.trail.marks in
    let e = c.descend.new.engine in
    let says = c.in_ok-ended.ensures in
    let found = subst (DescentSays e) c.in-Conflict.is says.ended in
    let none : e.trail.starts ≡ [] = sym (c.starts.ensures ∙ ap (λ (t : TrailState). t.starts) c.trail.ensures) ∙ c.in-None.ensures in
    subst (λ (cs : List (List Literal)). HasRup n cs []) says.clauses (refuted_by e.trail e.clauses n c.in-Conflict.conflict found.0.trail none found.1)

pub learn-requires-clause-few : goal.learn-requires-clause-few
learn-requires-clause-few c =
    let found = subst (DescentSays c.descend.new.engine) c.in-Conflict.is c.in_ok-ended.ensures.ended in
    subst (λ (t : TrailState). length t.marks ≤ 2 ^ 31) (sym c.trail-in-Some.ensures) found.0.few

pub learn-requires-clause-below : goal.learn-requires-clause-below
learn-requires-clause-below c =
    let e = c.descend.new.engine in
    let found = subst (DescentSays e) c.in-Conflict.is c.in_ok-ended.ensures.ended in
    subst (λ (t : TrailState). AreBelow (length t.marks) c.clauses.result.now) (sym c.trail-in-Some.ensures)
    (subst (AreBelow (length e.trail.marks)) (sym c.clauses.ensures) found.0.below)

pub learn-requires-clause-trail : goal.learn-requires-clause-trail
learn-requires-clause-trail c =
    let e = c.descend.new.engine in
    let found = subst (DescentSays e) c.in-Conflict.is c.in_ok-ended.ensures.ended in
    subst (λ (t : TrailState). IsTrailOver t c.clauses.result.now) (sym c.trail-in-Some.ensures)
    (subst (IsTrailOver e.trail) (sym c.clauses.ensures) found.0.trail)

pub learn-requires-clause-start : goal.learn-requires-clause-start
learn-requires-clause-start c =
    let last = subst (λ (s : List ℕ). LastSays s (Some c.in-Some.start)) (c.starts.ensures ∙ ap (λ (t : TrailState). t.starts) c.trail.ensures) c.in-Some.ensures in
    subst (λ (t : TrailState). LastSays t.starts (Some c.in-Some.start)) (sym c.trail-in-Some.ensures) last

pub learn-requires-clause-conflict : goal.learn-requires-clause-conflict
learn-requires-clause-conflict c =
    let e = c.descend.new.engine in
    let r = c.in-Conflict.conflict in
    let found = subst (DescentSays e) c.in-Conflict.is c.in_ok-ended.ensures.ended in
    subst (λ (t : TrailState). IsAt c.clauses.result.now r (IsFalsified (marked t.marks))) (sym c.trail-in-Some.ensures)
    (subst (λ (cs : List (List Literal)). IsAt cs r (IsFalsified (marked e.trail.marks))) (sym c.clauses.ensures) found.1)

pub returns-else-may_learn-clause-says : goal.returns-else-may_learn-clause-says
returns-else-may_learn-clause-says c =
    let e = c.descend.new.engine in
    let says = c.in_ok-ended.ensures in
    let found = subst (DescentSays e) c.in-Conflict.is says.ended in
    let last = subst (λ (s : List ℕ). LastSays s (Some c.in-Some.start)) (c.starts.ensures ∙ ap (λ (t : TrailState). t.starts) c.trail.ensures) c.in-Some.ensures in
    let learned = learned_as _ _ _ _ _ _ c.trail-in-Some.ensures c.clauses.ensures c.in_ok-learned-in-Some.ensures.says in
    full_as c.args.engine.now e _ _ _ c.in-Some.start says.size says.clauses c.if-may_learn.false found.0.trail last learned

pub go_back-requires-clause-engine : goal.go_back-requires-clause-engine
go_back-requires-clause-engine c =
    let found = subst (DescentSays c.descend.new.engine) c.in-Conflict.is c.in_ok-ended.ensures.ended in
    found.0

pub go_back-requires-clause-levels : goal.go_back-requires-clause-levels
go_back-requires-clause-levels c =
    let learned = learned_as _ _ _ _ _ _ c.trail-in-Some.ensures c.clauses.ensures c.in_ok-learned-in-Some.ensures.says in
    learned.fewer

pub learn-requires-clause-seen : goal.learn-requires-clause-seen
learn-requires-clause-seen c =
    subst (λ (t : TrailState). length c.deref_mut.result.now ≡ length t.marks) (sym c.trail-in-Some.ensures) (ap length c.deref_mut.ensures.value ∙ c.requires.clear.size ∙ sym c.in_ok-ended.ensures.size)

pub learn-requires-clause-none : goal.learn-requires-clause-none
learn-requires-clause-none c = subst (All (λ (b : Bool). b ≡ false)) (sym c.deref_mut.ensures.value) c.requires.clear.none

pub returns-then-may_learn-clause-says : goal.returns-then-may_learn-clause-says
returns-then-may_learn-clause-says c =
    let e = c.descend.new.engine in
    let says = c.in_ok-ended.ensures in
    let found = subst (DescentSays e) c.in-Conflict.is says.ended in
    let learned = learned_as _ _ _ _ _ _ c.trail-in-Some.ensures c.clauses.ensures c.in_ok-learned-in-Some.ensures.says in
    learned_by_cut c.args.engine.now e c.go_back.new.engine _ _ _ says.size says.clauses c.if-may_learn.true found.0.trail learned c.in_ok-go_back-in-Some.ensures.back
