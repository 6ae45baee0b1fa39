use Rattle.std.proofs.Common.{refl, ◌∙◌, sym, ap, subst, get_or, List, Bool}
use Rattle.std.specs.Prelude.{Option, None, Some}
use Rattle.civl_cnf.specs.Literal.{Literal}
use Rattle.civl_units.specs.Marks.{marked}
use Rattle.civl_propagation.specs.Watches.{ReplacementSays}
use Rattle.civl_propagation.proofs.Visiting.{visit_unwatched, visit_true, never_falsified, visit_moved, visit_forced}
use Rattle.civl_propagation.proofs.visits.visit.Goals as goal

pub returns-in-None : goal.returns-in-None
returns-in-None c step v =
    visit_unwatched c.args.trail.now c.args.clauses.now c.args.watches.now c.args.falsified step c.args.at c.at-number.result (get_or c.args.watches.now.pairs c.at-number.result None) v c.requires.place c.at-number.ensures refl c.in-None.ensures

pub returns-then-is_true : goal.returns-then-is_true
returns-then-is_true c step v =
    let other = c.in-Some.other in
    visit_true c.args.trail.now c.args.clauses.now c.args.watches.now c.args.falsified other step c.args.at c.at-number.result (get_or c.args.watches.now.pairs c.at-number.result None) v c.requires.place c.at-number.ensures refl c.in-Some.ensures
    (ap (λ (m : List (Option Bool)). marked m other.variable other.positive) (sym c.marks.ensures) ∙ sym c.is_true.ensures ∙ c.if-is_true.true)

pub rewatch-requires-clause-other : goal.rewatch-requires-clause-other
rewatch-requires-clause-other c =
    let t = c.args.trail.now in
    let other = c.in-Some.other in
    let next = c.in-Some-replacement.next in
    let found = subst (λ (m : List (Option Bool)). ReplacementSays m c.lits.result.now other (Some next)) c.marks-in-Some.ensures c.in-Some-replacement.ensures in
    never_falsified t c.args.clauses.now c.args.watches.now c.args.falsified next c.requires.visiting.0 c.args.at c.requires.visiting.1 found.2

pub returns-in_ok-rewatch-in-Some-replacement : goal.returns-in_ok-rewatch-in-Some-replacement
returns-in_ok-rewatch-in-Some-replacement c step v =
    let t = c.args.trail.now in
    let other = c.in-Some.other in
    let next = c.in-Some-replacement.next in
    let found = subst (λ (m : List (Option Bool)). ReplacementSays m c.lits.result.now other (Some next)) c.marks-in-Some.ensures c.in-Some-replacement.ensures in
    let says = subst (λ (x : List Literal). ReplacementSays t.marks x other (Some next)) c.lits.ensures found in
    visit_moved t c.args.clauses.now c.args.watches.now c.rewatch.new.self c.args.falsified other next step c.args.at c.at-number.result (get_or c.args.watches.now.pairs c.at-number.result None) v c.requires.place c.at-number.ensures refl c.in-Some.ensures says c.in_ok-rewatch-in-Some-replacement.ensures

pub returns-in_ok-did-in-None-replacement : goal.returns-in_ok-did-in-None-replacement
returns-in_ok-did-in-None-replacement c step v =
    let t = c.args.trail.now in
    let other = c.in-Some.other in
    let found = subst (λ (m : List (Option Bool)). ReplacementSays m c.lits.result.now other None) c.marks-in-Some.ensures c.in-None-replacement.ensures in
    let says = subst (λ (x : List Literal). ReplacementSays t.marks x other None) c.lits.ensures found in
    visit_forced t c.force.new.trail c.args.clauses.now c.args.watches.now c.args.falsified other step c.args.at c.at-number.result (get_or c.args.watches.now.pairs c.at-number.result None) c.in_ok-did-in-None-replacement.did v c.requires.below c.requires.place c.at-number.ensures refl c.in-Some.ensures says c.in_ok-did-in-None-replacement.ensures
