use Rattle.std.proofs.Common.{arith, subst, sym, length, List, [], Bool, get_or}
use Rattle.std.specs.Prelude.{Option}
use Rattle.std.proofs.lemmas.List.{get_or_default}
use Rattle.civl_cnf.specs.Literal.{Literal}
use Rattle.civl_cnf.specs.ClauseSet.{IsBelow}
use Rattle.civl_units.specs.Propagation.{IsFalsified, IsUnit}
use Rattle.civl_units.specs.Marks.{marked, IsQuiet, RuleSays}
use Rattle.civl_units.specs.declared.rule.Rule.TheVariants.{Forces}
use Rattle.civl_propagation.proofs.Serving.{unit_within, goes_self, visit_forces, visit_quiet}
use Rattle.civl_propagation.proofs.propagation.serve.Goals as goal

pub rule_of-requires : goal.rule_of-requires
rule_of-requires c =
    let t = c.args.trail.now in
    let clause = subst (IsBelow (length t.marks)) (get_or_default c.args.clauses.now c.args.number c.lits.result.now [] c.requires.number) (c.requires.below c.args.number c.lits.result.now c.requires.number) in
    subst (λ (m : List (Option Bool)). IsBelow (length m) c.lits.result.now) (sym c.marks.ensures) (subst (IsBelow (length t.marks)) (sym c.lits.ensures) clause)

pub push-requires-clause-marks : goal.push-requires-clause-marks
push-requires-clause-marks c =
    let t = c.args.trail.now in
    let number = c.args.number in
    let below = c.requires.below number [] c.requires.number in
    unit_within (length t.marks) (marked c.marks.result.now) (get_or c.args.clauses.now number []) c.in-Forces.lit (subst (λ (x : List Literal). IsUnit (marked c.marks.result.now) x c.in-Forces.lit) c.lits.ensures c.in-Forces.ensures.0) below

pub push-requires-clause-places : goal.push-requires-clause-places
push-requires-clause-places c =
    let t = c.args.trail.now in
    let number = c.args.number in
    let below = c.requires.below number [] c.requires.number in
    let low = unit_within (length t.marks) (marked c.marks.result.now) (get_or c.args.clauses.now number []) c.in-Forces.lit (subst (λ (x : List Literal). IsUnit (marked c.marks.result.now) x c.in-Forces.lit) c.lits.ensures c.in-Forces.ensures.0) below in
    let size = c.requires.trail.size in
    omega arith

pub returns-in-Falsified : goal.returns-in-Falsified
returns-in-Falsified c =
    let t = c.args.trail.now in
    let says = subst (λ (m : List (Option Bool)). IsFalsified (marked m) c.lits.result.now) c.marks.ensures c.in-Falsified.ensures in
    (goes_self t c.args.clauses.now c.requires.trail, (c.requires.number, subst (IsFalsified (marked t.marks)) c.lits.ensures says))

pub returns-then-quiet : goal.returns-then-quiet
returns-then-quiet c = visit_quiet c.args.trail.now c.args.clauses.now c.args.number c.requires.trail c.requires.number (c.requires.known c.if-quiet.true)

pub returns-in-Quiet : goal.returns-in-Quiet
returns-in-Quiet c =
    let t = c.args.trail.now in
    let says = subst (λ (m : List (Option Bool)). IsQuiet (marked m) c.lits.result.now) c.marks.ensures c.in-Quiet.ensures in
    visit_quiet t c.args.clauses.now c.args.number c.requires.trail c.requires.number (subst (IsQuiet (marked t.marks)) c.lits.ensures says)

pub returns-in_ok-push-in-Forces : goal.returns-in_ok-push-in-Forces
returns-in_ok-push-in-Forces c =
    let t = c.args.trail.now in
    let number = c.args.number in
    let l = c.in-Forces.lit in
    let below = c.requires.below number [] c.requires.number in
    let says = subst (λ (m : List (Option Bool)). RuleSays m c.lits.result.now (Forces l)) c.marks.ensures c.in-Forces.ensures in
    let unit = subst (λ (x : List Literal). IsUnit (marked t.marks) x l) c.lits.ensures says.0 in
    visit_forces t c.push.new.self c.args.clauses.now number c.requires.trail c.requires.number l unit says.1
    (unit_within (length t.marks) (marked t.marks) (get_or c.args.clauses.now number []) l unit below) c.in_ok-push-in-Forces.ensures.ok
