use Rattle.std.proofs.Common.{◌<◌, subst, List, length}
use Rattle.std.specs.Prelude.{Option, Bool}
use Rattle.std.proofs.lemmas.List.Elements.{All-contains}
use Rattle.civl_cnf.specs.Literal.{Literal}
use Rattle.civl_units.specs.Marks.{RuleSays}
use Rattle.civl_units.specs.declared.rule.Rule.TheVariants.{Falsified, Forces}
use Rattle.civl_rup.proofs.Hints.{loose_decides, follows_decides, unit_holds, falsified_conflict}
use Rattle.civl_rup.proofs.following.heed.Goals as goal

pub returns-in-Falsified-clause-says : goal.returns-in-Falsified-clause-says
returns-in-Falsified-clause-says c clauses there first falses f =
    let says = subst (λ (m : List (Option Bool)). RuleSays m c.args.clause.now Falsified) c.marks.ensures (subst (RuleSays c.marks.result.now c.args.clause.now) c.in-Falsified.is c.rule_of.ensures) in
    (f, λ yes. falsified_conflict c.args.trail.now c.args.clause.now clauses first falses there says f)

pub returns-in_ok-decide-in-Forces-clause-loose : goal.returns-in_ok-decide-in-Forces-clause-loose
returns-in_ok-decide-in-Forces-clause-loose c =
    let l = c.in-Forces.lit in
    let says = subst (λ (m : List (Option Bool)). RuleSays m c.args.clause.now (Forces l)) c.marks.ensures (subst (RuleSays c.marks.result.now c.args.clause.now) c.in-Forces.is c.rule_of.ensures) in
    let low = All-contains (λ (m : Literal). m.variable < length c.args.trail.now.marks) c.args.clause.now l c.requires.below says.0.0 in
    loose_decides c.args.trail.now c.decide.new.self l c.requires.loose low says.1 c.in_ok-decide-in-Forces.ensures

pub returns-in_ok-decide-in-Forces-clause-says : goal.returns-in_ok-decide-in-Forces-clause-says
returns-in_ok-decide-in-Forces-clause-says c clauses there first falses f =
    let l = c.in-Forces.lit in
    let says = subst (λ (m : List (Option Bool)). RuleSays m c.args.clause.now (Forces l)) c.marks.ensures (subst (RuleSays c.marks.result.now c.args.clause.now) c.in-Forces.is c.rule_of.ensures) in
    let low = All-contains (λ (m : Literal). m.variable < length c.args.trail.now.marks) c.args.clause.now l c.requires.below says.0.0 in (
      follows_decides c.args.trail.now c.decide.new.self l first clauses falses c.requires.loose low says.1 c.in_ok-decide-in-Forces.ensures f
          (λ s fails closed within. unit_holds c.args.trail.now c.args.clause.now l clauses s there says.0 closed within),
      λ yes. cc,
    )
