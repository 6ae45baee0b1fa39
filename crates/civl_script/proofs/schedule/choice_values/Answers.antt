use Rattle.std.proofs.Common.{◌+◌, take, sym, subst}
use Rattle.civl_script.specs.Values.{IsValueOf}
use Rattle.civl_script.specs.Schedules.{AreValuesOf}
use Rattle.civl_script.proofs.Matching.{values_on, value_at}
use Rattle.civl_script.proofs.schedule.choice_values.Goals as goal

pub returns-in-None : goal.returns-in-None
returns-in-None c values h =
    let there = value_at c.args.choices.now values c.loop-choice.choice-index c.choice-item.result c.loop-choice-test.true h in
    c.value_of.ensures.none c.in-None.is there.0 (subst (λ entry. IsValueOf entry there.0) (sym c.choice-item.is) there.1)

pub loop-choice-preserved : goal.loop-choice-preserved
loop-choice-preserved c =
    subst (λ values. AreValuesOf (take (c.loop-choice.choice-index + 1) c.args.choices.now) values) (sym c.in_ok-push-in-Some.ensures.items) (
    values_on c.args.choices.now c.loop-choice.values.items c.loop-choice.choice-index c.choice-item.result c.in-Some.value
    c.loop-choice-test.true c.choice-item.is c.loop-choice.invariant c.in-Some.ensures.some)
