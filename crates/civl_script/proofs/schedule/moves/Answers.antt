use Rattle.std.proofs.Common.{◌+◌, take, refl, sym, subst}
use Rattle.civl_script.specs.Schedules.{AreValuesOf, AreValuesFound, AreMovesOf}
use Rattle.civl_script.proofs.Matching.{moves_on, moves_off}
use Rattle.civl_script.proofs.schedule.moves.Goals as goal

pub returns-in-None : goal.returns-in-None
returns-in-None c =
    let none = subst (λ found. AreValuesFound c.as_slice.result.now found) c.in-None.is c.in_ok-choices.ensures in
    moves_off c.args.steps.now c.loop-at.moves.items c.loop-at.at c.index-steps-at.result c.loop-at-test.true c.index-steps-at.is c.loop-at.invariant (
    λ values h. none values (subst (λ entries. AreValuesOf entries values) (sym c.as_slice.ensures) h))

pub loop-at-preserved : goal.loop-at-preserved
loop-at-preserved c =
    let some = subst (λ found. AreValuesFound c.as_slice.result.now found) c.in-Some.is c.in_ok-choices.ensures in
    let choices = subst (λ entries. AreValuesOf entries c.in-Some.choices) c.as_slice.ensures some in
    subst (λ moves. AreMovesOf (take (c.loop-at.at + 1) c.args.steps.now) moves) (sym c.in_ok-push-in-Some.ensures.items) (
    moves_on c.args.steps.now c.loop-at.moves.items c.loop-at.at c.index-steps-at.result _ c.loop-at-test.true c.index-steps-at.is c.loop-at.invariant (
    record { thread = refl; choices = choices }))
