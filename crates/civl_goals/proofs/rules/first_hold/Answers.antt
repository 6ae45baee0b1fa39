use Rattle.std.proofs.Common.{◌∙◌, sym}
use Rattle.civl_goals.proofs.Misplacing.{hold_here, hold_later}
use Rattle.civl_goals.proofs.rules.first_hold.Goals as goal

pub returns-then-not-says : goal.returns-then-not-says
returns-then-not-says c =
    sym (hold_here c.args.program.now c.args.holds.now c.loop-number.number c.index-holds-number.result c.loop-number-test.true c.index-holds-number.is (sym c.says.ensures ∙ c.if-not-says.true)) ∙ c.loop-number.invariant

pub loop-number-preserved : goal.loop-number-preserved
loop-number-preserved c =
    hold_later c.args.program.now c.args.holds.now c.loop-number.number c.index-holds-number.result c.loop-number-test.true c.index-holds-number.is (sym c.says.ensures ∙ c.if-not-says.false) ∙ c.loop-number.invariant
