use Rattle.std.proofs.Common.{◌∙◌, sym, ap, true, false}
use Rattle.civl_portfolio.specs.declared.attempt.Attempt.TheVariants.{Sat}
use Rattle.civl_provers.proofs.Tries.{next_try}
use Rattle.civl_provers.proofs.probe.try_all.Goals as goal

pub returns-then-is_made_true : goal.returns-then-is_made_true
returns-then-is_made_true c =
    ap Sat c.in_ok-copy.ensures
    ∙ sym (next_try c.args.cnf.now c.args.tries.now c.loop-bits.bits-index c.bits-item.result true c.loop-bits-test.true c.bits-item.is (sym c.is_made_true.ensures ∙ c.if-is_made_true.true))
    ∙ c.loop-bits.invariant

pub loop-bits-preserved : goal.loop-bits-preserved
loop-bits-preserved c =
    sym (next_try c.args.cnf.now c.args.tries.now c.loop-bits.bits-index c.bits-item.result false c.loop-bits-test.true c.bits-item.is (sym c.is_made_true.ensures ∙ c.if-is_made_true.false))
    ∙ c.loop-bits.invariant
