use Rattle.std.proofs.Common.{◌∙◌, sym}
use Rattle.civl_marks.proofs.Told.{by_violation, by_loss}
use Rattle.civl_marks.proofs.marks.is_violated.Goals as goal

pub returns-then-clashing : goal.returns-then-clashing
returns-then-clashing c =
    c.if-clashing.true
    ∙ sym (by_violation c.args.src.now c.args.condition.now c.args.values.now (sym c.in_ok-clashing.ensures ∙ c.if-clashing.true))

pub returns-else-clashing : goal.returns-else-clashing
returns-else-clashing c =
    c.in_ok-lost.ensures.lost
    ∙ by_loss c.is_lost.ensures.told c.args.src.now c.args.condition.now c.args.values.now (sym c.in_ok-clashing.ensures ∙ c.if-clashing.false)
