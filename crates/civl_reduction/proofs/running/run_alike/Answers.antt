use Rattle.std.proofs.Common.{sym, ◌∙◌}
use Rattle.civl_reduction.proofs.Ending.{alike_not_first, alike_not_second, alike_both}
use Rattle.civl_reduction.proofs.running.run_alike.Goals as goal

pub returns-in-None : goal.returns-in-None
returns-in-None c = alike_not_first c.args.plain.now c.args.from.now c.args.moves.now c.args.others.now (sym c.in-None.is ∙ c.in_ok-first.ensures.end)

pub returns-in-None-second : goal.returns-in-None-second
returns-in-None-second c = alike_not_second c.args.plain.now c.args.from.now c.args.moves.now c.args.others.now (sym c.in-None-second.is ∙ c.in_ok-second.ensures.end)

pub returns : goal.returns
returns c =
    alike_both c.args.plain.now c.args.from.now c.args.moves.now c.args.others.now c.in-Some.end c.in-Some-second.other c.same.result
    (sym c.in-Some.is ∙ c.in_ok-first.ensures.end) (sym c.in-Some-second.is ∙ c.in_ok-second.ensures.end) c.same.ensures
