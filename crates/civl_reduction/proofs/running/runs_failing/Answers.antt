use Rattle.std.proofs.Common.{sym, ap, ◌∙◌}
use Rattle.std.specs.Prelude.{is_some}
use Rattle.civl_reduction.proofs.Ending.{fails_not, fails_so}
use Rattle.civl_reduction.proofs.running.runs_failing.Goals as goal

pub returns-in-None : goal.returns-in-None
returns-in-None c = fails_not c.args.plain.now c.args.from.now c.args.moves.now (sym c.in-None.is ∙ c.in_ok-end.ensures.end)

pub returns-in-Some : goal.returns-in-Some
returns-in-Some c = fails_so c.args.plain.now c.args.from.now c.args.moves.now c.in-Some.config (sym c.in-Some.is ∙ c.in_ok-end.ensures.end) c.is_some.result (c.is_some.ensures ∙ ap is_some c.failing.ensures)
