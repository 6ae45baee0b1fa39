use Rattle.std.proofs.Common.{◌∙◌}
use Rattle.civl_assumptions.proofs.Beginning.{entry_done, yield_done, yield_loop_done, rank_done}
use Rattle.civl_assumptions.proofs.beginnings.old_done.Goals as goal

pub returns-in-Entry : goal.returns-in-Entry
returns-in-Entry c = entry_done c.args.program.now c.args.step c.args.proc.now c.args.values.now c.args.cut c.in-Entry.is

pub returns-in-Yield : goal.returns-in-Yield
returns-in-Yield c =
    c.done_at_yield.ensures ∙ yield_done c.args.program.now c.args.step c.args.proc.now c.args.values.now c.args.cut c.in-Yield.is

pub returns-in-YieldLoop : goal.returns-in-YieldLoop
returns-in-YieldLoop c =
    c.done_at_yield-in-YieldLoop.ensures ∙ yield_loop_done c.args.program.now c.args.step c.args.proc.now c.args.values.now c.args.cut c.in-YieldLoop.is

pub returns-in-RankLoop : goal.returns-in-RankLoop
returns-in-RankLoop c =
    c.old_done_at_rank.ensures ∙ rank_done c.args.program.now c.args.step c.args.proc.now c.args.values.now c.args.cut c.in-RankLoop.is
