use Rattle.civl_body.proofs.Beginning.{entry_is, yield_is, yield_loop_is, rank_loop_is}
use Rattle.civl_body.proofs.begin.is_entry.Goals as goal

pub returns-in-Entry-clause-entry : goal.returns-in-Entry-clause-entry
returns-in-Entry-clause-entry c = λ e. entry_is c.args.cut c.in-Entry.is

pub returns-in-Yield-clause-within : goal.returns-in-Yield-clause-within
returns-in-Yield-clause-within c = λ e. yield_is c.args.cut c.in-Yield.is

pub returns-in-YieldLoop-clause-within : goal.returns-in-YieldLoop-clause-within
returns-in-YieldLoop-clause-within c = λ e. yield_loop_is c.args.cut c.in-YieldLoop.is

pub returns-in-RankLoop-clause-within : goal.returns-in-RankLoop-clause-within
returns-in-RankLoop-clause-within c = λ e. rank_loop_is c.args.cut c.in-RankLoop.is
