use Rattle.std.proofs.Common.{◌≡◌, subst}
use Rattle.std.specs.Prelude.{IfOk}
use Rattle.civl_conditions.specs.Values.{Begun}
use Rattle.civl_losses.specs.Beginnings.{begun_from}
use Rattle.civl_losses.proofs.Reading.{entry_begins, yield_begins, yield_loop_begins, rank_begins}
use Rattle.civl_losses.proofs.beginning.begins.Goals as goal

pub returns-in-Entry : goal.returns-in-Entry
returns-in-Entry c =
    let from = c.args.from.now in
    subst (λ (g : Begun). IfOk c.at_entry.result (λ b. begun_from b ≡ g)) (entry_begins from.program.now from.step from.proc.now from.cut c.args.values.now c.in-Entry.is) c.at_entry.ensures

pub returns-in-Yield : goal.returns-in-Yield
returns-in-Yield c =
    let from = c.args.from.now in
    subst (λ (g : Begun). IfOk c.at_yield.result (λ b. begun_from b ≡ g)) (yield_begins from.program.now from.step from.proc.now from.cut c.args.values.now c.in-Yield.is) c.at_yield.ensures

pub returns-in-YieldLoop : goal.returns-in-YieldLoop
returns-in-YieldLoop c =
    let from = c.args.from.now in
    subst (λ (g : Begun). IfOk c.at_yield-in-YieldLoop.result (λ b. begun_from b ≡ g)) (yield_loop_begins from.program.now from.step from.proc.now from.cut c.args.values.now c.in-YieldLoop.is)
    c.at_yield-in-YieldLoop.ensures

pub returns-in-RankLoop : goal.returns-in-RankLoop
returns-in-RankLoop c =
    let from = c.args.from.now in
    subst (λ (g : Begun). IfOk c.at_rank.result (λ b. begun_from b ≡ g)) (rank_begins from.program.now from.step from.proc.now from.cut c.args.values.now c.in-RankLoop.is) c.at_rank.ensures
