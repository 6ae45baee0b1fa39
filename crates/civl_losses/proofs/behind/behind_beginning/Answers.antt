use Rattle.std.proofs.Common.{◌≡◌, List, subst}
use Rattle.std.specs.Prelude.{IfOk}
use Rattle.civl_bits.specs.declared.value.Value.{Value}
use Rattle.civl_losses.proofs.Reading.{entry_behind, yield_behind, yield_loop_behind, rank_is_behind}
use Rattle.civl_losses.proofs.behind.behind_beginning.Goals as goal

pub returns-in-Entry : goal.returns-in-Entry
returns-in-Entry c =
    let from = c.args.from.now in
    subst (λ (vs : List Value). IfOk c.behind_entry.result (λ rest. rest.now ≡ vs)) (entry_behind from.program.now from.step from.proc.now from.cut c.args.values.now c.in-Entry.is) c.behind_entry.ensures

pub returns-in-Yield : goal.returns-in-Yield
returns-in-Yield c =
    let from = c.args.from.now in
    subst (λ (vs : List Value). IfOk c.behind_yield.result (λ rest. rest.now ≡ vs)) (yield_behind from.program.now from.step from.proc.now from.cut c.args.values.now c.in-Yield.is) c.behind_yield.ensures

pub returns-in-YieldLoop : goal.returns-in-YieldLoop
returns-in-YieldLoop c =
    let from = c.args.from.now in
    subst (λ (vs : List Value). IfOk c.behind_yield-in-YieldLoop.result (λ rest. rest.now ≡ vs)) (yield_loop_behind from.program.now from.step from.proc.now from.cut c.args.values.now c.in-YieldLoop.is)
    c.behind_yield-in-YieldLoop.ensures

pub returns-in-RankLoop : goal.returns-in-RankLoop
returns-in-RankLoop c =
    let from = c.args.from.now in
    subst (λ (vs : List Value). IfOk c.behind_rank.result (λ rest. rest.now ≡ vs)) (rank_is_behind from.program.now from.step from.proc.now from.cut c.args.values.now c.in-RankLoop.is) c.behind_rank.ensures
