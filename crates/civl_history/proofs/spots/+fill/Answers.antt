use Rattle.std.proofs.Common.{rules, arith, ◌+◌, ◌-◌, ◌*◌, ◌^◌, ◌<◌, ◌≤◌, length, drop, ap, refl, ◌∙◌, ℕ, Option}
use Rattle.std.proofs.lemmas.List.{length-set}
use Rattle.civl_tree.specs.Numbering.{size_of, sizes_of}
use Rattle.civl_meaning.specs.Places.{Spot, start_of, first_in, loop_spot}
use Rattle.civl_meaning.proofs.Tables.{turn}
use Rattle.civl_history.specs.inner.Spots.{IsFound}
use Rattle.civl_history.proofs.Filling.{turned, Turned, all_filled, fills_if, fills_while, fills_yield_loop, fills_rank_loop}
use Rattle.civl_history.proofs.spots.+fill.Goals as goal

pub fill-fill_inside-requires : goal.fill-fill_inside-requires
fill-fill_inside-requires t c =
    let k = turn c.as_slice-items.result.now c.args.at c.loop-left.left c.loop-left.behind c.size.result c.index-items-left.result (omega arith) c.loop-left.invariant.left c.index-items-left.is c.loop-left.invariant.behind c.size.ensures in
    let sum = k.sum in
    let high = k.high in
    let long = c.loop-left.invariant.long in
    let same = ap sizes_of c.as_slice-items.ensures in
    let small : c.loop-left.behind - c.size.result + size_of c.index-items-left.result < 2 ^ 64 = omega (arith, c.requires.small) in
    let room : c.loop-left.behind - c.size.result + size_of c.index-items-left.result ≤ length c.loop-left.entries = omega (arith, c.requires.room) in
    let left = c.loop-left.invariant.left in
    let within = k.within in
    let less : 2 * size_of c.index-items-left.result < 2 * sizes_of c.args.stmts.now + 1 = omega arith in
    search rules

pub fill-offset_bounds-entries-here : goal.fill-offset_bounds-entries-here
fill-offset_bounds-entries-here t c =
    let k = turn c.as_slice-items.result.now c.args.at c.loop-left.left c.loop-left.behind c.size.result c.index-items-left.result (omega arith) c.loop-left.invariant.left c.index-items-left.is c.loop-left.invariant.behind c.size.ensures in
    let sum = k.sum in
    let high = k.high in
    let some = k.some in
    let long = c.loop-left.invariant.long in
    let same = ap sizes_of c.as_slice-items.ensures in
    let within : c.loop-left.behind - c.size.result < length c.fill_inside.new.entries = omega (arith, c.requires.room, c.fill_inside.ensures.long) in
    search rules

pub fill-bounds-entries-here : goal.fill-bounds-entries-here
fill-bounds-entries-here t c =
    let k = turn c.as_slice-items.result.now c.args.at c.loop-left.left c.loop-left.behind c.size.result c.index-items-left.result (omega arith) c.loop-left.invariant.left c.index-items-left.is c.loop-left.invariant.behind c.size.ensures in
    let sum = k.sum in
    let high = k.high in
    let some = k.some in
    let long = c.loop-left.invariant.long in
    let same = ap sizes_of c.as_slice-items.ensures in
    omega (arith, c.requires.room, c.fill_inside.ensures.long)

pub fill-loop-left-preserved : goal.fill-loop-left-preserved
fill-loop-left-preserved t c =
    let items = c.as_slice-items.result.now in
    let here = c.loop-left.behind - c.size.result in
    let s = c.index-items-left.result in
    let k = turn items c.args.at c.loop-left.left c.loop-left.behind c.size.result s (omega arith) c.loop-left.invariant.left c.index-items-left.is c.loop-left.invariant.behind c.size.ensures in
    let long = c.loop-left.invariant.long in
    let same = ap sizes_of c.as_slice-items.ensures in
    let rest = drop c.loop-left.left items in
    let next_of : ℕ → ℕ = λ next. start_of rest c.loop-left.behind next in
    let last_of : ℕ → Option Spot → Option Spot = λ next last. first_in rest c.loop-left.behind next last in
    let done : (next : ℕ) (last : Option Spot) → IsFound c.args.after last → Turned (drop (c.loop-left.left - 1) items) c.args.entries.now _ here (c.args.at + sizes_of items) next last c.found_here-after.result
    = λ next last h.
    let found = c.loop-left.invariant.after next last h in
    turned c.args.entries.now c.loop-left.entries c.fill_inside.new.entries items c.args.at c.loop-left.left c.loop-left.behind here next s last c.found_here-after.result k (omega (arith, c.requires.room)) (c.loop-left.invariant.filled next last h)
    (c.fill_inside.ensures.filled (next_of next) (last_of next last) found) (c.found_here-after.ensures (next_of next) (last_of next last) found) in
    record {
      left = let l = c.loop-left.invariant.left in omega arith;
      behind = k.there;
      long = length-set c.fill_inside.new.entries here c.found_here-after.result ∙ c.fill_inside.ensures.long ∙ c.loop-left.invariant.long;
      after = λ next last h. (done next last h).first;
      filled = λ next last h. (done next last h).filled;
    }

pub fill_inside-returns-in-If-clause-filled : goal.fill_inside-returns-in-If-clause-filled
fill_inside-returns-in-If-clause-filled t c next last h =
    fills_if c.args.stmt.now c.in-If.field-0 c.in-If.a c.in-If.b c.args.entries.now c.fill.new.entries c.fill-in-If.new.entries c.args.at next (c.args.at + 1 + c.sizes.result) last c.in-If.is (let e = c.sizes.ensures in omega arith) (c.fill.ensures.filled next last h) (c.fill-in-If.ensures.filled next last h)

pub fill_inside-returns-in-While-clause-filled : goal.fill_inside-returns-in-While-clause-filled
fill_inside-returns-in-While-clause-filled t c next last h =
    fills_while c.args.stmt.now c.args.entries.now c.fill-in-While.new.entries c.args.at next last c.in-While.field-0 c.in-While.a c.in-While.is (c.fill-in-While.ensures.filled c.args.at (loop_spot c.args.stmt.now c.args.at next) refl)

pub fill_inside-returns-in-YieldLoop-clause-filled : goal.fill_inside-returns-in-YieldLoop-clause-filled
fill_inside-returns-in-YieldLoop-clause-filled t c next last h =
    fills_yield_loop c.args.stmt.now c.args.entries.now c.fill-in-YieldLoop.new.entries c.args.at next last c.in-YieldLoop.field-0 c.in-YieldLoop.field-1 c.in-YieldLoop.a c.in-YieldLoop.is (c.fill-in-YieldLoop.ensures.filled c.args.at (loop_spot c.args.stmt.now c.args.at next) refl)

pub fill_inside-returns-in-RankLoop-clause-filled : goal.fill_inside-returns-in-RankLoop-clause-filled
fill_inside-returns-in-RankLoop-clause-filled t c next last h =
    fills_rank_loop c.args.stmt.now c.args.entries.now c.fill-in-RankLoop.new.entries c.args.at next last c.in-RankLoop.field-0 c.in-RankLoop.field-1 c.in-RankLoop.field-2 c.in-RankLoop.a c.in-RankLoop.is (c.fill-in-RankLoop.ensures.filled c.args.at (loop_spot c.args.stmt.now c.args.at next) refl)

pub fill-returns-clause-filled : goal.fill-returns-clause-filled
fill-returns-clause-filled t c next last h =
    all_filled c.args.entries.now c.loop-left.entries c.args.stmts.now c.as_slice-items.result.now c.args.at c.loop-left.left c.loop-left.behind next last c.as_slice-items.ensures (omega arith) c.loop-left.invariant.behind (c.loop-left.invariant.filled next last h)
