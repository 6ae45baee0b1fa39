use Rattle.std.proofs.Common.{rules, arith, ◌+◌, ◌-◌, ◌*◌, ◌^◌, ◌<◌, ◌≤◌, length, ap}
use Rattle.civl_tree.specs.Numbering.{size_of, sizes_of}
use Rattle.civl_meaning.specs.Found.{spot}
use Rattle.civl_meaning.proofs.Tables.{turn, turned, fills_if, fills_while, fills_yield_loop, fills_rank_loop}
use Rattle.civl_meaning.proofs.filling.+fill.Goals as goal

pub fill-fill_inside-requires : goal.fill-fill_inside-requires
fill-fill_inside-requires t c =
    let k = turn c.as_slice-items.result.now c.args.at c.loop-left.left c.loop-left.behind c.size.result c.index-items-left.result (omega arith) c.loop-left.invariant.left c.index-items-left.is c.loop-left.invariant.behind c.size.ensures in
    let sum = k.sum in
    let high = k.high in
    let long = c.loop-left.invariant.filled.long in
    let same = ap sizes_of c.as_slice-items.ensures in
    let small : c.loop-left.behind - c.size.result + size_of c.index-items-left.result < 2 ^ 64 = omega (arith, c.requires.small) in
    let room : c.loop-left.behind - c.size.result + size_of c.index-items-left.result ≤ length c.loop-left.entries = omega (arith, c.requires.room) in
    let left = c.loop-left.invariant.left in
    let within = k.within in
    let less : 2 * size_of c.index-items-left.result < 2 * sizes_of c.args.stmts.now + 1 = omega arith in
    search rules

pub fill-offset_bounds-entries-here : goal.fill-offset_bounds-entries-here
fill-offset_bounds-entries-here t c =
    let k = turn c.as_slice-items.result.now c.args.at c.loop-left.left c.loop-left.behind c.size.result c.index-items-left.result (omega arith) c.loop-left.invariant.left c.index-items-left.is c.loop-left.invariant.behind c.size.ensures in
    let sum = k.sum in
    let high = k.high in
    let some = k.some in
    let long = c.loop-left.invariant.filled.long in
    let same = ap sizes_of c.as_slice-items.ensures in
    let within : c.loop-left.behind - c.size.result < length c.fill_inside.new.entries = omega (arith, c.requires.room, c.fill_inside.ensures.long) in
    search rules

pub fill-bounds-entries-here : goal.fill-bounds-entries-here
fill-bounds-entries-here t c =
    let k = turn c.as_slice-items.result.now c.args.at c.loop-left.left c.loop-left.behind c.size.result c.index-items-left.result (omega arith) c.loop-left.invariant.left c.index-items-left.is c.loop-left.invariant.behind c.size.ensures in
    let sum = k.sum in
    let high = k.high in
    let some = k.some in
    let long = c.loop-left.invariant.filled.long in
    let same = ap sizes_of c.as_slice-items.ensures in
    omega (arith, c.requires.room, c.fill_inside.ensures.long)

pub fill-loop-left-preserved : goal.fill-loop-left-preserved
fill-loop-left-preserved t c =
    let k = turn c.as_slice-items.result.now c.args.at c.loop-left.left c.loop-left.behind c.size.result c.index-items-left.result (omega arith) c.loop-left.invariant.left c.index-items-left.is c.loop-left.invariant.behind c.size.ensures in
    let long = c.loop-left.invariant.filled.long in
    let same = ap sizes_of c.as_slice-items.ensures in
    let done = turned c.args.entries.now c.loop-left.entries c.fill_inside.new.entries c.as_slice-items.result.now c.args.at c.loop-left.left c.loop-left.behind (c.loop-left.behind - c.size.result) c.args.next c.loop-left.next c.index-items-left.result (spot c.args.after) (spot c.loop-left.after) c.found_here-after.result k (omega (arith, c.requires.room)) c.loop-left.invariant.next c.loop-left.invariant.after c.loop-left.invariant.filled c.fill_inside.ensures c.found_here-after.ensures in
    record {
      left = let l = c.loop-left.invariant.left in omega arith;
      behind = k.there;
      next = done.begins;
      after = done.first;
      fits = c.found_here-after.ensures.fits;
      filled = done.filled;
    }

pub fill_inside-returns-in-If : goal.fill_inside-returns-in-If
fill_inside-returns-in-If t c =
    fills_if c.args.stmt.now c.in-If.field-0 c.in-If.a c.in-If.b c.args.entries.now c.fill.new.entries c.fill-in-If.new.entries c.args.at c.args.next (c.args.at + 1 + c.sizes.result) (spot c.args.after) c.in-If.is (let e = c.sizes.ensures in omega arith) c.fill.ensures c.fill-in-If.ensures

pub fill_inside-returns-in-While : goal.fill_inside-returns-in-While
fill_inside-returns-in-While t c =
    fills_while c.args.stmt.now c.args.entries.now c.fill-in-While.new.entries c.args.at c.args.next (spot c.args.after) (spot c.itself.result) c.itself.ensures.spot c.in-While.field-0 c.in-While.a c.in-While.is c.fill-in-While.ensures

pub fill_inside-returns-in-YieldLoop : goal.fill_inside-returns-in-YieldLoop
fill_inside-returns-in-YieldLoop t c =
    fills_yield_loop c.args.stmt.now c.args.entries.now c.fill-in-YieldLoop.new.entries c.args.at c.args.next (spot c.args.after) (spot c.itself-in-YieldLoop.result) c.itself-in-YieldLoop.ensures.spot c.in-YieldLoop.field-0 c.in-YieldLoop.field-1 c.in-YieldLoop.a c.in-YieldLoop.is c.fill-in-YieldLoop.ensures

pub fill_inside-returns-in-RankLoop : goal.fill_inside-returns-in-RankLoop
fill_inside-returns-in-RankLoop t c =
    fills_rank_loop c.args.stmt.now c.args.entries.now c.fill-in-RankLoop.new.entries c.args.at c.args.next (spot c.args.after) (spot c.itself-in-RankLoop.result) c.itself-in-RankLoop.ensures.spot c.in-RankLoop.field-0 c.in-RankLoop.field-1 c.in-RankLoop.field-2 c.in-RankLoop.a c.in-RankLoop.is c.fill-in-RankLoop.ensures
