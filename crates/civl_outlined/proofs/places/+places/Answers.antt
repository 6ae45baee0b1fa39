use Rattle.std.proofs.Common.{rules, arith, ℕ, ◌≡◌, ◌+◌, ◌*◌, ◌^◌, ◌<◌, length, ap, sym, refl, ◌∙◌}
use Rattle.std.proofs.lemmas.List.{length_push}
use Rattle.civl_tree.specs.Numbering.{size_of, sizes_of}
use Rattle.civl_tree.proofs.Sizes.{sizes_within}
use Rattle.civl_outlined.proofs.Owning.{after_is, sizes_next, own_more, statements_more, own_if, own_while, own_yield_loop, own_rank_loop}
use Rattle.civl_outlined.proofs.places.+places.Goals as goal

pub add_all-size-requires : goal.add_all-size-requires
add_all-size-requires t c =
    let next = sizes_next c.as_slice-items.result.now c.loop-index.index c.index-items-index.result c.loop-index-test.true c.index-items-index.is in
    let within = sizes_within c.as_slice-items.result.now (c.loop-index.index + 1) in
    let same = ap sizes_of c.as_slice-items.ensures in
    omega (arith, next, within, same, c.requires.small)

pub add_all-overflow_add-behind : goal.add_all-overflow_add-behind
add_all-overflow_add-behind t c =
    let next = sizes_next c.as_slice-items.result.now c.loop-index.index c.index-items-index.result c.loop-index-test.true c.index-items-index.is in
    let within = sizes_within c.as_slice-items.result.now (c.loop-index.index + 1) in
    let same = ap sizes_of c.as_slice-items.ensures in
    omega (arith, next, within, same, c.requires.small, c.size.ensures, c.loop-index.invariant.here)

pub add_all-add_inner-requires : goal.add_all-add_inner-requires
add_all-add_inner-requires t c =
    let next = sizes_next c.as_slice-items.result.now c.loop-index.index c.index-items-index.result c.loop-index-test.true c.index-items-index.is in
    let within = sizes_within c.as_slice-items.result.now (c.loop-index.index + 1) in
    let same = ap sizes_of c.as_slice-items.ensures in
    let here = c.loop-index.invariant.here in
    let small : c.loop-index.here + size_of c.index-items-index.result < 2 ^ 32 = omega (arith, next, within, same, here, c.requires.small) in
    let less : 2 * size_of c.index-items-index.result < 2 * sizes_of c.args.stmts.now + 1 = omega (arith, next, within, same) in
    let count : length c.push.new.self.items ≡ c.loop-index.here + 1 = ap length c.in_ok-push.ensures.items ∙ length_push _ _ ∙ ap (λ (n : ℕ). n + 1) c.loop-index.invariant.own.long in
    search rules

pub add_all-loop-index-preserved : goal.add_all-loop-index-preserved
add_all-loop-index-preserved t c =
    let next = sizes_next c.as_slice-items.result.now c.loop-index.index c.index-items-index.result c.loop-index-test.true c.index-items-index.is in
    let here = c.loop-index.invariant.here in
    let behind = c.loop-index.here + c.size.result in
    let follows = c.place_after-after.ensures ∙ sym (after_is c.as_slice-items.result.now c.loop-index.index c.index-items-index.result behind c.args.next) in
    record {
      here = omega (arith, next, here, c.size.ensures);
      statements = statements_more c.args.places.now.items c.loop-index.places.items c.push.new.self.items c.add_inner.new.places.items c.as_slice-items.result.now c.loop-index.index c.index-items-index.result _ c.loop-index-test.true c.index-items-index.is c.loop-index.invariant.statements c.in_ok-push.ensures.items refl c.in_ok-add_inner.ensures.statements;
      own = own_more c.args.places.now.items c.loop-index.places.items c.push.new.self.items c.add_inner.new.places.items c.as_slice-items.result.now c.args.at c.loop-index.index c.loop-index.here behind c.place_after-after.result c.args.next c.index-items-index.result _ c.loop-index-test.true c.index-items-index.is here
          (ap (λ (n : ℕ). c.loop-index.here + n) c.size.ensures) follows (omega (arith, here)) c.loop-index.invariant.own c.in_ok-push.ensures.items refl refl c.in_ok-add_inner.ensures.own;
    }

pub add_inner-returns-in_ok-add_all-in-If-2-clause-own : goal.add_inner-returns-in_ok-add_all-in-If-2-clause-own
add_inner-returns-in_ok-add_all-in-If-2-clause-own t c =
    own_if c.args.stmt.now c.args.places.now.items c.add_all.new.places.items c.add_all-in-If.new.places.items c.args.at c.args.next c.in-If.field-0 c.in-If.first c.in-If.second (c.args.at + 1 + c.sizes.result) c.in-If.is (let e = c.sizes.ensures in omega arith) c.in_ok-add_all-in-If.ensures.own c.in_ok-add_all-in-If-2.ensures.own

pub add_inner-returns-in_ok-add_all-in-While-clause-own : goal.add_inner-returns-in_ok-add_all-in-While-clause-own
add_inner-returns-in_ok-add_all-in-While-clause-own t c =
    own_while c.args.stmt.now c.args.places.now.items c.add_all-in-While.new.places.items c.args.at c.args.next c.in-While.field-0 c.in-While.body c.in-While.is c.in_ok-add_all-in-While.ensures.own

pub add_inner-returns-in_ok-add_all-in-YieldLoop-clause-own : goal.add_inner-returns-in_ok-add_all-in-YieldLoop-clause-own
add_inner-returns-in_ok-add_all-in-YieldLoop-clause-own t c =
    own_yield_loop c.args.stmt.now c.args.places.now.items c.add_all-in-YieldLoop.new.places.items c.args.at c.args.next c.in-YieldLoop.field-0 c.in-YieldLoop.field-1 c.in-YieldLoop.body c.in-YieldLoop.is c.in_ok-add_all-in-YieldLoop.ensures.own

pub add_inner-returns-in_ok-add_all-in-RankLoop-clause-own : goal.add_inner-returns-in_ok-add_all-in-RankLoop-clause-own
add_inner-returns-in_ok-add_all-in-RankLoop-clause-own t c =
    own_rank_loop c.args.stmt.now c.args.places.now.items c.add_all-in-RankLoop.new.places.items c.args.at c.args.next c.in-RankLoop.field-0 c.in-RankLoop.field-1 c.in-RankLoop.field-2 c.in-RankLoop.body c.in-RankLoop.is c.in_ok-add_all-in-RankLoop.ensures.own
