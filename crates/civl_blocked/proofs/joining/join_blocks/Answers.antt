use Rattle.std.proofs.Common.{◌<◌, ◌≡◌, ◌+◌, [], length, take, drop, arith, sym, subst}
use Rattle.std.proofs.lemmas.List.{drop_all}
use Rattle.civl_tree.proofs.Lists.{drop_is}
use Rattle.civl_meaning.specs.Failing.{IsMove}
use Rattle.civl_blocked.specs.inner.Arranged.{IsJoining}
use Rattle.civl_blocked.proofs.Picking.{take_is, all_item}
use Rattle.civl_blocked.proofs.Wholes.{joins_none, next_runs, joins_one, joins_last, joins_all, joined_whole, whole_taken}
use Rattle.civl_blocked.proofs.joining.join_blocks.Goals as goal

pub loop-chosen-init : goal.loop-chosen-init
loop-chosen-init c = joins_none c.args.ground.now c.args.done.now.items c.args.beside.now c.args.blocks.now c.requires.standing c.requires.runs

pub join-requires-clause-runs : goal.join-requires-clause-runs
join-requires-clause-runs c =
    let i = c.loop-chosen.chosen-index in
    let ms = c.args.blocks.now in
    let m = c.chosen-item.result in
    let h : i < length ms = omega arith in
    let before = c.args.done.now.items in
    let from = c.args.beside.now.config in
    let j = subst (λ l. IsJoining c.args.ground.now before from (take i ms) l c.loop-chosen.done.items c.loop-chosen.beside) (drop_is ms i m h c.chosen-item.is) c.loop-chosen.invariant in
    next_runs c.args.ground.now before from (take i ms) (drop (i + 1) ms) c.loop-chosen.done.items c.loop-chosen.beside m j

pub join-requires-clause-beside : goal.join-requires-clause-beside
join-requires-clause-beside c = c.loop-chosen.invariant.beside_it

pub ends_challenged-requires-clause-one_each : goal.ends_challenged-requires-clause-one_each
ends_challenged-requires-clause-one_each c = c.in_ok-join.ensures.beside.one_each

pub loop-chosen-preserved : goal.loop-chosen-preserved
loop-chosen-preserved c =
    let i = c.loop-chosen.chosen-index in
    let ms = c.args.blocks.now in
    let m = c.chosen-item.result in
    let h : i < length ms = omega arith in
    let before = c.args.done.now.items in
    let from = c.args.beside.now.config in
    let j = subst (λ l. IsJoining c.args.ground.now before from (take i ms) l c.loop-chosen.done.items c.loop-chosen.beside) (drop_is ms i m h c.chosen-item.is) c.loop-chosen.invariant in
    let w = c.in_ok-join.ensures in
    subst (λ l. IsJoining c.args.ground.now before from l (drop (i + 1) ms) c.join.new.done.items c.join.new.beside) (sym (take_is ms i m h c.chosen-item.is))
    (joins_one c.args.ground.now before from (take i ms) (drop (i + 1) ms) c.loop-chosen.done.items c.loop-chosen.beside m c.join.new.done.items c.join.new.beside j w.step w.done w.beside
    (all_item IsMove ms i m h c.chosen-item.is c.requires.moves) (c.in_ok-ends_challenged.ensures.calm c.if-branch.false c.join.new.done.items w.beside))

pub returns-then-branch-clause-done : goal.returns-then-branch-clause-done
returns-then-branch-clause-done c e given small =
    let i = c.loop-chosen.chosen-index in
    let ms = c.args.blocks.now in
    let m = c.chosen-item.result in
    let h : i < length ms = omega arith in
    let before = c.args.done.now.items in
    let from = c.args.beside.now.config in
    let j = subst (λ l. IsJoining c.args.ground.now before from (take i ms) l c.loop-chosen.done.items c.loop-chosen.beside) (drop_is ms i m h c.chosen-item.is) c.loop-chosen.invariant in
    let w = c.in_ok-join.ensures in
    let n = joined_whole ms i m h c.chosen-item.is in
    joins_last c.args.ground.now before from (take i ms) (drop (i + 1) ms) c.loop-chosen.done.items c.loop-chosen.beside m c.join.new.done.items c.join.new.beside j w.step w.done w.beside
    (all_item IsMove ms i m h c.chosen-item.is c.requires.moves) (c.in_ok-ends_challenged.ensures.hard c.if-branch.true c.join.new.done.items w.beside) given (omega (arith, n, small))

pub returns-clause-goes : goal.returns-clause-goes
returns-clause-goes c e =
    let i = c.loop-chosen.chosen-index in
    let ms = c.args.blocks.now in
    let before = c.args.done.now.items in
    let from = c.args.beside.now.config in
    let none : drop i ms ≡ [] = drop_all i ms (omega arith) in
    let all : take i ms ≡ ms = whole_taken ms i none in
    let j = subst (λ l. IsJoining c.args.ground.now before from (take i ms) l c.loop-chosen.done.items c.loop-chosen.beside) none c.loop-chosen.invariant in
    joins_all c.args.ground.now before ms c.loop-chosen.done.items c.args.beside.now c.loop-chosen.beside (subst (λ l. IsJoining c.args.ground.now before from l [] c.loop-chosen.done.items c.loop-chosen.beside) all j)
