use Rattle.std.proofs.Common.{◌<◌, ◌≡◌, ◌∙◌, ◌∷◌, [], ◌++◌, ◌+◌, true, take, drop, length, arith, sym, ap, subst}
use Rattle.civl_meaning.specs.declared.config.Move.{Move}
use Rattle.civl_reduction.specs.gathering.Gathered.{AllPass, FailsSooner}
use Rattle.civl_blocked.specs.inner.Segments.{over, IsShortened}
use Rattle.civl_blocked.proofs.Strides.{same_end, pass_more}
use Rattle.civl_blocked.proofs.Picking.{if_some, take_is}
use Rattle.civl_blocked.proofs.Walks.{if_none}
use Rattle.civl_blocked.proofs.Fewer.{sooner_on, shortened_so}
use Rattle.civl_blocked.proofs.shortening.shortened.Goals as goal

pub returns-in-Some : goal.returns-in-Some
returns-in-Some c =
    let h : c.loop-at.at < length c.args.moves.now = omega arith in
    let g = c.args.ground.now in
    let front = if_some _ c.in_ok-front.field-0 c.in-Some.front c.in-Some.is c.in_ok-front.ensures.some in
    subst (IsShortened (over g) c.args.thread c.args.moves.now c.args.from.now) (sym c.in_ok-append-in-Some.ensures.items)
    (shortened_so g c.args.thread c.args.moves.now c.loop-at.at c.index-moves-at.result h c.index-moves-at.is c.loop-at.kept.items c.in-Some.front.items c.args.from.now c.loop-at.config
    (front.other c.index-moves-at.result c.index-moves-at.is) c.loop-at.invariant.kept c.loop-at.invariant.pass front.behind)

pub passed-requires-clause-runs : goal.passed-requires-clause-runs
passed-requires-clause-runs c =
    let h : c.loop-at.at < length c.args.moves.now = omega arith in
    let none = if_none _ c.in_ok-front.field-0 c.in-None.is c.in_ok-front.ensures.none in
    let r = sooner_on c.args.ground.now c.args.thread c.args.moves.now c.loop-at.at c.index-moves-at.result h c.index-moves-at.is c.loop-at.config c.loop-at.invariant.sooner none in
    (r.0, r.1.0)

pub loop-at-preserved : goal.loop-at-preserved
loop-at-preserved c =
    let h : c.loop-at.at < length c.args.moves.now = omega arith in
    let g = c.args.ground.now in
    let m = c.index-moves-at.result in
    let none = if_none _ c.in_ok-front.field-0 c.in-None.is c.in_ok-front.ensures.none in
    let r = sooner_on g c.args.thread c.args.moves.now c.loop-at.at m h c.index-moves-at.is c.loop-at.config c.loop-at.invariant.sooner none in
    let step = c.in_ok-passed.ensures.made in
    let d_is = same_end (over g) c.loop-at.config r.0 c.passed.new.config m r.1.0 step in
    let taken = take_is c.args.moves.now c.loop-at.at m h c.index-moves-at.is in
    record {
      kept = c.in_ok-push.ensures.items ∙ (ap (λ (x : Move). c.loop-at.kept.items ++ x ∷ []) c.in_ok-copy.ensures ∙ (ap (λ l. l ++ m ∷ []) c.loop-at.invariant.kept ∙ sym taken));
      pass = subst (λ l. AllPass (over g) c.args.thread l c.args.from.now c.passed.new.config) (sym taken)
          (pass_more (over g) c.args.thread (take c.loop-at.at c.args.moves.now) m c.args.from.now c.loop-at.config c.passed.new.config c.loop-at.invariant.pass step
          (λ w. subst (λ x. (over g).inside x c.args.thread ≡ true) d_is (r.1.1 w)));
      sooner = subst (λ x. FailsSooner (over g) c.args.thread (drop (c.loop-at.at + 1) c.args.moves.now) x) d_is r.2;
    }
