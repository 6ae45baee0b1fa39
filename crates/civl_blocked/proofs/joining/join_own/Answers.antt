use Rattle.std.proofs.Common.{◌<◌, ◌≡◌, ◌∙◌, ◌∷◌, [], ◌++◌, take, true, length, arith, sym, ap, subst, append_assoc}
use Rattle.civl_reduction.specs.gathering.Gathered.{own}
use Rattle.civl_reduction.specs.gathered.Laws.{by_thread}
use Rattle.civl_blocked.specs.inner.Segments.{over}
use Rattle.civl_blocked.proofs.Strides.{same_end}
use Rattle.civl_blocked.proofs.Picking.{skips_made, skips_left, goes_made, goes_left, goes_at, own_done_on, own_done_stays}
use Rattle.civl_blocked.proofs.joining.join_own.Goals as goal

pub loop-chosen-preserved-then-chosen-thread : goal.loop-chosen-preserved-then-chosen-thread
loop-chosen-preserved-then-chosen-thread c =
    let h : c.loop-chosen.chosen-index < length c.args.moves.now = omega arith in
    let S = over c.args.ground.now in
    let i = c.loop-chosen.chosen-index in
    let v = c.loop-chosen.invariant in
    record {
      end = v.end;
      left = skips_left S c.args.thread c.args.moves.now i c.chosen-item.result h c.chosen-item.is c.if-chosen-thread.true c.loop-chosen.beside.config v.end v.left;
      opens = skips_made S c.args.thread c.args.moves.now i c.chosen-item.result h c.chosen-item.is c.if-chosen-thread.true c.args.beside.now.config c.loop-chosen.beside.config v.opens;
      done = v.done ∙ ap (λ l. c.args.done.now.items ++ l) (sym (own_done_stays S c.args.thread c.args.moves.now i c.chosen-item.result h c.chosen-item.is c.if-chosen-thread.true));
      beside = v.beside;
    }

pub join-requires-clause-runs : goal.join-requires-clause-runs
join-requires-clause-runs c =
    let h : c.loop-chosen.chosen-index < length c.args.moves.now = omega arith in
    let r = goes_at (over c.args.ground.now) c.args.thread c.args.moves.now c.loop-chosen.chosen-index c.chosen-item.result h c.chosen-item.is c.if-chosen-thread.false c.loop-chosen.beside.config c.loop-chosen.invariant.end c.loop-chosen.invariant.left in
    (r.0, r.1)

pub loop-chosen-preserved : goal.loop-chosen-preserved
loop-chosen-preserved c =
    let h : c.loop-chosen.chosen-index < length c.args.moves.now = omega arith in
    let S = over c.args.ground.now in
    let i = c.loop-chosen.chosen-index in
    let v = c.loop-chosen.invariant in
    let w = c.if-chosen-thread.false in
    let step = c.in_ok-join.ensures.step in
    let r = goes_at S c.args.thread c.args.moves.now i c.chosen-item.result h c.chosen-item.is w c.loop-chosen.beside.config v.end v.left in
    let inside = subst (λ x. S.inside x c.args.thread ≡ true) (same_end S c.loop-chosen.beside.config r.0 c.join.new.beside.config c.chosen-item.result r.1 step) r.2 in
    record {
      end = v.end;
      left = goes_left S c.args.thread c.args.moves.now i c.chosen-item.result h c.chosen-item.is w c.loop-chosen.beside.config c.join.new.beside.config v.end step v.left;
      opens = goes_made S c.args.thread c.args.moves.now i c.chosen-item.result h c.chosen-item.is w c.args.beside.now.config c.loop-chosen.beside.config c.join.new.beside.config v.opens step inside;
      done = c.in_ok-join.ensures.done ∙ (ap (λ l. l ++ c.chosen-item.result ∷ []) v.done ∙ (append_assoc c.args.done.now.items (own by_thread c.args.thread (take i c.args.moves.now)) (c.chosen-item.result ∷ []) ∙ ap (λ l. c.args.done.now.items ++ l) (sym (own_done_on S c.args.thread c.args.moves.now i c.chosen-item.result h c.chosen-item.is w))));
      beside = c.in_ok-join.ensures.beside;
    }
