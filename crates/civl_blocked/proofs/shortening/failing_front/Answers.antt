use Rattle.std.proofs.Common.{◌<◌, ◌∙◌, ◌∷◌, [], ◌++◌, length, arith, sym, ap, subst, length-append}
use Rattle.std.specs.Prelude.{All}
use Rattle.std.proofs.lemmas.List.Elements.{All-nil, All-cons, All-append}
use Rattle.std.proofs.lemmas.Bool.{both_ways}
use Rattle.civl_meaning.specs.declared.config.Move.{Move}
use Rattle.civl_meaning.specs.Failing.{IsMove}
use Rattle.civl_reduction.specs.interleavings.Runs.{Opens}
use Rattle.civl_reduction.specs.gathering.Gathered.{FailsBehind}
use Rattle.civl_reduction.proofs.interleavings.Staging.{opens_more}
use Rattle.civl_blocked.specs.inner.Segments.{over}
use Rattle.civl_blocked.specs.inner.Shortened.{IsFront}
use Rattle.civl_blocked.proofs.Picking.{if_some, own_left, all_item}
use Rattle.civl_blocked.proofs.Placing.{inside_is}
use Rattle.civl_blocked.proofs.Fewer.{failing_from, not_failing, front_so, behind_on}
use Rattle.civl_blocked.proofs.shortening.failing_front.Goals as goal

pub returns-then-is_some-2-clause-some : goal.returns-then-is_some-2-clause-some
returns-then-is_some-2-clause-some c =
    let h : c.loop-chosen.chosen-index < length c.args.moves.now = omega arith in
    let g = c.args.ground.now in
    let step = if_some _ c.in_ok-place.field-0 c.in-Some.place c.in-Some.is c.in_ok-place.ensures.made in
    let fails = failing_from g c.args.thread c.advanced.new.config c.in_ok-failing_in-2.field-0 c.in_ok-failing_in-2.ensures.some (sym c.is_some-in-loop-chosen.ensures ∙ c.if-is_some-2.true) in
    let pushed = c.in_ok-push.ensures.items ∙ ap (λ (m : Move). c.loop-chosen.front.items ++ m ∷ []) c.in_ok-copy.ensures in
    subst (IsFront (over g) c.args.thread c.args.moves.now c.args.from.now) (sym pushed)
    (front_so g c.args.thread c.args.moves.now c.loop-chosen.front.items c.loop-chosen.chosen-index c.chosen-item.result c.args.from.now c.loop-chosen.config c.advanced.new.config h c.chosen-item.is
    c.loop-chosen.invariant.opens c.if-chosen-thread.false step.0 fails c.loop-chosen.invariant.short c.loop-chosen.invariant.are_moves)

pub returns-then-not-is_inside-clause-none : goal.returns-then-not-is_inside-clause-none
returns-then-not-is_inside-clause-none c f =
    let h : c.loop-chosen.chosen-index < length c.args.moves.now = omega arith in
    let g = c.args.ground.now in
    let step = if_some _ c.in_ok-place.field-0 c.in-Some.place c.in-Some.is c.in_ok-place.ensures.made in
    let never = not_failing g c.args.thread c.advanced.new.config c.in_ok-failing_in-2.field-0 c.in_ok-failing_in-2.ensures.none (sym c.is_some-in-loop-chosen.ensures ∙ c.if-is_some-2.false) in
    let out = inside_is g c.requires c.places_stay.ensures.inside c.advanced.new.config c.chosen-item.result.thread c.args.thread c.in-Some.place c.if-chosen-thread.false step.1 ∙ (sym c.is_inside.ensures ∙ c.if-not-is_inside.true) in
    let behind = subst (λ l. FailsBehind (over g) c.args.thread l c.loop-chosen.config) (own_left (over g) c.args.thread c.args.moves.now c.loop-chosen.chosen-index c.chosen-item.result h c.chosen-item.is c.if-chosen-thread.false) (c.loop-chosen.invariant.left f) in
    both_ways _ out (behind_on g c.args.thread c.chosen-item.result _ c.loop-chosen.config c.advanced.new.config step.0 never behind).0

pub loop-chosen-preserved : goal.loop-chosen-preserved
loop-chosen-preserved c =
    let h : c.loop-chosen.chosen-index < length c.args.moves.now = omega arith in
    let g = c.args.ground.now in
    let m = c.chosen-item.result in
    let step = if_some _ c.in_ok-place.field-0 c.in-Some.place c.in-Some.is c.in_ok-place.ensures.made in
    let never = not_failing g c.args.thread c.advanced.new.config c.in_ok-failing_in-2.field-0 c.in_ok-failing_in-2.ensures.none (sym c.is_some-in-loop-chosen.ensures ∙ c.if-is_some-2.false) in
    let inside = inside_is g c.requires c.places_stay.ensures.inside c.advanced.new.config m.thread c.args.thread c.in-Some.place c.if-chosen-thread.false step.1 ∙ (sym c.is_inside.ensures ∙ c.if-not-is_inside.false) in
    let pushed = c.in_ok-push.ensures.items ∙ ap (λ (m : Move). c.loop-chosen.front.items ++ m ∷ []) c.in_ok-copy.ensures in
    let long = ap length pushed ∙ length-append c.loop-chosen.front.items (m ∷ []) in
    let short = c.loop-chosen.invariant.short in
    record {
      opens = subst (λ l. Opens (over g) c.args.thread l c.args.from.now c.advanced.new.config) (sym pushed) (opens_more (over g) c.args.thread c.loop-chosen.front.items m c.args.from.now c.loop-chosen.config c.advanced.new.config c.loop-chosen.invariant.opens c.if-chosen-thread.false step.0 inside);
      left = λ f. (behind_on g c.args.thread m _ c.loop-chosen.config c.advanced.new.config step.0 never
          (subst (λ l. FailsBehind (over g) c.args.thread l c.loop-chosen.config) (own_left (over g) c.args.thread c.args.moves.now c.loop-chosen.chosen-index m h c.chosen-item.is c.if-chosen-thread.false) (c.loop-chosen.invariant.left f))).1;
      short = omega (arith, long, short);
      are_moves = λ v. subst (All IsMove) (sym pushed) (All-append IsMove c.loop-chosen.front.items (m ∷ []) (c.loop-chosen.invariant.are_moves v) (All-cons IsMove m [] (all_item IsMove c.args.moves.now c.loop-chosen.chosen-index m h c.chosen-item.is v) (All-nil IsMove)));
    }
