use Rattle.std.proofs.Common.{◌∙◌, ◌++◌, sym, ap, subst}
use Rattle.civl_reduction.specs.gathering.Gathered.{AllPass}
use Rattle.civl_blocked.specs.inner.Segments.{over, FailsTo}
use Rattle.civl_blocked.proofs.Strides.{pass_more, rest_fails}
use Rattle.civl_blocked.proofs.Walks.{split_more, rotated}
use Rattle.civl_blocked.proofs.Placing.{inside_as}
use Rattle.civl_blocked.proofs.walking.to_end.Goals as goal

pub loop-chosen-preserved : goal.loop-chosen-preserved
loop-chosen-preserved c =
    let S = over c.args.ground.now in
    let next = c.pop_front.ensures.items ∙ split_more c.pop_front.result c.in-Some.chosen c.pop_front.new.self.items c.in-Some.is in
    let step = c.in_ok-place.ensures.made in
    let pushed = c.in_ok-push.ensures.items in
    record {
      split = rotated c.args.rest.now.items c.loop-chosen.moves.items c.loop-chosen.rest.items c.pop_front.new.self.items c.in-Some.chosen c.loop-chosen.invariant.split next ∙ ap (λ l. l ++ c.pop_front.new.self.items) (sym pushed);
      pass = subst (λ l. AllPass S c.args.thread l c.args.from.now c.passed.new.config) (sym pushed) (pass_more S c.args.thread c.loop-chosen.moves.items c.in-Some.chosen c.args.from.now c.loop-chosen.config c.passed.new.config c.loop-chosen.invariant.pass step
          (λ w. inside_as c.args.ground.now c.requires.ground c.places_stay.ensures.inside c.passed.new.config c.in-Some.chosen.thread c.args.thread c.in_ok-place.place w c.in_ok-place.ensures.place (c.stays.ensures.yes c.if-not-stays.false w)));
      fails = rest_fails S c.in-Some.chosen c.pop_front.new.self.items c.loop-chosen.config c.passed.new.config (subst (λ l. FailsTo S l c.loop-chosen.config) next c.loop-chosen.invariant.fails) step;
    }
