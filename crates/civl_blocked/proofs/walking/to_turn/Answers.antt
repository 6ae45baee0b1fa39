use Rattle.std.proofs.Common.{◌∙◌, ◌++◌, sym, ap, subst}
use Rattle.civl_reduction.specs.gathering.Gathered.{AreEarly}
use Rattle.civl_blocked.specs.inner.Segments.{over, place_on, FailsTo}
use Rattle.civl_blocked.proofs.Strides.{early_more, rest_fails}
use Rattle.civl_blocked.proofs.Walks.{split_more, rotated}
use Rattle.civl_blocked.proofs.walking.to_turn.Goals as goal

pub loop-chosen-preserved : goal.loop-chosen-preserved
loop-chosen-preserved c =
    let S = over c.args.ground.now in
    let next = c.pop_front.ensures.items ∙ split_more c.pop_front.result c.in-Some.chosen c.pop_front.new.self.items c.in-Some.is in
    let step = c.in_ok-place.ensures.made in
    let early = sym c.in_ok-place.ensures.place ∙ c.is_early.ensures.yes c.if-not-is_early.false in
    let pushed = c.in_ok-push.ensures.items in
    record {
      split = rotated c.args.rest.now.items c.loop-chosen.moves.items c.loop-chosen.rest.items c.pop_front.new.self.items c.in-Some.chosen c.loop-chosen.invariant.split next ∙ ap (λ l. l ++ c.pop_front.new.self.items) (sym pushed);
      early = subst (λ l. AreEarly S (place_on c.args.ground.now) l c.args.from.now c.passed.new.config) (sym pushed) (early_more S (place_on c.args.ground.now) c.loop-chosen.moves.items c.in-Some.chosen c.args.from.now c.loop-chosen.config c.passed.new.config c.loop-chosen.invariant.early step early);
      fails = rest_fails S c.in-Some.chosen c.pop_front.new.self.items c.loop-chosen.config c.passed.new.config (subst (λ l. FailsTo S l c.loop-chosen.config) next c.loop-chosen.invariant.fails) step;
    }
