use Rattle.std.proofs.Common.{◌∙◌, ◌∷◌, [], ◌++◌, arith, sym, ap, append_assoc, length-append}
use Rattle.civl_meaning.specs.declared.config.Plain.{Plain}
use Rattle.civl_reduction.specs.gathered.Offered.{offered}
use Rattle.civl_blocked.specs.inner.Segments.{program_of}
use Rattle.civl_blocked.proofs.Picking.{if_some}
use Rattle.civl_blocked.proofs.Placing.{inside_as}
use Rattle.civl_blocked.proofs.Prolonged.{offered_more}
use Rattle.civl_blocked.proofs.completing.complete.Goals as goal

pub loop-added-preserved : goal.loop-added-preserved
loop-added-preserved c =
    let g = c.args.ground.now in
    let v = c.loop-added.invariant in
    let m = c.in_ok-chosen.chosen in
    let step = if_some _ c.in_ok-place.field-0 c.in-Some.place c.in-Some.is c.in_ok-place.ensures.made in
    let is = c.in_ok-chosen.ensures ∙ ap (λ (p : Plain). offered p c.loop-added.config c.args.thread) c.requires.ground.layer.is in
    let mine = ap (λ x. x.thread) is in
    let inside = inside_as g c.requires.ground c.places_stay.ensures.inside c.advanced.new.config m.thread c.args.thread c.in-Some.place mine step.1 (sym c.is_inside.ensures ∙ c.if-not-is_inside.false) in
    let many = v.many in
    let long = length-append v.steps (m ∷ []) in
    record {
      added = omega arith;
      steps = v.steps ++ m ∷ [];
      moves_are = c.in_ok-push.ensures.items ∙ (ap (λ l. l ++ m ∷ []) v.moves_are ∙ append_assoc c.args.moves.items v.steps (m ∷ []));
      many = omega (arith, many, long);
      offered = offered_more (program_of g) g.layer g.store.now c.args.thread v.steps m c.args.end c.loop-added.config c.advanced.new.config v.offered is step.0 inside;
    }
