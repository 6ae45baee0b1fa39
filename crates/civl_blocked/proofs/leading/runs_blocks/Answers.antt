use Rattle.std.proofs.Common.{ℕ, ◌<◌, ◌+◌, ◌≡◌, ◌∙◌, Option, length, take, None, arith, sym, ap, subst}
use Rattle.civl_reduction.specs.interleavings.Reduction.{is_inside}
use Rattle.civl_reduction.specs.interleavings.Runs.{BlocksTo, opened}
use Rattle.civl_reduction.proofs.interleavings.Staging.{blocks_more}
use Rattle.civl_blocked.specs.inner.Segments.{over, program_of}
use Rattle.civl_blocked.proofs.Picking.{if_some, take_is}
use Rattle.civl_blocked.proofs.leading.runs_blocks.Goals as goal

pub loop-chosen-preserved : goal.loop-chosen-preserved
loop-chosen-preserved c =
    let g = c.args.ground.now in
    let S = over g in
    let i = c.loop-chosen.chosen-index in
    let m = c.chosen-item.result in
    let h : i < length c.args.blocks.now = omega arith in
    let step = if_some _ c.in_ok-place.field-0 c.in-Some.place c.in-Some.is c.in_ok-place.ensures.made in
    let owner : c.opened-owner.result ≡ opened (S.inside c.advanced.new.config m.thread) m.thread =
    c.opened-owner.ensures ∙ ap (λ b. opened b m.thread) (ap is_inside step.1 ∙ sym (c.places_stay.ensures.inside (program_of g) g.layer g.store.now c.advanced.new.config m.thread c.requires.checked)) in
    subst (λ (o : Option ℕ). BlocksTo S None (take (i + 1) c.args.blocks.now) c.args.config.now o c.advanced.new.config) (sym owner)
    (subst (λ l. BlocksTo S None l c.args.config.now (opened (S.inside c.advanced.new.config m.thread) m.thread) c.advanced.new.config) (sym (take_is c.args.blocks.now i m h c.chosen-item.is))
    (blocks_more S (take i c.args.blocks.now) None c.loop-chosen.owner c.args.config.now c.loop-chosen.config m c.advanced.new.config c.loop-chosen.invariant (c.may_step.ensures c.if-not-may_step.false) step.0))
