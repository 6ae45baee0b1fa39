use Rattle.std.proofs.Common.{◌∙◌, ap, sym}
use Rattle.std.proofs.lemmas.Bool.{false≢true}
use Rattle.civl_reduction.specs.interleavings.Reduction.{is_inside}
use Rattle.civl_reduction.specs.blocks.Shadow.{shadowed}
use Rattle.civl_blocked.specs.inner.Segments.{program_of}
use Rattle.civl_blocked.proofs.joining.ends_challenged.Goals as goal

pub returns-then-is_inside-clause-calm : goal.returns-then-is_inside-clause-calm
returns-then-is_inside-clause-calm c e ms beside out =
    let g = c.args.ground.now in
    let law = c.places_stay.ensures.inside (program_of g) g.layer g.store.now c.args.beside.now.config c.args.thread c.requires.ground.checked in
    absurd (false≢true (sym out ∙ (law ∙ (ap is_inside (sym c.in_ok-place.ensures) ∙ (sym c.is_inside.ensures ∙ c.if-is_inside.true)))))

pub returns-clause-calm : goal.returns-clause-calm
returns-clause-calm c e ms beside out =
    let g = c.args.ground.now in
    sym (c.in_ok-challenged.ensures (shadowed (program_of g) g.layer g.store.now ms) beside) ∙ e

pub returns-clause-hard : goal.returns-clause-hard
returns-clause-hard c e ms beside =
    let g = c.args.ground.now in
    let law = c.places_stay.ensures.inside (program_of g) g.layer g.store.now c.args.beside.now.config c.args.thread c.requires.ground.checked in
    (law ∙ (ap is_inside (sym c.in_ok-place.ensures) ∙ (sym c.is_inside.ensures ∙ c.if-is_inside.false)), sym (c.in_ok-challenged.ensures (shadowed (program_of g) g.layer g.store.now ms) beside) ∙ e)
