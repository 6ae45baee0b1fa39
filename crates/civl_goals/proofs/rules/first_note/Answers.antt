use Rattle.std.proofs.Common.{◌∙◌, sym, ap, List}
use Rattle.civl_outlines.specs.declared.outline.Note.{Note}
use Rattle.civl_goals.specs.Spots.{spots_in}
use Rattle.civl_goals.proofs.Noting.{any_there}
use Rattle.civl_goals.proofs.Misplacing.{fits_told, note_here, note_later, taken_notes, more_there}
use Rattle.civl_goals.proofs.rules.first_note.Goals as goal

pub returns-then-not-branch : goal.returns-then-not-branch
returns-then-not-branch c =
    let fits =
    fits_told c.args.program.now c.args.notes.now c.args.before c.loop-place.place c.index-notes-place.result c.loop-place-test.true c.index-notes-place.is c.in_ok-fits.field-0 (spots_in c.loop-place.spots) c.in_ok-fits.ensures.fits c.loop-place.invariant.0 in
    note_here c.args.program.now c.args.notes.now c.args.before c.loop-place.place c.index-notes-place.result c.loop-place-test.true c.index-notes-place.is (fits ∙ c.if-not-branch.true) _ c.loop-place.invariant.1

pub loop-place-preserved : goal.loop-place-preserved
loop-place-preserved c =
    let fits =
    fits_told c.args.program.now c.args.notes.now c.args.before c.loop-place.place c.index-notes-place.result c.loop-place-test.true c.index-notes-place.is c.in_ok-fits.field-0 (spots_in c.loop-place.spots) c.in_ok-fits.ensures.fits c.loop-place.invariant.0 in
    let taken = taken_notes c.args.program.now c.args.notes.now c.args.before c.loop-place.place c.index-notes-place.result c.loop-place-test.true c.index-notes-place.is in (
      λ spot. more_there (spots_in c.loop-place.spots) _ _ c.index-notes-place.result c.in_ok-fits.ensures.spots c.loop-place.invariant.0 spot ∙ ap (λ (ns : List Note). any_there ns spot) (sym taken),
      note_later c.args.program.now c.args.notes.now c.args.before c.loop-place.place c.index-notes-place.result c.loop-place-test.true c.index-notes-place.is (fits ∙ c.if-not-branch.false) _ c.loop-place.invariant.1,
    )
