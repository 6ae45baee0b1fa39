use Rattle.std.proofs.Common.{◌≡◌, List, length, refl, subst, arith, Some}
use Rattle.std.specs.Prelude.{slice_get}
use Rattle.std.proofs.lemmas.Option.{slice_get_read}
use Rattle.civl_outlines.specs.declared.outline.Note.{Note}
use Rattle.civl_goal_stories.proofs.Fitting.{note_fits}
use Rattle.civl_goal_stories.proofs.places.note_at.Goals as goal

pub overflow_add-result : goal.overflow_add-result
overflow_add-result c =
    let xs = c.as_slice.result.now in
    let note = c.in-Some.note.now in
    let found : slice_get c.args.outline.now.notes c.args.number ≡ Some note =
    subst (λ (ys : List Note). slice_get ys c.args.number ≡ Some note) c.as_slice.ensures
    (slice_get_read xs (length xs) c.args.number note refl c.in-Some.ensures.lookup.3.0 c.in-Some.ensures.lookup.1) in
    omega (arith, note_fits c.args.outline.now c.args.number note found, c.requires)
