use Rattle.std.proofs.Common.{◌≡◌, ◌∙◌, Bool, true, ap, sym}
use Rattle.std.specs.Prelude.{Option, Some, option_copied}
use Rattle.std.specs.Option.{option_map_or}
use Rattle.civl_conditions.specs.Invariants.{holds_in}
use Rattle.civl_conditions.specs.paths.NoteValues.{plain_note_values}
use Rattle.civl_outlines.specs.declared.outline.Note.{Note}
use Rattle.civl_goals.specs.Outlines.{written_before}
use Rattle.civl_goal_losses.proofs.saying.holds_before.Goals as goal

pub returns-in-Some : goal.returns-in-Some
returns-in-Some c =
    let frame = c.args.frame.now in
    let is_said : Note → Bool = λ note. holds_in (plain_note_values c.args.program.now.globals c.args.proc.now c.args.store.now frame.locals.now) note.expr in
    let at : written_before c.args.program.now c.args.outline.now frame.procedure frame.place ≡ Some c.in-Some.note.now = sym c.written_before.ensures ∙ ap (option_copied {T = Note}) c.in-Some.is in
    c.is_true.ensures ∙ sym (ap (λ (o : Option Note). option_map_or is_said o true) at)
