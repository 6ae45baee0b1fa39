-- A frame, as the code has it, and the note before which it stands.
use Rattle.std.specs.Prelude.{Bool, true}
use Rattle.std.specs.Option.{option_map_or}
use Rattle.civl_tree.specs.declared.program.Proc.{Proc}
use Rattle.civl_tree.specs.declared.program.Program.{Program}
use Rattle.civl_firing.specs.declared.store.Store.{Store}
use Rattle.civl_meaning.specs.declared.config.Activation.{Activation}
use Rattle.civl_conditions.specs.Invariants.{holds_in}
use Rattle.civl_conditions.specs.paths.NoteValues.{plain_note_values}
use Rattle.civl_outlines.specs.declared.outline.Outline.{Outline}
use Rattle.civl_goals.specs.Outlines.{written_before}
use Rattle.civl_goal_losses.specs.declared.saying.Frame.{Frame}
use Rattle.civl_goal_losses.specs.declared.assuming.Stand.{Stand}

abbrev pub framed : Frame → Activation
framed f = record { procedure = f.procedure; place = f.place; locals = f.locals.now }

-- that of a root before a statement
abbrev pub stood : Stand → Activation
stood s = record { procedure = s.root; place = s.statement; locals = s.locals.now }

-- the note holds, in a frame of this procedure
abbrev pub holds_before : Program → Outline → Store → Activation → Proc → Bool
holds_before program outline g frame proc =
    option_map_or (λ note. holds_in (plain_note_values program.globals proc g frame.locals) note.expr)
    (written_before program outline frame.procedure frame.place) true
