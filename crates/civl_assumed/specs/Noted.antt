-- The scope of a note, as the code has its parts.
use Rattle.civl_firing.specs.declared.scope.Scope.{Scope}
use Rattle.civl_conditions.specs.paths.NoteValues.{note_values}
use Rattle.civl_assumed.specs.declared.noted.Noted.{Noted}

-- what the names in a note stand for
abbrev pub scope_noted : Noted → Scope
scope_noted note =
    note_values note.globals.now note.proc.now (record { values = note.store.now }) note.locals.now note.done
    (record { values = note.old.now }) note.old_outs.now note.old_done
