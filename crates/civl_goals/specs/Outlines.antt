-- What an outline says of the topmost program: an invariant of its stores, and notes before statements of its roots (proof
-- outlines: Owicki and Gries, An axiomatic proof technique for parallel programs I, Acta Informatica, 1976).
use Rattle.std.specs.Prelude.{ℕ, Bool, true, ◌&&◌, nat_eq, List, filter, Option}
use Rattle.std.specs.List.{find, list_all}
use Rattle.std.specs.Option.{option_map_or}
use Rattle.civl_tree.specs.declared.program.Global.{Global}
use Rattle.civl_tree.specs.declared.program.Program.{Program}
use Rattle.civl_tree.specs.Numbering.{proc_item}
use Rattle.civl_outlines.specs.declared.outline.Note.{Note}
use Rattle.civl_outlines.specs.declared.outline.Outline.{Outline}
use Rattle.civl_firing.specs.declared.store.Store.{Store}
use Rattle.civl_meaning.specs.declared.config.Activation.{Activation}
use Rattle.civl_conditions.specs.footprints.Agreement.{exists_at}
use Rattle.civl_conditions.specs.paths.NoteValues.{plain_note_values}
use Rattle.civl_conditions.specs.Steps.{of_proc}
use Rattle.civl_conditions.specs.Invariants.{holds_in, holds_of_globals}

-- the global exists in the topmost program
abbrev pub exists_on_top : Program → Global → Bool
exists_on_top program = exists_at program.layers

abbrev pub top_globals : Program → List Global
top_globals program = filter (exists_on_top program) program.globals

-- ---- the invariant

-- all holds of the outline are true in the store
abbrev pub invariant_holds : Program → Outline → Store → Bool
invariant_holds program outline g = list_all (holds_of_globals program g) outline.holds

-- ---- the notes

abbrev pub stands_before : Program → ℕ → ℕ → Note → Bool
stands_before program r s note = nat_eq note.item (proc_item program r) && nat_eq note.statement s

-- the note that is written before this statement of the procedure with this number
abbrev pub written_before : Program → Outline → ℕ → ℕ → Option Note
written_before program outline r s = find (stands_before program r s) outline.notes

-- the note holds of the store and of a frame that stands there; where none is written nothing is said
abbrev pub note_holds : Program → Outline → Store → Activation → Bool
note_holds program outline g frame =
    of_proc program frame.procedure true (λ proc.
    option_map_or (λ note. holds_in (plain_note_values program.globals proc g frame.locals) note.expr) (written_before program outline frame.procedure frame.place) true)
