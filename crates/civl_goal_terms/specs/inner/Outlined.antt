-- Serves private functions: the holds and notes of an outline are bools where all globals are in scope, and for a note the names of its procedure too.
use Rattle.std.specs.Prelude.{◌≡◌, ℕ, All, slice_get, Some}
use Rattle.civl_tree.specs.declared.expr.Sort.TheVariants.{Bool as Truth}
use Rattle.civl_tree.specs.declared.program.Proc.{Proc}
use Rattle.civl_tree.specs.declared.program.Program.{Program}
use Rattle.civl_tree.specs.rules.Scopes.{global_scope, note_scope}
use Rattle.civl_states.specs.Notes.{HasType}
use Rattle.civl_outlines.specs.declared.outline.Note.{Note}
use Rattle.civl_outlines.specs.declared.outline.Outline.{Outline}
use Rattle.civl_goals.specs.Outlines.{written_before}

pub record IsOutlined (program : Program) (outline : Outline) : Type 0 where
  pub holds : All (λ e. HasType (global_scope program) e Truth) outline.holds
  pub notes : (r s : ℕ) (proc : Proc) (note : Note) → slice_get program.procs r ≡ Some proc → written_before program outline r s ≡ Some note → HasType (note_scope program proc) note.expr Truth
