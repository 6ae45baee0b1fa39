-- The choices of the statement with a number, among statements in text order.
use Rattle.std.specs.Prelude.{ℕ, List, [], slice_get}
use Rattle.std.specs.Option.{option_map_or}
use Rattle.civl_tree.specs.declared.action.Choice.{Choice}
use Rattle.civl_tree.specs.declared.program.Proc.{Proc}
use Rattle.civl_tree.specs.declared.program.Program.{Program}
use Rattle.civl_tree.specs.declared.stmt.Stmt.{Stmt, out-Stmt}
use Rattle.civl_tree.specs.Numbering.{statements_of}
use Rattle.civl_meaning.specs.Layers.{topmost}
use Rattle.civl_conditions.specs.Variables.{layer_choices}

abbrev pub choices_among : Program → List Stmt → ℕ → List Choice
choices_among program stmts number = option_map_or (λ stmt. layer_choices (topmost program) (out-Stmt stmt)) (slice_get stmts number) []

abbrev pub choices_in : Program → ℕ → Proc → List Choice
choices_in program number proc = choices_among program (statements_of proc.body) number
