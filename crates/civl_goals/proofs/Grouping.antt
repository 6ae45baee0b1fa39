-- Variables behind others, group by group.
use Rattle.std.proofs.Common.{◌≡◌, ℕ, List, [], ◌++◌, refl, ap, ◌∙◌, append_assoc}
use Rattle.std.specs.Prelude.{Option, None, Some, slice_get}
use Rattle.std.specs.Option.{option_map_or}
use Rattle.civl_tree.specs.declared.stmt.Stmt.{Stmt, out-Stmt}
use Rattle.civl_tree.specs.declared.program.Proc.{Proc}
use Rattle.civl_tree.specs.declared.program.Program.{Program}
use Rattle.civl_tree.specs.Numbering.{statements_of, statement_at}
use Rattle.civl_meaning.specs.Layers.{topmost}
use Rattle.civl_conditions.specs.declared.condition.Variable.{Variable}
use Rattle.civl_conditions.specs.Steps.{of_proc}
use Rattle.civl_conditions.specs.Passed.{choices_at as passed_at}
use Rattle.civl_conditions.specs.Variables.{of_globals, of_choices, layer_choices, call_front}
use Rattle.civl_goals.specs.Outlines.{top_globals}
use Rattle.civl_goals.specs.Variables.{of_frame, choices_at, of_statement}

pub three_behind : (list a b c : List Variable) → list ++ a ++ b ++ c ≡ list ++ (a ++ (b ++ c))
three_behind list a b c = append_assoc (list ++ a) b c ∙ append_assoc list a (b ++ c)

-- the choices of a statement, found by its number
module _ (program : Program) (s : ℕ) where
  of_stmt : (found : Option Stmt) → option_map_or (λ stmt. of_choices (call_front s) (layer_choices (topmost program) (out-Stmt stmt))) found [] ≡ of_choices (call_front s) (option_map_or (λ stmt. layer_choices (topmost program) (out-Stmt stmt)) found [])
  of_stmt None = refl
  of_stmt (Some stmt) = refl

  in_proc : (found : Option Proc) → option_map_or (λ proc. passed_at program program.layers (statements_of proc.body) s) found []
      ≡ of_choices (call_front s) (option_map_or (λ proc. option_map_or (λ stmt. layer_choices (topmost program) (out-Stmt stmt)) (statement_at proc.body s) []) found [])
  in_proc None = refl
  in_proc (Some proc) = of_stmt (statement_at proc.body s)

pub statement_behind : (list : List Variable) (program : Program) (r s : ℕ)
    → ((list ++ of_globals [] (top_globals program)) ++ of_frame [] program r) ++ of_proc program r [] (λ p. passed_at program program.layers (statements_of p.body) s) ≡ list ++ of_statement program r s
statement_behind list program r s =
    ap (λ (vs : List Variable). ((list ++ of_globals [] (top_globals program)) ++ of_frame [] program r) ++ vs) (in_proc program s (slice_get program.procs r))
    ∙ three_behind list (of_globals [] (top_globals program)) (of_frame [] program r) (of_choices (call_front s) (choices_at program r s))
