-- Rank loops hold no other loops, so a path from a rank loop comes to the same one, to a later one, or to none: there are so many
-- rounds as its rank, and so many rank loops as the body has. (Ranks: Floyd, Assigning meanings to programs, 1967.)
use Rattle.std.specs.Prelude.{ℕ, ◌<◌, ◌≡◌, Bool, true, false, List, ◌⊎◌, Some}
use Rattle.civl_bits.specs.declared.value.Value.{Value}
use Rattle.civl_tree.specs.declared.program.Proc.{Proc}
use Rattle.civl_tree.specs.declared.program.Program.{Program}
use Rattle.civl_tree.specs.declared.stmt.Stmt.{Stmt, out-Stmt}
use Rattle.civl_tree.specs.declared.stmt.Stmt.TheOpen as stmt
use Rattle.civl_tree.specs.Numbering.{statement_at}
use Rattle.civl_tree.specs.rules.Rules.{Keeps}
use Rattle.civl_layers.specs.declared.cut.Cut.{Cut}
use Rattle.civl_layers.specs.declared.cut.CutKind.TheVariants as kind
use Rattle.civl_yields.specs.YieldRules.{yield_rules}
use Rattle.civl_conditions.specs.paths.Paths.{Progress, Comes, path_from}
use Rattle.civl_conditions.specs.paths.Seen.{IsProcOf, lower_course}

abbrev pub form_ranked : stmt.Stmt-F Stmt → Bool
form_ranked (stmt.RankLoop e r i a) = true
form_ranked _ = false

abbrev pub RankLoopsComeLater : Type 0
RankLoopsComeLater =
    (program : Program) (step q : ℕ) (proc : Proc) (cut : Cut) (chosen : ℕ → List Value) (from there : Progress) (number : ℕ) (s t : Stmt)
    → Keeps yield_rules program → IsProcOf program q step proc → cut.kind ≡ kind.RankLoop → statement_at proc.body cut.statement ≡ Some s → form_ranked (out-Stmt s) ≡ true
    → path_from (lower_course program step proc chosen) cut from ≡ Comes number there → statement_at proc.body number ≡ Some t → form_ranked (out-Stmt t) ≡ true
    → (number ≡ cut.statement) ⊎ (cut.statement < number)
