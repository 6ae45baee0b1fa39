-- Procedures have few statements, and what is held before each of them is counted in the same program.
use Rattle.std.proofs.Common.{◌≡◌, ℕ, ◌<◌, sym, ap, ◌∙◌, subst, Option, Some, length}
use Rattle.std.specs.Prelude.{slice_get}
use Rattle.std.specs.Option.{option_map_or}
use Rattle.std.proofs.lemmas.Option.{slice_get_within, get_or_from_slice_get}
use Rattle.std.proofs.lemmas.List.Elements.{All-get_or}
use Rattle.civl_tree.specs.declared.program.Proc.{Proc}
use Rattle.civl_tree.specs.declared.program.Program.{Program}
use Rattle.civl_tree.specs.Numbering.{sizes_of}
use Rattle.civl_tree.specs.Numbered.{IsNumbered}
use Rattle.civl_goals.specs.Failed.{held_before}
use Rattle.civl_conditions.specs.Steps.{of_proc}

pub few_statements : (program : Program) → IsNumbered program → (r : ℕ) (proc : Proc) → slice_get program.procs r ≡ Some proc → sizes_of proc.body < 4294967296
few_statements program n r proc there =
    subst (λ (p : Proc). sizes_of p.body < 4294967296) (get_or_from_slice_get program.procs r proc proc there)
    (All-get_or (λ (p : Proc). sizes_of p.body < 4294967296) program.procs r proc (slice_get_within program.procs r proc there) n.statements)

-- how many are held before a statement of the procedure with a number, in the same program
pub counts_are : (program src : Program) (r : ℕ) (proc : Proc) (s : ℕ) → program ≡ src → slice_get program.procs r ≡ Some proc → of_proc src r 0 (λ p. length (held_before src p s)) ≡ length (held_before program proc s)
counts_are program src r proc s e there =
    ap (λ (p : Program). of_proc p r 0 (λ q. length (held_before p q s))) (sym e) ∙ ap (λ (o : Option Proc). option_map_or (λ q. length (held_before program q s)) o 0) there
