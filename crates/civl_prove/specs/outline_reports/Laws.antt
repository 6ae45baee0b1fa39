-- What follows from the definitions.
use Rattle.std.specs.Prelude.{◌≡◌, ℕ, List, ◌++◌, codes}
use Rattle.civl_tree.specs.declared.program.Program.{Program}
use Rattle.civl_tree.specs.rules.Rules.{Keeps}
use Rattle.civl_tree.specs.rules.Typing.{typing_rules}
use Rattle.civl_outlines.specs.declared.outline.Outline.{Outline}
use Rattle.civl_prove.specs.declared.proved.Proved.TheVariants.{All}
use Rattle.civl_prove.specs.declared.outline_reports.proving.Proving.{Proving}
use Rattle.civl_prove.specs.declared.outline_reports.proving.Proving.TheVariants.{Decided}
use Rattle.civl_prove.specs.outline_reports.Agreement.{Agree}
use Rattle.civl_prove.specs.outline_reports.Proving.{IsProving}
use Rattle.civl_prove.specs.outline_reports.Reports.{proving_text}

-- under each budget something is found of each program that keeps the rules on names and sorts, and each outline
abbrev pub EachOutlineIsAnswered : Type 0
EachOutlineIsAnswered = (program : Program) (outline : Outline) (budget : ℕ) → Keeps typing_rules program → (proving : Proving) × IsProving program outline budget proving

-- what is found of one program and one outline, twice, doesn't speak against itself
abbrev pub ProvingsAgree : Type 0
ProvingsAgree =
    (program : Program) (outline : Outline) (budget limit : ℕ) (first second : Proving) → IsProving program outline budget first → IsProving program outline limit second → Agree program outline first second

-- a report that begins with `safe` is that of an accepted program all of whose goals hold
abbrev pub OnlySafeIsSafe : Type 0
OnlySafeIsSafe =
    (program : Program) (budget : ℕ) (proving : Proving) (after : List ℕ) → proving_text program budget proving ≡ codes "safe" ++ after → (count : ℕ) × (goals : ℕ) × (proving ≡ Decided count (All goals))
