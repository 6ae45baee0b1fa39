-- What follows from the definition of the report.
use Rattle.std.specs.Prelude.{◌≡◌, ℕ, List, ◌++◌, codes}
use Rattle.civl_tree.specs.declared.program.Program.{Program}
use Rattle.civl_verdicts.specs.declared.verdict.Verdict.{Verdict}
use Rattle.civl_verdicts.specs.declared.verdict.Verdict.TheVariants.{Accepted}
use Rattle.civl_verdicts.specs.verdict_reports.Verdicts.{verdict_text}

-- a report that begins with `accepted` is that of acceptance
abbrev pub OnlyAcceptedAccepts : Type 0
OnlyAcceptedAccepts = (program : Program) (budget : ℕ) (verdict : Verdict) (after : List ℕ) → verdict_text program budget verdict ≡ codes "accepted" ++ after → (count : ℕ) × (verdict ≡ Accepted count)
