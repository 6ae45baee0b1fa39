-- What follows from the definition of the report.
use Rattle.std.specs.Prelude.{ℕ, IsTrue, codes}
use Rattle.civl_tree.specs.SpellingDomain.{allows_program}
use Rattle.civl_tree.specs.declared.program.Program.{Program}
use Rattle.civl_verdicts.specs.declared.survey.Survey.{Survey}
use Rattle.civl_verdicts.specs.reports.Lines.{HasLineThatBegins}
use Rattle.civl_verdicts.specs.reports.Findings.{survey_text}

-- of a program that a text can spell no survey is reported with a line that begins with `accepted`
abbrev pub NeverAccepts : Type 0
NeverAccepts = (program : Program) (budget : ℕ) (survey : Survey) → IsTrue (allows_program program) → HasLineThatBegins (codes "accepted") (survey_text program budget survey) → ⊥
