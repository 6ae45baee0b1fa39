-- What follows from the definitions: there is a verdict on each program, and verdicts on one program agree.
use Rattle.std.specs.Prelude.{ℕ}
use Rattle.civl_tree.specs.declared.program.Program.{Program}
use Rattle.civl_tree.specs.rules.Rules.{Keeps}
use Rattle.civl_tree.specs.rules.Typing.{typing_rules}
use Rattle.civl_verdicts.specs.declared.verdict.Verdict.{Verdict}
use Rattle.civl_verdicts.specs.Verdicts.{IsVerdict}
use Rattle.civl_verdicts.specs.judgements.Agreement.{VerdictsAgree}

abbrev pub EachProgramHasAVerdict : Type 0
EachProgramHasAVerdict = (program : Program) (budget : ℕ) → Keeps typing_rules program → (verdict : Verdict) × IsVerdict program budget verdict

abbrev pub VerdictsOnOneAgree : Type 0
VerdictsOnOneAgree = (program : Program) (budget limit : ℕ) (first second : Verdict) → IsVerdict program budget first → IsVerdict program limit second → VerdictsAgree program first second
