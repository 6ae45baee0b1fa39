-- What two outcomes for which one input calls have in common.
use Rattle.std.specs.Prelude.{◌≡◌}
use Rattle.civl_verdicts.specs.findings.Agreement.{SurveysAgree}
use Rattle.civl_verdicts.specs.judgements.Agreement.{VerdictsAgree}
use Rattle.civl_prove.specs.outline_reports.Agreement.{Agree as ProvingsAgree}
use Rattle.civl_certify.specs.proof_reports.Agreement.{Agree}
use Rattle.civl_command.specs.Outcome.{Outcome, Judged, Surveyed, Proven, Asked}

-- two verdicts don't speak against each other, nor do two surveys or two findings of an outline or of a condition, and all others are one
abbrev pub AreAlike : Outcome → Outcome → Type 0
AreAlike (Judged program budget verdict) (Judged other limit found) = VerdictsAgree program verdict found
AreAlike (Surveyed program budget survey) (Surveyed other limit found) = SurveysAgree survey found
AreAlike (Proven outline budget proving) (Proven other limit found) = ProvingsAgree outline.program outline proving found
AreAlike (Asked program at budget making) (Asked other place limit found) = Agree making found
AreAlike first second = first ≡ second
