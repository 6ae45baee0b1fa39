-- What two outcomes for which one input calls have in common.
use Rattle.std.specs.Prelude.{◌≡◌, ⊤}
use Rattle.civl_verdicts.specs.declared.verdict.Verdict.{Verdict}
use Rattle.civl_verdicts.specs.declared.verdict.Verdict.TheVariants as verdict
use Rattle.civl_verdicts.specs.judgements.Agreement.{VerdictsAgree}
use Rattle.civl_lift_command.specs.Outcome.{Outcome, Judged, Misfit, NotInitial, NotFailing, Lifted, Spent}

-- a search spent its budget, so that another may come to acceptance
abbrev pub IsLeftOpen : Verdict → Type 0
IsLeftOpen (verdict.Undecided formula log) = ⊤
IsLeftOpen _ = ⊥

-- what is found behind acceptance
abbrev pub IsBehind : Outcome → Type 0
IsBehind (Misfit number) = ⊤
IsBehind NotInitial = ⊤
IsBehind (NotFailing moved) = ⊤
IsBehind (Lifted moves thread) = ⊤
IsBehind (Spent step thread) = ⊤
IsBehind _ = ⊥

-- what a schedule that fails in the lowest program comes to
abbrev pub IsLifting : Outcome → Type 0
IsLifting (Lifted moves thread) = ⊤
IsLifting (Spent step thread) = ⊤
IsLifting _ = ⊥

-- Two verdicts don't speak against each other; a verdict that a search left open stands beside what is found behind acceptance; a schedule
-- may be lifted in several ways; and all others are one.
abbrev pub AreAlike : Outcome → Outcome → Type 0
AreAlike (Judged program budget verdict) (Judged other limit found) = VerdictsAgree program verdict found
AreAlike (Judged program budget verdict) second = IsLeftOpen verdict × IsBehind second
AreAlike first (Judged program budget verdict) = IsLeftOpen verdict × IsBehind first
AreAlike (Lifted moves thread) second = IsLifting second
AreAlike (Spent step thread) second = IsLifting second
AreAlike first second = first ≡ second
