-- What is decided of an admitted program is decided of the program.
use Rattle.std.specs.Prelude.{Option, None, Some}
use Rattle.std.proofs.Common.{◌≡◌, ℕ, refl, subst}
use Rattle.civl_tree.specs.declared.program.Program.{Program}
use Rattle.civl_conditions.specs.declared.condition.Condition.{Condition}
use Rattle.civl_conditions.specs.Weights.{heavy}
use Rattle.civl_verdicts.specs.declared.survey.Survey.{Survey}
use Rattle.civl_verdicts.specs.declared.verdict.Verdict.{Verdict}
use Rattle.civl_verdicts.specs.Surveys.{IsSurvey}
use Rattle.civl_verdicts.specs.Verdicts.{IsVerdict}
use Rattle.civl_outlines.specs.declared.outline.Outline.{Outline}
use Rattle.civl_prove.specs.declared.outline_reports.proving.Proving.{Proving}
use Rattle.civl_prove.specs.outline_reports.Proving.{IsProving}
use Rattle.civl_certify.specs.declared.proof_reports.making.Making.{Making}
use Rattle.civl_certify.specs.proof_reports.Making.{IsMaking}
use Rattle.civl_frontend.specs.Rules.{IsLawful, IsTaken}
use Rattle.civl_command.specs.Outcome.{Outcome, TooLong, Unread, Broken, Heavy, Judged, Surveyed, Printed, Misfit, Ran, Proven, Asked, Replayed, Breaks, Checks, Surveys, Proves, Asks}

module _ (program src : Program) (budget : ℕ) (same : src ≡ program) (rules : IsLawful program) where
  light_of : heavy src ≡ None → IsTaken program
  light_of light = record { rules = rules; light = subst (λ (p : Program). heavy p ≡ None) same light }

  pub surveyed_of : (survey : Survey) → heavy src ≡ None → IsSurvey src budget survey → Surveys budget program (Surveyed src budget survey)
  surveyed_of survey light right = (same, refl, light_of light, subst (λ (p : Program). IsSurvey p budget survey) same right)

  pub judged_of : (verdict : Verdict) → heavy src ≡ None → IsVerdict src budget verdict → Checks budget program (Judged src budget verdict)
  judged_of verdict light right = (same, refl, light_of light, subst (λ (p : Program). IsVerdict p budget verdict) same right)

  pub heavy_of : (first : Option Condition) → heavy src ≡ Some first → (src ≡ program) × IsLawful program × (heavy program ≡ Some first)
  heavy_of first h = (same, rules, subst (λ (p : Program). heavy p ≡ Some first) same h)

  pub asked_of : (at : ℕ) (making : Making) → IsMaking src budget at making → Asks at budget program (Asked src at budget making)
  asked_of at making right = (same, refl, refl, rules, subst (λ (p : Program). IsMaking p budget at making) same right)

-- what is found of an admitted program and an outline is found of the outline, where the program is its own
pub proven_of : (outline : Outline) (src : Program) (budget : ℕ) → src ≡ outline.program → IsLawful outline.program → (found : Proving) → IsProving src outline budget found
    → Proves budget outline (Proven outline budget found)
proven_of outline src budget same rules found right = (refl, refl, rules, subst (λ (p : Program). IsProving p outline budget found) same right)

-- a program that breaks a rule is told so under each command
module _ (budget : ℕ) (program : Program) where
  pub breaks_check : (outcome : Outcome) → Breaks program outcome → Checks budget program outcome
  breaks_check (TooLong most) b = absurd b
  breaks_check (Unread fault) b = absurd b
  breaks_check (Broken refusal) b = b
  breaks_check (Heavy weighed first) b = absurd b
  breaks_check (Judged judged told verdict) b = absurd b
  breaks_check (Surveyed surveyed told survey) b = absurd b
  breaks_check (Printed printed) b = absurd b
  breaks_check (Misfit number) b = absurd b
  breaks_check (Ran ran trace) b = absurd b
  breaks_check (Proven proven told found) b = absurd b
  breaks_check (Asked asked at told making) b = absurd b
  breaks_check (Replayed replaying) b = absurd b

  pub breaks_survey : (outcome : Outcome) → Breaks program outcome → Surveys budget program outcome
  breaks_survey (TooLong most) b = absurd b
  breaks_survey (Unread fault) b = absurd b
  breaks_survey (Broken refusal) b = b
  breaks_survey (Heavy weighed first) b = absurd b
  breaks_survey (Judged judged told verdict) b = absurd b
  breaks_survey (Surveyed surveyed told survey) b = absurd b
  breaks_survey (Printed printed) b = absurd b
  breaks_survey (Misfit number) b = absurd b
  breaks_survey (Ran ran trace) b = absurd b
  breaks_survey (Proven proven told found) b = absurd b
  breaks_survey (Asked asked at told making) b = absurd b
  breaks_survey (Replayed replaying) b = absurd b

pub breaks_ask : (at budget : ℕ) (program : Program) (outcome : Outcome) → Breaks program outcome → Asks at budget program outcome
breaks_ask at budget program (TooLong most) b = absurd b
breaks_ask at budget program (Unread fault) b = absurd b
breaks_ask at budget program (Broken refusal) b = b
breaks_ask at budget program (Heavy weighed first) b = absurd b
breaks_ask at budget program (Judged judged told verdict) b = absurd b
breaks_ask at budget program (Surveyed surveyed told survey) b = absurd b
breaks_ask at budget program (Printed printed) b = absurd b
breaks_ask at budget program (Misfit number) b = absurd b
breaks_ask at budget program (Ran ran trace) b = absurd b
breaks_ask at budget program (Proven proven told found) b = absurd b
breaks_ask at budget program (Asked asked place told making) b = absurd b
breaks_ask at budget program (Replayed replaying) b = absurd b
