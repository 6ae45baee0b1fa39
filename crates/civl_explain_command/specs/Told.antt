-- The text that tells an outcome: what `civl` reports, and the stories.
use Rattle.std.specs.Prelude.{◌≡◌, ℕ, List, [], ◌++◌, codes}
use Rattle.civl_lex.specs.declared.token.Token.{Token as Placed}
use Rattle.civl_tree.specs.declared.program.Program.{Program}
use Rattle.civl_expected.specs.declared.expected.Expected.{Expected}
use Rattle.civl_expected.specs.declared.kind.TextKind.{TextKind}
use Rattle.civl_verdicts.specs.declared.verdict.Verdict.{Verdict}
use Rattle.civl_verdicts.specs.declared.verdict.Verdict.TheVariants.{NoInitial}
use Rattle.civl_verdicts.specs.declared.survey.Survey.{Survey}
use Rattle.civl_verdicts.specs.declared.survey.Survey.TheVariants as survey
use Rattle.civl_outlines.specs.declared.outline.Outline.{Outline}
use Rattle.civl_prove.specs.declared.outline_reports.proving.Proving.{Proving}
use Rattle.civl_prove.specs.declared.outline_reports.proving.Proving.TheVariants as proving
use Rattle.civl_frontend.specs.declared.reader.Fault.TheVariants.{NoToken, NotHere, Deep}
use Rattle.civl_explain_command.specs.declared.manner.Manner.{Manner}
use Rattle.civl_lines.specs.Rendered.{offset_of}
use Rattle.civl_lines.specs.Tokens.{AreTokens}
use Rattle.civl_explain_command.specs.Stories.{proved_story, verdict_story, survey_stories}
use Rattle.civl_explain_command.specs.Expects.{IsExpected}
use Rattle.civl_refusals.specs.Refusals.{expected_text, fault_told, no_initial_told, refusal_told}
use Rattle.civl_refusals.specs.Heavy.{heavy_told, heavy_goal_told}
use Rattle.civl_refusals.specs.Outlines.{descending_told, unfit_told}
use Rattle.civl_refusals.specs.Scripts.{misfit_told}
use Rattle.civl_explain_command.specs.Runs.{run_told}
use Rattle.civl_explain_command.specs.Outcome.{Outcome, TooLong, Unread, Broken, Heavy, Judged, Surveyed, Misfit, Ran, Proven, report_of}

-- of a verdict: the story of a rejection, and the place of `init` where no store is initial
abbrev pub verdict_behind : Manner → List ℕ → List Placed → Program → Verdict → List ℕ
verdict_behind manner bytes tokens program NoInitial = no_initial_told manner.form bytes tokens program
verdict_behind manner bytes tokens program verdict = verdict_story manner bytes tokens program verdict

-- of a survey: the stories of the conditions that fail, or the same place
abbrev pub survey_behind : Manner → List ℕ → List Placed → Program → Survey → List ℕ
survey_behind manner bytes tokens program survey.NoInitial = no_initial_told manner.form bytes tokens program
survey_behind manner bytes tokens program (survey.Findings initial findings) = survey_stories manner bytes tokens program findings

-- the story of what is found of an outline: that of the verdict on its program, or of the goal that isn't proved; or the place of what breaks a
-- rule of outlines, or of a formula that weighs too much
abbrev pub proving_story : Manner → List ℕ → List Placed → Program → Outline → Proving → List ℕ
proving_story manner bytes tokens program outline (proving.Judged verdict) = verdict_behind manner bytes tokens program verdict
proving_story manner bytes tokens program outline (proving.Decided count proved) = proved_story manner bytes tokens program outline proved
proving_story manner bytes tokens program outline (proving.Note number) = unfit_told manner.form bytes tokens outline number
proving_story manner bytes tokens program outline (proving.Roots item statement) =
    descending_told manner.form bytes tokens program item statement
proving_story manner bytes tokens program outline (proving.Heavy first) = heavy_told manner.form bytes tokens program first
proving_story manner bytes tokens program outline (proving.HeavyGoal goal) = heavy_goal_told manner.form bytes tokens program goal

-- what is told of an outcome, beside tokens: what `civl` reports, with the stories and places behind it; and of a run with its moves before it
abbrev pub told : Manner → List ℕ → List Placed → Outcome → List ℕ
told manner bytes tokens (Broken program refusal) = report_of (Broken program refusal) ++ refusal_told manner.form bytes tokens program refusal
told manner bytes tokens (Judged program budget verdict) =
    report_of (Judged program budget verdict) ++ verdict_behind manner bytes tokens program verdict
told manner bytes tokens (Surveyed program budget survey) =
    report_of (Surveyed program budget survey) ++ survey_behind manner bytes tokens program survey
told manner bytes tokens (Heavy program first) = report_of (Heavy program first) ++ heavy_told manner.form bytes tokens program first
told manner bytes tokens (Misfit script number) = report_of (Misfit script number) ++ misfit_told manner.form bytes tokens script number
told manner bytes tokens (Ran script plain store moves) = run_told manner.form bytes tokens script plain store moves
told manner bytes tokens (Proven outline budget found) =
    report_of (Proven outline budget found) ++ proving_story manner bytes tokens outline.program outline found
told manner bytes tokens (TooLong most) = report_of (TooLong most)
told manner bytes tokens (Unread fault) = report_of (Unread fault)

-- The report tells this outcome of an input, which is a text of this kind.
abbrev pub IsTold : TextKind → Manner → List ℕ → Outcome → List ℕ → Type 0
IsTold kind manner input (TooLong most) report = report ≡ report_of (TooLong most)
IsTold kind manner input (Unread (NoToken place)) report =
    report ≡ report_of (Unread (NoToken place)) ++ fault_told manner.form input place (codes "no token begins here")
IsTold kind manner input (Unread (NotHere place)) report =
    (tokens : List Placed) × (expected : Expected) × AreTokens input tokens × IsExpected kind tokens place expected
    × (report ≡ report_of (Unread (NotHere place)) ++ fault_told manner.form input (offset_of input tokens place) (expected_text expected))
IsTold kind manner input (Unread (Deep place)) report =
    (tokens : List Placed) × AreTokens input tokens
    × (report ≡ report_of (Unread (Deep place)) ++ fault_told manner.form input (offset_of input tokens place) (codes "this opens the 65th bracket"))
IsTold kind manner input outcome report =
    (tokens : List Placed) × AreTokens input tokens × (report ≡ told manner input tokens outcome)
