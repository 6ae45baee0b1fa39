-- The story of a condition or of a goal at its values, and of what is found of all conditions.
use Rattle.std.specs.Prelude.{ℕ, ◌+◌, Bool, if◌then◌else◌, List, [], ◌++◌, Option, None, Some}
use Rattle.std.specs.Option.{option_map_or}
use Rattle.civl_bits.specs.declared.value.Value.{Value}
use Rattle.civl_tree.specs.declared.program.Program.{Program}
use Rattle.civl_lex.specs.declared.token.Token.{Token as Placed}
use Rattle.civl_conditions.specs.declared.condition.Condition.{Condition}
use Rattle.civl_conditions.specs.declared.condition.Condition.TheVariants.{Keep, Start}
use Rattle.civl_conditions.specs.Listed.{conditions}
use Rattle.civl_conditions.specs.Names.{name_text}
use Rattle.civl_clashes.specs.Told.{violation}
use Rattle.civl_losses.specs.Losses.{loss}
use Rattle.civl_action_stories.specs.Told.{violation_story}
use Rattle.civl_assumptions.specs.Lines.{assumed_lines}
use Rattle.civl_marks.specs.Marks.{marks_told}
use Rattle.civl_path_stories.specs.Paths.{path_story}
use Rattle.civl_verdicts.specs.declared.survey.Found.{Found}
use Rattle.civl_verdicts.specs.declared.survey.Found.TheVariants.{Fails}
use Rattle.civl_verdicts.specs.declared.verdict.Verdict.{Verdict}
use Rattle.civl_verdicts.specs.declared.verdict.Verdict.TheVariants as verdict
use Rattle.civl_verdicts.specs.reports.Lines.{line}
use Rattle.civl_verdicts.specs.reports.Values.{beside}
use Rattle.civl_outlines.specs.declared.outline.Outline.{Outline}
use Rattle.civl_goals.specs.declared.goal.Goal.{Goal}
use Rattle.civl_goals.specs.declared.goal.Goal.TheVariants as goal
use Rattle.civl_goal_losses.specs.GoalLosses.{goal_loss}
use Rattle.civl_goal_stories.specs.Assumed.{goal_assumed}
use Rattle.civl_goal_stories.specs.GoalStories.{goal_story}
use Rattle.civl_prove.specs.declared.proved.Proved.{Proved}
use Rattle.civl_prove.specs.declared.proved.Proved.TheVariants as proved
use Rattle.civl_lines.specs.declared.line.Line.{Line}
use Rattle.civl_explain_command.specs.declared.manner.Manner.{Manner}
use Rattle.civl_lines.specs.Rendered.{lines_text}

-- of a condition on actions, by what its values violate it, and of one on a path, by what is lost there; none, where they don't
abbrev pub condition_story : Program → Condition → List Value → List Line
condition_story program condition values =
    option_map_or (violation_story program condition values) (violation program condition values)
    (option_map_or (path_story program condition values) (loss program condition values) [])

-- what is assumed, where it is asked for, and behind it the story
abbrev pub story_lines : Bool → Program → Condition → List Value → List Line
story_lines with_assumed program condition values =
    (if with_assumed then assumed_lines program condition values else []) ++ condition_story program condition values

-- as it is written: the values that may be others, and these lines
abbrev pub story_text : Manner → List ℕ → List Placed → Program → Condition → List Value → List ℕ
story_text manner bytes tokens program condition values =
    marks_told program condition values ++ lines_text manner.form bytes tokens (story_lines manner.assumed program condition values)

-- ---- a verdict

abbrev pub verdict_story : Manner → List ℕ → List Placed → Program → Verdict → List ℕ
verdict_story manner bytes tokens program (verdict.Rejected counter) = story_text manner bytes tokens program counter.condition counter.values
verdict_story manner bytes tokens program _ = []

-- ---- a survey

-- a condition that fails: its name, and under it the story
abbrev pub found_story : Manner → List ℕ → List Placed → Program → Condition → Found → List ℕ
found_story manner bytes tokens program condition (Fails counter) =
    line (name_text program condition) ++ story_text manner bytes tokens program condition counter.values
found_story manner bytes tokens program condition _ = []

-- each of these, in the order of the conditions
abbrev pub survey_stories : Manner → List ℕ → List Placed → Program → List Found → List ℕ
survey_stories manner bytes tokens program findings = beside (found_story manner bytes tokens program) (conditions program) findings

-- ---- the goals of an outline

-- what a goal assumes: of the goals of the beginning and of permissions what K1 and K2 assume
abbrev pub goal_assumptions : Program → Outline → Goal → List Value → List Line
goal_assumptions program outline goal.Invariant values = assumed_lines program (Start 1 0) values
goal_assumptions program outline (goal.Thread i) values = assumed_lines program (Start 1 0) values
goal_assumptions program outline (goal.Linear x) values = assumed_lines program (Keep (program.layers + 1) x) values
goal_assumptions program outline goal values = goal_assumed outline goal

-- this, where it is asked for, and behind it by what values violate the goal; none, where they don't
abbrev pub goal_lines : Bool → Program → Outline → Goal → List Value → List Line
goal_lines with_assumed program outline goal values =
    (if with_assumed then goal_assumptions program outline goal values else [])
    ++ option_map_or (goal_story outline goal) (goal_loss program outline goal values) []

-- as it is written
abbrev pub goal_story_text : Manner → List ℕ → List Placed → Program → Outline → Goal → List Value → List ℕ
goal_story_text manner bytes tokens program outline goal values =
    lines_text manner.form bytes tokens (goal_lines manner.assumed program outline goal values)

-- of the goal that isn't proved
abbrev pub proved_story : Manner → List ℕ → List Placed → Program → Outline → Proved → List ℕ
proved_story manner bytes tokens program outline (proved.Fails goal values) = goal_story_text manner bytes tokens program outline goal values
proved_story manner bytes tokens program outline _ = []
