-- The report of the command `prove`. Each line ends with byte 10.
use Rattle.std.specs.Prelude.{ℕ, ◌+◌, List, [], ◌++◌, codes, decimal}
use Rattle.civl_bits.specs.declared.value.Value.{Value}
use Rattle.civl_tree.specs.declared.program.Program.{Program}
use Rattle.civl_verdicts.specs.reports.Lines.{line}
use Rattle.civl_verdicts.specs.reports.Values.{value_lines}
use Rattle.civl_verdicts.specs.reports.Findings.{heavy_text}
use Rattle.civl_verdicts.specs.verdict_reports.Verdicts.{verdict_text}
use Rattle.civl_goals.specs.declared.goal.Goal.{Goal}
use Rattle.civl_goals.specs.Names.{goal_text}
use Rattle.civl_goals.specs.Variables.{variables}
use Rattle.civl_prove.specs.declared.proved.Proved.{Proved}
use Rattle.civl_prove.specs.declared.proved.Proved.TheVariants.{All, Fails, Undecided}
use Rattle.civl_prove.specs.declared.outline_reports.proving.Proving.{Proving}
use Rattle.civl_prove.specs.declared.outline_reports.proving.Proving.TheVariants.{Note, Roots, Heavy, HeavyGoal, Judged, Decided}

-- ---- refusals

-- the first hold or note that doesn't fit; these are numbered together, from 0
abbrev pub note_text : ℕ → List ℕ
note_text number = line (codes "refused E90 at note " ++ decimal number)

-- the first place at which the topmost program calls a root, or runs another procedure
abbrev pub roots_text : ℕ → ℕ → List ℕ
roots_text item statement = line (codes "refused E91 at item " ++ decimal item ++ codes " statement " ++ decimal statement)

-- the first goal that weighs too much
abbrev pub heavy_goal_text : Program → Goal → List ℕ
heavy_goal_text program goal = line (codes "refused E61 at " ++ goal_text program goal ++ codes " over 400000")

-- ---- goals

-- how many conditions and goals there are: all of them hold
abbrev pub safe_text : ℕ → List ℕ
safe_text count = line (codes "safe " ++ decimal count ++ codes " conditions")

-- the first goal that doesn't hold, and values that violate it
abbrev pub unproved_text : Program → Goal → List Value → List ℕ
unproved_text program goal values = line (codes "unproved " ++ goal_text program goal) ++ value_lines [] (variables program goal) values

-- the goal whose search spent the budget
abbrev pub open_text : Program → Goal → ℕ → List ℕ
open_text program goal budget = line (codes "undecided " ++ goal_text program goal ++ codes " after " ++ decimal budget)

-- what is reported of the goals of a program with so many conditions
abbrev pub proved_text : Program → ℕ → ℕ → Proved → List ℕ
proved_text program budget count (All goals) = safe_text (count + goals)
proved_text program budget count (Fails goal values) = unproved_text program goal values
proved_text program budget count (Undecided goal log) = open_text program goal budget

-- what is reported of a program and an outline, under a budget
abbrev pub proving_text : Program → ℕ → Proving → List ℕ
proving_text program budget (Note number) = note_text number
proving_text program budget (Roots item statement) = roots_text item statement
proving_text program budget (Heavy first) = heavy_text program first
proving_text program budget (HeavyGoal goal) = heavy_goal_text program goal
proving_text program budget (Judged verdict) = verdict_text program budget verdict
proving_text program budget (Decided count proved) = proved_text program budget count proved
