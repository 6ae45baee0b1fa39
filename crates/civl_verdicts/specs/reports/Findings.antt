-- The report of the command `conditions`.
use Rattle.std.specs.Prelude.{ℕ, Bool, true, false, List, ◌++◌, length, filter, codes, decimal, Option, None, Some}
use Rattle.civl_tree.specs.declared.program.Program.{Program}
use Rattle.civl_cnf.specs.Literal.{Literal}
use Rattle.civl_conditions.specs.declared.condition.Condition.{Condition}
use Rattle.civl_conditions.specs.Listed.{conditions}
use Rattle.civl_conditions.specs.Names.{name_text}
use Rattle.civl_conditions.specs.Variables.{variables}
use Rattle.civl_verdicts.specs.declared.survey.Found.{Found}
use Rattle.civl_verdicts.specs.declared.survey.Found.TheVariants.{Holds, Fails, Undecided}
use Rattle.civl_verdicts.specs.declared.survey.Survey.{Survey}
use Rattle.civl_verdicts.specs.declared.survey.Survey.TheVariants.{NoInitial, Findings}
use Rattle.civl_verdicts.specs.reports.Lines.{line}
use Rattle.civl_verdicts.specs.reports.Values.{beside, value_lines}
use Rattle.civl_verdicts.specs.declared.reports.counting.Kind.{Kind}
use Rattle.civl_verdicts.specs.declared.reports.counting.Kind.TheVariants as kind

-- the end of a line that names what isn't decided
abbrev pub undecided_line : ℕ → List ℕ
undecided_line budget = line (codes ": undecided after " ++ decimal budget)

-- what the search for an initial store came to
abbrev pub initial_line : ℕ → Option (List (List Literal)) → List ℕ
initial_line budget None = line (codes "initial: found")
initial_line budget (Some log) = codes "initial" ++ undecided_line budget

-- what is found of a condition, with the values where it fails
abbrev pub found_lines : Program → ℕ → Condition → Found → List ℕ
found_lines program budget condition Holds = name_text program condition ++ line (codes ": holds")
found_lines program budget condition (Fails counter) = name_text program condition ++ (line (codes ": fails") ++ value_lines (codes "  ") (variables program condition) counter.values)
found_lines program budget condition (Undecided log) = name_text program condition ++ undecided_line budget

-- the same of each condition, in their order
abbrev pub findings_lines : Program → ℕ → List Condition → List Found → List ℕ
findings_lines program budget list findings = beside (found_lines program budget) list findings

-- what is found is of this kind
abbrev pub is_of : Kind → Found → Bool
is_of kind.Holds Holds = true
is_of kind.Fails (Fails counter) = true
is_of kind.Undecided (Undecided log) = true
is_of _ _ = false

abbrev pub how_many : Kind → List Found → List ℕ
how_many kind findings = decimal (length (filter (is_of kind) findings))

-- how many conditions hold, how many fail, and how many are undecided
abbrev pub count_line : List Found → List ℕ
count_line findings = line (how_many kind.Holds findings ++ (codes " hold, " ++ how_many kind.Fails findings ++ codes " fail, " ++ how_many kind.Undecided findings ++ codes " undecided"))

-- that no store is initial, at the item of `init`, which follows those of the globals
abbrev pub no_initial_text : Program → List ℕ
no_initial_text program = line (codes "refused E70 at item " ++ decimal (length program.globals))

-- what is reported of a program and a survey of its conditions under a budget
abbrev pub survey_text : Program → ℕ → Survey → List ℕ
survey_text program budget NoInitial = no_initial_text program
survey_text program budget (Findings initial findings) = initial_line budget initial ++ (findings_lines program budget (conditions program) findings ++ count_line findings)

-- the name of a formula: that of a condition, or of the search for an initial store
abbrev pub formula_text : Program → Option Condition → List ℕ
formula_text program None = codes "initial"
formula_text program (Some condition) = name_text program condition

-- that this formula weighs too much
abbrev pub heavy_text : Program → Option Condition → List ℕ
heavy_text program formula = line (codes "refused E61 at " ++ formula_text program formula ++ codes " over 400000")
