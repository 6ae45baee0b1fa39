-- The report of a verdict. Each line ends with byte 10.
use Rattle.std.specs.Prelude.{ℕ, List, [], ◌++◌, codes, decimal, Option}
use Rattle.civl_tree.specs.declared.program.Program.{Program}
use Rattle.civl_conditions.specs.declared.condition.Condition.{Condition}
use Rattle.civl_conditions.specs.Names.{name_text}
use Rattle.civl_conditions.specs.Variables.{variables}
use Rattle.civl_verdicts.specs.declared.verdict.Counter.{Counter}
use Rattle.civl_verdicts.specs.declared.verdict.Verdict.{Verdict}
use Rattle.civl_verdicts.specs.declared.verdict.Verdict.TheVariants.{Accepted, Rejected, Undecided, NoInitial}
use Rattle.civl_verdicts.specs.reports.Lines.{line}
use Rattle.civl_verdicts.specs.reports.Values.{value_lines}
use Rattle.civl_verdicts.specs.reports.Findings.{formula_text, no_initial_text}

-- how many conditions hold, all of them
abbrev pub accepted_text : ℕ → List ℕ
accepted_text count = line (codes "accepted " ++ decimal count ++ codes " conditions")

-- the first condition that doesn't hold, and values that violate it
abbrev pub rejected_text : Program → Counter → List ℕ
rejected_text program counter = line (codes "rejected " ++ name_text program counter.condition) ++ value_lines [] (variables program counter.condition) counter.values

-- the formula whose search spent the budget
abbrev pub undecided_text : Program → Option Condition → ℕ → List ℕ
undecided_text program formula budget = line (codes "undecided " ++ formula_text program formula ++ codes " after " ++ decimal budget)

-- what is reported of a program and the verdict on it under a budget
abbrev pub verdict_text : Program → ℕ → Verdict → List ℕ
verdict_text program budget (Accepted count) = accepted_text count
verdict_text program budget (Rejected counter) = rejected_text program counter
verdict_text program budget (Undecided formula log) = undecided_text program formula budget
verdict_text program budget NoInitial = no_initial_text program
