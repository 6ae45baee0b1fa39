-- The reports of the commands of certificates.
use Rattle.std.specs.Prelude.{ℕ, List, ◌++◌, codes, decimal, Some}
use Rattle.civl_tree.specs.declared.program.Program.{Program}
use Rattle.civl_cnf.specs.Literal.{Literal}
use Rattle.civl_cnf.specs.ClauseSet.{ClauseSet}
use Rattle.civl_rup.specs.declared.answer.Replay.TheVariants.{Refutes, NotRup, NoEmpty}
use Rattle.civl_proofs.specs.Text.{canonical}
use Rattle.civl_conditions.specs.declared.condition.Condition.{Condition}
use Rattle.civl_conditions.specs.Variables.{variables}
use Rattle.civl_verdicts.specs.declared.verdict.Counter.{Counter}
use Rattle.civl_verdicts.specs.reports.Lines.{line}
use Rattle.civl_verdicts.specs.reports.Values.{value_lines}
use Rattle.civl_verdicts.specs.reports.Findings.{formula_text, heavy_text, no_initial_text}
use Rattle.civl_certify.specs.declared.certified.Shown.{Shown as ShownOf}
use Rattle.civl_certify.specs.declared.certified.Shown.TheVariants.{Holds, Fails, Undecided}
use Rattle.civl_certify.specs.declared.certified.Certified.TheVariants.{NoInitial, Answer}
use Rattle.civl_certify.specs.declared.proof_reports.making.Making.{Making}
use Rattle.civl_certify.specs.declared.proof_reports.making.Making.TheVariants.{Heavy, Beyond, Shown}
use Rattle.civl_certify.specs.declared.proof_reports.replaying.Replaying.{Replaying}
use Rattle.civl_certify.specs.declared.proof_reports.replaying.Replaying.TheVariants.{Unread, Read}

-- that no condition has the number, and how many there are
abbrev pub beyond_text : ℕ → ℕ → List ℕ
beyond_text at count = line (codes "refused E81 at " ++ decimal at ++ codes " of " ++ decimal count)

-- a comment line with the name of the condition that holds, and its certificate
abbrev pub certificate_text : Program → Condition → ClauseSet → List (List Literal) → List ℕ
certificate_text program condition set log = line (codes "c " ++ formula_text program (Some condition)) ++ canonical set log

-- the name of the condition that fails, and a line for each variable
abbrev pub fails_text : Program → Condition → Counter → List ℕ
fails_text program condition counter = formula_text program (Some condition) ++ (line (codes ": fails") ++ value_lines (codes "  ") (variables program condition) counter.values)

-- that the condition is left open
abbrev pub open_text : Program → ℕ → Condition → List ℕ
open_text program budget condition = formula_text program (Some condition) ++ line (codes ": undecided after " ++ decimal budget)

abbrev pub shown_text : Program → ℕ → Condition → ShownOf → List ℕ
shown_text program budget condition (Holds set log) = certificate_text program condition set log
shown_text program budget condition (Fails counter) = fails_text program condition counter
shown_text program budget condition (Undecided log) = open_text program budget condition

-- what is reported of a program and a number of a condition, under a budget
abbrev pub making_text : Program → ℕ → ℕ → Making → List ℕ
making_text program budget at (Heavy first) = heavy_text program first
making_text program budget at (Beyond count) = beyond_text at count
making_text program budget at (Shown condition NoInitial) = no_initial_text program
making_text program budget at (Shown condition (Answer initial shown)) = shown_text program budget condition shown

-- what is reported of a text that is to be a certificate
abbrev pub replaying_text : Replaying → List ℕ
replaying_text (Unread place) = line (codes "refused E82 at byte " ++ decimal place)
replaying_text (Read Refutes) = line (codes "refutes")
replaying_text (Read (NotRup place)) = line (codes "not rup " ++ decimal place)
replaying_text (Read NoEmpty) = line (codes "no empty")
