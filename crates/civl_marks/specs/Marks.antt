-- On which of its values a violation doesn't stand: those in whose place there may be another value, tried one by one in their order, each
-- kept where the condition is violated too. (A failure is narrowed down to what it needs: Zeller, Hildebrandt, Simplifying and isolating
-- failure-inducing input, IEEE Transactions on Software Engineering, 2002.)
use Rattle.std.specs.Prelude.{ℕ, Bool, if◌then◌else◌, List, [], ◌∷◌, ◌++◌, codes, Option, None, Some}
use Rattle.std.specs.Option.{unwrap_or}
use Rattle.civl_bits.specs.declared.value.Value.{Value}
use Rattle.civl_tree.specs.declared.name.Name.{Name}
use Rattle.civl_tree.specs.declared.program.Program.{Program}
use Rattle.civl_conditions.specs.declared.condition.Condition.{Condition}
use Rattle.civl_conditions.specs.declared.condition.Variable.{Variable}
use Rattle.civl_conditions.specs.Violated.{violated}
use Rattle.civl_conditions.specs.Variables.{variables}
use Rattle.civl_verdicts.specs.reports.Lines.{line}
use Rattle.civl_lines.specs.Pieces.{equation}
use Rattle.civl_marks.specs.Others.{other_value}

-- ---- which values

-- another value than the given one, where it is violated with that between those before and those behind
abbrev pub tried : (List Value → Bool) → List Value → Value → List Value → Option Value
tried violates before given behind = if violates (before ++ other_value given ∷ behind) then Some (other_value given) else None

-- of each of these values, which stand behind some: the other value, if any, which is kept in its place
abbrev pub marks_behind : (List Value → Bool) → List Value → List Value → List (Option Value)
marks_behind violates before [] = []
marks_behind violates before (v ∷ vs) =
    let mark = tried violates before v vs in
    mark ∷ marks_behind violates (before ++ unwrap_or mark v ∷ []) vs

-- of each of the values of a condition
abbrev pub marks : Program → Condition → List Value → List (Option Value)
marks program condition values = marks_behind (violated program condition) [] values

-- ---- the line that tells them

-- behind a lead `name = value`, where there is another value
abbrev pub mark_text : List ℕ → Variable → Option Value → List ℕ
mark_text lead v None = []
mark_text lead v (Some other) = lead ++ equation v.name other

-- what leads the next one
abbrev pub next_lead : List ℕ → Option Value → List ℕ
next_lead lead None = lead
next_lead lead (Some other) = codes ", "

-- the first behind a lead, and the others behind commas
abbrev pub marks_text : List ℕ → List Variable → List (Option Value) → List ℕ
marks_text lead [] ms = []
marks_text lead (v ∷ vs) [] = []
marks_text lead (v ∷ vs) (m ∷ ms) = mark_text lead v m ++ marks_text (next_lead lead m) vs ms

-- a text as a line, if there is any
abbrev pub line_of : List ℕ → List ℕ
line_of [] = []
line_of (b ∷ bs) = line (b ∷ bs)

-- `violated too with name = value, ..`; no line, where the violation stands on each value
abbrev pub marks_line : List Variable → List (Option Value) → List ℕ
marks_line vs ms = line_of (marks_text (codes "  violated too with ") vs ms)

abbrev pub marks_told : Program → Condition → List Value → List ℕ
marks_told program condition values = marks_line (variables program condition) (marks program condition values)
