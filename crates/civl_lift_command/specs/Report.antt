-- The text of a report. Each line ends with byte 10.
use Rattle.std.specs.Prelude.{ℕ, List, ◌++◌, map, length, codes, decimal, Some}
use Rattle.std.specs.List.{flat_map}
use Rattle.civl_meaning.specs.declared.config.Move.{Move}
use Rattle.civl_verdicts.specs.models.Text.{value_text, listed}
use Rattle.civl_verdicts.specs.reports.Lines.{line}
use Rattle.civl_frontend.specs.Report.{failing_text}

-- that the words are no command's
abbrev pub usage_text : List ℕ
usage_text = line (codes "usage: civl_lift lift [--budget N]")

-- that the store of a script isn't initial
abbrev pub not_initial_text : List ℕ
not_initial_text = line (codes "refused E83 at store")

-- that the moves of a script don't run to a failing configuration of the lowest program; so many are made
abbrev pub not_failing_text : ℕ → List ℕ
not_failing_text moved = line (codes "refused E84 at move " ++ decimal moved)

-- a move: its thread, and its choices in parentheses, with a comma and a blank between them
abbrev pub move_line : Move → List ℕ
move_line move = line (codes "move " ++ decimal move.thread ++ codes " (" ++ listed (map value_text move.choices) ++ codes ");")

-- how many moves there are, a line for each, and the thread that fails at their end
abbrev pub lifted_text : List Move → ℕ → List ℕ
lifted_text moves thread = line (codes "lifted " ++ decimal (length moves)) ++ (flat_map move_line moves ++ failing_text (Some thread))

-- the step between layers, and the thread whose block isn't ended there
abbrev pub spent_text : ℕ → ℕ → List ℕ
spent_text step thread = line (codes "spent step " ++ decimal step ++ codes " thread " ++ decimal thread)
