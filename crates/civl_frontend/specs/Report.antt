-- Parts of reports that commands have in common. Each line ends with byte 10.
use Rattle.std.specs.Prelude.{ℕ, List, ◌++◌, codes, decimal, Option, None, Some}
use Rattle.civl_tree.specs.declared.refusal.Refusal.{Refusal}
use Rattle.civl_verdicts.specs.reports.Lines.{line}
use Rattle.civl_frontend.specs.declared.reader.Fault.{Fault}
use Rattle.civl_frontend.specs.declared.reader.Fault.TheVariants.{NoToken, NotHere, Deep}
use Rattle.civl_frontend.specs.declared.judged.Report.{Report}
use Rattle.civl_frontend.specs.declared.judged.Report.TheVariants.{Fixed, Made}

-- the bytes of a report that is at hand
abbrev pub bytes_of : Report → List ℕ
bytes_of (Fixed text) = text.now
bytes_of (Made text) = text.items

-- that an input is longer than it may be, which is so many bytes
abbrev pub too_long_text : ℕ → List ℕ
too_long_text most = line (codes "refused E01 over " ++ decimal most ++ codes " bytes")

-- the first fault of a text that is no program: a byte at which no token begins, a token that may not stand where it
-- does, or one that opens a bracket too many
abbrev pub fault_text : Fault → List ℕ
fault_text (NoToken place) = line (codes "refused E02 at byte " ++ decimal place)
fault_text (NotHere place) = line (codes "refused E03 at token " ++ decimal place)
fault_text (Deep place) = line (codes "refused E04 at token " ++ decimal place)

-- the first static rule that a program breaks: its code, and the item and the statement
abbrev pub refusal_text : Refusal → List ℕ
refusal_text refusal = line (codes "refused E" ++ decimal refusal.code ++ codes " at item " ++ decimal refusal.item ++ codes " statement " ++ decimal refusal.statement)

-- the number of the first entry or move of a script that doesn't fit
abbrev pub misfit_text : ℕ → List ℕ
misfit_text number = line (codes "refused E80 at entry " ++ decimal number)

-- the least thread that fails in the last configuration of a run, if one does
abbrev pub failing_text : Option ℕ → List ℕ
failing_text None = line (codes "not failing")
failing_text (Some thread) = line (codes "failing " ++ decimal thread)
