-- The texts of what `run` and `trial` report. Each line ends with byte 10.
use Rattle.std.specs.Prelude.{ℕ, List, [], ◌++◌, codes, decimal, Option, None, Some}
use Rattle.civl_bits.specs.declared.value.Value.{Value}
use Rattle.civl_tree.specs.declared.program.Global.{Global}
use Rattle.civl_tree.specs.declared.program.Program.{Program}
use Rattle.civl_meaning.specs.declared.config.Stepped.{Stepped}
use Rattle.civl_meaning.specs.declared.config.Stepped.TheVariants.{Moved, Blocked, NoThread, Ended, Failing, BadChoices}
use Rattle.civl_script.specs.declared.replays.trace.Trace.{Trace}
use Rattle.civl_verdicts.specs.reports.Lines.{line}
use Rattle.civl_verdicts.specs.reports.Values.{beside, value_line}
use Rattle.civl_frontend.specs.Report.{failing_text}

-- why it stopped, if it did
abbrev pub answer_text : Stepped → List ℕ
answer_text Moved = codes "moved"
answer_text Blocked = codes "blocked"
answer_text NoThread = codes "nothread"
answer_text Ended = codes "ended"
answer_text Failing = codes "failing"
answer_text BadChoices = codes "badchoices"

abbrev pub stopped_text : Option Stepped → List ℕ
stopped_text None = []
stopped_text (Some answer) = line (codes "stopped " ++ answer_text answer)

-- a line for each global, in the order of the text
abbrev pub store_lines : List Global → List Value → List ℕ
store_lines globals values = beside (λ g. value_line [] g.name) globals values

-- how many moves were made, why it stopped, which thread fails, and the store at the end
abbrev pub run_text : Program → Trace → List ℕ
run_text program trace =
    line (codes "moved " ++ decimal trace.moved) ++ (stopped_text trace.stopped ++ (failing_text trace.failing ++ store_lines program.globals trace.end.values))

-- the line over what is found of the trial program of so many copies
abbrev pub trial_line : ℕ → List ℕ
trial_line number = line (codes "trial " ++ decimal number)
