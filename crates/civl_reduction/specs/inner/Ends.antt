-- Serves private functions: the end of a run, where each move is made.
use Rattle.std.specs.Prelude.{ℕ, List, Option, None, Some}
use Rattle.civl_meaning.specs.declared.config.Move.{Move}
use Rattle.civl_meaning.specs.declared.config.Plain.{Plain}
use Rattle.civl_meaning.specs.declared.config.Config.{Config}
use Rattle.civl_meaning.specs.declared.config.Stepped.{Stepped}
use Rattle.civl_meaning.specs.Run.{run_of}

abbrev pub end_by : ℕ × Option Stepped × Config → Option Config
end_by (made, None, end) = Some end
end_by (made, Some answer, end) = None

abbrev pub end_of : Plain → List Move → Config → Option Config
end_of plain moves from = end_by (run_of plain moves 0 from)
