-- A call of a command, as one value.
use Rattle.std.specs.Prelude.{◌≡◌, ℕ, List, Some}
use Rattle.civl_frontend.specs.Streams.{ReadState, WriteState, ReadsAndWrites}
use Rattle.civl_frontend.specs.declared.status.Status.{Status}

-- the words after the program's name, the source and the sink before the call and after it, and its status
pub record Call : Type 0 where
  pub words : List (List ℕ)
  pub source : ReadState
  pub source_after : ReadState
  pub sink : WriteState
  pub sink_after : WriteState
  pub status : Status

-- the whole input was read, and what was written grew by this report
abbrev pub Reports : Call → List ℕ → Type 0
Reports call report = ReadsAndWrites call.source_after call.sink call.sink_after report

-- where the source tells its bytes: this is said of the input, and of the report
abbrev pub OnInput : Call → (List ℕ → (List ℕ → Type 0) → Type 0) → Type 0
OnInput call Says = (input : List ℕ) → call.source.left ≡ Some input → Says input (Reports call)
