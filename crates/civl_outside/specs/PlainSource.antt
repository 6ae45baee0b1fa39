-- A source in memory that never fails. It is seen as the bytes still to come.
use Rattle.std.specs.Prelude.{ℕ, min, List, length, if◌then◌else◌, ◌==◌}
use Rattle.civl_outside.specs.declared.source.Took.{Took}
use Rattle.civl_outside.specs.declared.source.Took.TheVariants.{Bytes, End}

-- the end where no bytes are left, and else as many as there is room for or are left
abbrev pub given : List ℕ → ℕ → Took
given left room = if length left == 0 then End else Bytes (min room (length left))
