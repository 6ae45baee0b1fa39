-- Lines and columns of a text, both from 1, columns in bytes. A line ends with its line feed.
use Rattle.std.specs.Prelude.{ℕ, ◌+◌, Bool, nat_eq, List, ◌++◌, length, take, drop, count_by}
use Rattle.std.specs.List.{before_first, after_last}

-- a line feed
abbrev pub is_feed : ℕ → Bool
is_feed byte = nat_eq byte 10

-- the line of an offset: 1, and one more for each line feed before it
abbrev pub line_of : List ℕ → ℕ → ℕ
line_of bytes offset = 1 + count_by is_feed (take offset bytes)

-- its column: 1, and one more for each byte between the last line feed before it and the offset
abbrev pub column_of : List ℕ → ℕ → ℕ
column_of bytes offset = 1 + length (after_last is_feed (take offset bytes))

-- its line: what stands behind the last line feed before it, up to the next line feed or the end
abbrev pub line_at : List ℕ → ℕ → List ℕ
line_at bytes offset = after_last is_feed (take offset bytes) ++ before_first is_feed (drop offset bytes)
