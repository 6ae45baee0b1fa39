-- Where a line begins.
use Rattle.std.specs.Prelude.{ℕ, ◌-◌, not, List, take}
use Rattle.std.specs.List.{suffix_len}
use Rattle.civl_places.specs.Lines.{is_feed}

-- how many bytes stand between the last line feed before the offset and the offset
abbrev pub behind_feed : List ℕ → ℕ → ℕ
behind_feed bytes offset = suffix_len (λ byte. not (is_feed byte)) (take offset bytes)

-- the offset at which the line of this offset begins
abbrev pub begin_of : List ℕ → ℕ → ℕ
begin_of bytes offset = offset - behind_feed bytes offset
