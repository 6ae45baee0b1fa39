-- What reading to the end gives.
use Rattle.std.specs.Prelude.{◌≡◌, ℕ, ◌≤◌, ◌+◌, List, length, Option}
use Rattle.std.specs.Io.KnownBytes.{Consumes, IsAtEnd}
use Rattle.civl_outside.specs.declared.reading.Whole.{Whole}
use Rattle.civl_outside.specs.declared.reading.Whole.TheVariants.{Bytes, Long, Failed, Memory}

-- the known bytes lose a first part, and it has no more than so many
abbrev pub ConsumesSome : Option (List ℕ) → Option (List ℕ) → ℕ → Type 0
ConsumesSome before after most = (bytes : List ℕ) × Consumes before after bytes × (length bytes ≤ most)

-- the known bytes are all read, and are no more than the limit; or they lose one more than the limit;
-- or, where a read failed or memory was refused, some first part of them
abbrev pub WholeFrom : Option (List ℕ) → Option (List ℕ) → ℕ → Whole → Type 0
WholeFrom before after limit (Bytes bytes) = Consumes before after bytes.items × IsAtEnd after × (length bytes.items ≤ limit)
WholeFrom before after limit Long = (bytes : List ℕ) × Consumes before after bytes × (length bytes ≡ limit + 1)
WholeFrom before after limit Failed = ConsumesSome before after limit
WholeFrom before after limit Memory = ConsumesSome before after (limit + 1)
