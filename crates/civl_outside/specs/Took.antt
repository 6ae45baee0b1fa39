-- What a read does.
use Rattle.std.specs.Prelude.{◌≡◌, ℕ, ◌≤◌, List, [], take, ⊤, Option}
use Rattle.std.specs.Io.KnownBytes.{Consumes, Keeps, IsAtEnd}
use Rattle.civl_outside.specs.Count.{Rose, count_up}
use Rattle.civl_outside.specs.declared.source.Took.{Took}
use Rattle.civl_outside.specs.declared.source.Took.TheVariants.{Bytes, End, Failed}

-- no more bytes than there is room for
abbrev pub TakesAtMost : Took → ℕ → Type 0
TakesAtMost (Bytes n) room = n ≤ room
TakesAtMost End room = ⊤
TakesAtMost Failed room = ⊤

-- the known bytes begin with the n that were read, and lose them, and n is 0 only at their end;
-- at the end none is left; a failed read leaves them as they were
abbrev pub TakesFrom : Option (List ℕ) → Option (List ℕ) → Took → List ℕ → Type 0
TakesFrom before after (Bytes n) into = Consumes before after (take n into) × (n ≡ 0 → IsAtEnd after)
TakesFrom before after End into = Consumes before after [] × IsAtEnd after
TakesFrom before after Failed into = Keeps before after

-- a failed read has raised the count of faults
abbrev pub ReadRaises : Took → ℕ → ℕ → Type 0
ReadRaises (Bytes n) before now = ⊤
ReadRaises End before now = ⊤
ReadRaises Failed before now = Rose before now

-- the count of faults after a read, where each failed read is counted and nothing else
abbrev pub faults_after_read : ℕ → Took → ℕ
faults_after_read before (Bytes n) = before
faults_after_read before End = before
faults_after_read before Failed = count_up before
