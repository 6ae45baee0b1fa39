-- What a write does.
use Rattle.std.specs.Prelude.{◌≡◌, ℕ, ◌≤◌, ◌<◌, List, take, ⊤, Option, if◌then◌else◌, nat_lt, ◌==◌, ◌&&◌}
use Rattle.std.specs.Io.KnownBytes.{Appends, Keeps}
use Rattle.civl_outside.specs.Count.{Rose, count_up}
use Rattle.civl_outside.specs.declared.sink.Wrote.{Wrote}
use Rattle.civl_outside.specs.declared.sink.Wrote.TheVariants.{Bytes, Failed}

-- no more bytes than were given
abbrev pub WritesAtMost : Wrote → ℕ → Type 0
WritesAtMost (Bytes n) size = n ≤ size
WritesAtMost Failed size = ⊤

-- the known bytes grow by the first n of the piece; a failed write leaves them as they were
abbrev pub GivesTo : Option (List ℕ) → Option (List ℕ) → Wrote → List ℕ → Type 0
GivesTo before after (Bytes n) bytes = Appends before after (take n bytes)
GivesTo before after Failed bytes = Keeps before after

-- a failed write has raised the count of faults
abbrev pub WriteRaises : Wrote → ℕ → ℕ → Type 0
WriteRaises (Bytes n) before now = ⊤
WriteRaises Failed before now = Rose before now

-- a write that took nothing of a piece that isn't empty has raised the count of stalls
abbrev pub WriteStalls : Wrote → ℕ → ℕ → ℕ → Type 0
WriteStalls (Bytes n) size before now = n ≡ 0 → 0 < size → Rose before now
WriteStalls Failed size before now = ⊤

-- the count of faults after a write, where each failed write is counted and nothing else
abbrev pub faults_after_write : ℕ → Wrote → ℕ
faults_after_write before (Bytes n) = before
faults_after_write before Failed = count_up before

-- the count of stalls after a write of a piece of this size, where each write that took nothing
-- of a piece that isn't empty is counted and nothing else
abbrev pub stalls_after_write : ℕ → Wrote → ℕ → ℕ
stalls_after_write before (Bytes n) size = if (n == 0) && nat_lt 0 size then count_up before else before
stalls_after_write before Failed size = before
