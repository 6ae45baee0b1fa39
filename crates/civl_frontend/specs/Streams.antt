-- What is said of the two streams: the source of bytes and the sink for bytes, before and after a call.
use Rattle.std.specs.Prelude.{◌≡◌, ℕ, ◌+◌, ◌⊎◌, List, [], ◌++◌, length, Option, Some}
use Rattle.std.specs.Io.KnownBytes.{Appends, Consumes, IsAtEnd}
use Rattle.civl_outside.specs.Count.{Rose}
use Rattle.civl_outside.specs.Sent.{AppendsPart}
use Rattle.civl_frontend.specs.declared.status.Status.{Status}
use Rattle.civl_frontend.specs.declared.status.Status.TheVariants.{Done, WriteFault}

-- a source before or after a call: the bytes still to come, where it tells them, and how often it failed
pub record ReadState : Type 0 where
  pub left : Option (List ℕ)
  pub faults : ℕ

-- a sink before or after a call: the bytes taken, where it tells them, how often it failed and how often it stalled
pub record WriteState : Type 0 where
  pub bytes : Option (List ℕ)
  pub faults : ℕ
  pub stalls : ℕ

abbrev pub reading : Option (List ℕ) → ℕ → ReadState
reading left faults = record { left = left; faults = faults }

abbrev pub writing : Option (List ℕ) → ℕ → ℕ → WriteState
writing bytes faults stalls = record { bytes = bytes; faults = faults; stalls = stalls }

-- the whole input was read, it is these bytes, and nothing is left
pub record ReadsText (before after : ReadState) (bytes : List ℕ) : Type 0 where
  pub taken : Consumes before.left after.left bytes
  pub at_end : IsAtEnd after.left

-- so many bytes were read, and one more
abbrev pub ReadsPast : ℕ → ReadState → ReadState → Type 0
ReadsPast most before after = (bytes : List ℕ) × Consumes before.left after.left bytes × (length bytes ≡ most + 1)

-- the sink took a first part of the report alone, since it failed or stalled
pub record CutShort (before after : WriteState) (report : List ℕ) : Type 0 where
  pub part : AppendsPart before.bytes after.bytes report
  pub cause : Rose before.faults after.faults ⊎ Rose before.stalls after.stalls

-- The report of the status was written whole; or the status is WriteFault, and the report of another was cut short. What is judged says
-- which report belongs to a status.
abbrev pub IsReported : (Status → List ℕ → Type 0) → WriteState → WriteState → Status → Type 0
IsReported Judges sink sink_after status =
    ((report : List ℕ) × Judges status report × Appends sink.bytes sink_after.bytes report)
    ⊎ ((status ≡ WriteFault) × (judged : Status) × (report : List ℕ) × Judges judged report × CutShort sink sink_after report)

-- ---- where the streams tell their bytes

-- what was written grew by the report
abbrev pub Writes : WriteState → WriteState → List ℕ → Type 0
Writes sink sink_after report = (taken : List ℕ) → sink.bytes ≡ Some taken → sink_after.bytes ≡ Some (taken ++ report)

-- the whole input was read, and what was written grew by the report
pub record ReadsAndWrites (after : ReadState) (sink sink_after : WriteState) (report : List ℕ) : Type 0 where
  pub read : after.left ≡ Some []
  pub written : Writes sink sink_after report

-- Where what was written grew by such a text, the status is Done, or such a report couldn't be written whole. A text says what follows
-- in it.
abbrev pub IsAlone : (List ℕ → List ℕ) → WriteState → WriteState → Status → Type 0
IsAlone text sink sink_after status =
    (taken rest : List ℕ) → sink.bytes ≡ Some taken → sink_after.bytes ≡ Some (taken ++ text rest)
    → (status ≡ Done) ⊎ (status ≡ WriteFault)
