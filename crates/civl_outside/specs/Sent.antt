-- What writing all of some bytes does.
use Rattle.std.specs.Prelude.{ℕ, ◌<◌, List, take, length, Option}
use Rattle.std.specs.Io.KnownBytes.{Appends}
use Rattle.civl_outside.specs.declared.sending.Sent.{Sent}
use Rattle.civl_outside.specs.declared.sending.Sent.TheVariants.{All, Failed, Stuck}

-- the known bytes grow by some first part of these, and at least the last isn't in it
abbrev pub AppendsPart : Option (List ℕ) → Option (List ℕ) → List ℕ → Type 0
AppendsPart before after bytes = (n : ℕ) × (n < length bytes) × Appends before after (take n bytes)

-- all the bytes, or a first part of them
abbrev pub SendsTo : Option (List ℕ) → Option (List ℕ) → Sent → List ℕ → Type 0
SendsTo before after All bytes = Appends before after bytes
SendsTo before after Failed bytes = AppendsPart before after bytes
SendsTo before after Stuck bytes = AppendsPart before after bytes
