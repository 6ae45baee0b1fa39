-- What code tells, in the words of the definitions.
use Rattle.std.specs.Prelude.{Bool, if◌then◌else◌, List, [], ◌∷◌, ◌++◌}
use Rattle.std.specs.List.{list_any}
use Rattle.civl_reasons.specs.declared.reasons.Part.{Part}
use Rattle.civl_reasons.specs.declared.reads.Reading.{Reading}
use Rattle.civl_reasons.specs.Reasons.{Subformula}
use Rattle.civl_reasons.specs.Reads.{ReadName, same_read}

-- a part that code tells
abbrev pub subformula : Part → Subformula
subformula part = record { token = part.token; expr = part.expr.now }

-- a reading that code tells
abbrev pub read_name : Reading → ReadName
read_name read = record { name = read.name.now; is_old = read.is_old }

-- whether a reading is among these
abbrev pub is_among : List ReadName → ReadName → Bool
is_among found r = list_any (λ s. same_read s r) found

-- a reading added to others, unless it is among them
abbrev pub with_read : List ReadName → ReadName → List ReadName
with_read found r = if is_among found r then found else found ++ r ∷ []

-- some readings added, in order
abbrev pub with_reads : List ReadName → List ReadName → List ReadName
with_reads found [] = found
with_reads found (r ∷ rs) = with_reads (with_read found r) rs
