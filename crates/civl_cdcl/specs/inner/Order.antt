-- Serves private functions: the order of decisions. What it rests on are hints, of which nothing is claimed; what is claimed is that a variable that is chosen has no value, and that all variables have one where none is.
use Rattle.std.specs.Prelude.{◌≡◌, ◌<◌, ◌≤◌, ℕ, List, Bool, length, slice_index_or, Option, None, Some}

-- one of the variables, without a value
abbrev pub IsFree : List (Option Bool) → ℕ → Type 0
IsFree marks v = (v < length marks) × (slice_index_or marks v None ≡ None)

-- such a variable, or that each from one place to another has a value
abbrev pub ScanSays : List (Option Bool) → ℕ → ℕ → Option ℕ → Type 0
ScanSays marks from to None = (v : ℕ) → from ≤ v → v < to → slice_index_or marks v None ≡ None → ⊥
ScanSays marks from to (Some v) = IsFree marks v

-- such a variable, or that all have a value
abbrev pub OpenSays : List (Option Bool) → Option ℕ → Type 0
OpenSays marks None = (v : ℕ) → v < length marks → slice_index_or marks v None ≡ None → ⊥
OpenSays marks (Some v) = IsFree marks v
