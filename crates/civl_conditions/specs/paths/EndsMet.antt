-- The ends of the paths from a cut, by their numbers, as they are found from what the paths meet and the procedure's cuts.
use Rattle.std.specs.Prelude.{ℕ, ◌+◌, ◌≡◌, Bool, not, ◌&&◌, ◌||◌, nat_eq, nat_lt, if◌then◌else◌, List, [], ◌∷◌, length}
use Rattle.std.specs.List.{list_any}
use Rattle.civl_tree.specs.declared.program.Proc.{Proc}
use Rattle.civl_layers.specs.declared.cut.Cut.{Cut}
use Rattle.civl_layers.specs.Cuts.{proc_cuts}
use Rattle.civl_conditions.specs.declared.paths.met.Met.{Met}
use Rattle.civl_conditions.specs.paths.Ends.{is_entry, ends_among, ends_from}
use Rattle.civl_conditions.specs.paths.Flows.{flow_from}
use Rattle.civl_conditions.specs.paths.Meets.{numbers_met}

-- a cut whose statement comes before the one with this number
abbrev pub is_before : ℕ → Cut → Bool
is_before number cut = not (is_entry cut.kind) && nat_lt cut.statement number

-- how many of these cuts do
abbrev pub cuts_before : ℕ → List Cut → ℕ
cuts_before number [] = 0
cuts_before number (cut ∷ cuts) = (if is_before number cut then 1 else 0) + cuts_before number cuts

-- the number of the cut that is the statement with this number: behind the entry and the cuts before it
abbrev pub number_among : List Cut → ℕ → ℕ
number_among cuts number = 1 + cuts_before number cuts

-- whether this is the exit, to which some path goes on, or one of these numbers
abbrev pub is_reached : Bool → ℕ → List ℕ → ℕ → Bool
is_reached onward exit numbers end = (onward && nat_eq end exit) || list_any (λ number. nat_eq end number) numbers

abbrev pub ends_by : Bool → List Cut → List ℕ → List ℕ
ends_by onward cuts numbers = ends_among (is_reached onward (length cuts) numbers) 0 cuts

-- these are the ends of the paths from a cut, where these are the cuts of its procedure, and the paths meet this
abbrev pub AreEnds : List Cut → Met → List ℕ → Type 0
AreEnds cuts met ends = (proc : Proc) (cut : Cut) → cuts ≡ proc_cuts proc → met ≡ numbers_met (flow_from proc cut) → ends ≡ ends_from proc cut
