-- Serves private functions: the weights of notes, by their places.
use Rattle.std.specs.Prelude.{ℕ, ◌≡◌, ◌-◌, nat_lt, if◌then◌else◌, List, ◌∷◌, Option, None, Some, slice_get, ⊤}
use Rattle.std.specs.Option.{option_map, unwrap_or}
use Rattle.std.specs.List.{find}
use Rattle.indexmap.specs.IndexMap.{get_by}
use Rattle.civl_tree.specs.declared.program.Proc.{Proc}
use Rattle.civl_tree.specs.declared.program.Program.{Program}
use Rattle.civl_tree.specs.Numbering.{proc_item}
use Rattle.civl_outlines.specs.declared.outline.Note.{Note}
use Rattle.civl_conditions.specs.Weights.{note_weight}
use Rattle.civl_goals.specs.Outlines.{stands_before}
use Rattle.civl_weighing.specs.declared.weight.Weight.{Weight}
use Rattle.civl_weighing.specs.Weighing.{Weighs}
use Rattle.civl_goals.specs.declared.spots.Spot.{Spot}
use Rattle.civl_goals.specs.Spots.{same_spot, spot_of}
use Rattle.civl_outlined.specs.declared.notes.Notes.{Notes}

-- the procedure that is this item
abbrev pub item_proc : Program → ℕ → Option Proc
item_proc program item = if nat_lt item (proc_item program 0) then None else slice_get program.procs (item - proc_item program 0)

-- ---- the table

-- what is put to a place
abbrev pub weight_in : Notes → Spot → Option Weight
weight_in notes spot = get_by (same_spot spot) notes.weights

-- this came to one place, and all others stay
abbrev pub IsPut : Spot → Weight → Notes → Notes → Type 0
IsPut spot weight old new = (other : Spot) → weight_in new other ≡ (if same_spot spot other then Some weight else weight_in old other)

-- there is a weight exactly where there is a number, and it is its
abbrev pub IsMaybe : Option ℕ → Option Weight → Type 0
IsMaybe None None = ⊤
IsMaybe None (Some w) = ⊥
IsMaybe (Some n) None = ⊥
IsMaybe (Some n) (Some w) = Weighs w n

-- it is what is put to the place, or 1
pub record IsBefore (notes : Notes) (spot : Spot) (w : Weight) : Type 0 where
  pub is : (n : Option ℕ) → IsMaybe n (weight_in notes spot) → Weighs w (unwrap_or n 1)

-- ---- notes

-- the weight of the first of these notes that stands before this statement of a procedure
abbrev pub first_weight : Program → ℕ → ℕ → Proc → List Note → Option ℕ
first_weight program r s proc notes = option_map (λ note. note_weight program proc note.expr) (find (stands_before program r s) notes)

-- these are the weights of notes
pub record AreNotes (program : Program) (written : List Note) (notes : Notes) : Type 0 where
  pub are : (r s : ℕ) (proc : Proc) → slice_get program.procs r ≡ Some proc → IsMaybe (first_weight program r s proc written) (weight_in notes (record { item = proc_item program r; statement = s }))

-- the weight of a note in this procedure came to its place
pub record IsNoted (program : Program) (proc : Proc) (note : Note) (old new : Notes) : Type 0 where
  pub weight : Weight
  pub weighs : Weighs weight (note_weight program proc note.expr)
  pub put : IsPut (spot_of note) weight old new

-- a note came in front of others
pub record IsAdded (program : Program) (note : Note) (old new : Notes) : Type 0 where
  pub more : (written : List Note) → AreNotes program written old → AreNotes program (note ∷ written) new
