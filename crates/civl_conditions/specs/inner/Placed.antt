-- Serves private functions alone: the cuts of a step as the code lists them, and what it lists of each.
use Rattle.std.specs.Prelude.{ℕ, List, [], ◌∷◌, map, if◌then◌else◌}
use Rattle.civl_tree.specs.declared.program.Program.{Program}
use Rattle.civl_layers.specs.declared.cut.Cut.{Cut}
use Rattle.civl_conditions.specs.declared.condition.Condition.{Condition}
use Rattle.civl_conditions.specs.declared.condition.Condition.TheVariants.{Path, Block}
use Rattle.civl_conditions.specs.declared.condition.Target.{Target}
use Rattle.civl_conditions.specs.declared.condition.Target.TheVariants as target
use Rattle.civl_conditions.specs.declared.places.Place.{Place}
use Rattle.civl_conditions.specs.paths.Ends.{is_yield_cut}
use Rattle.civl_conditions.specs.Steps.{each_cut}
use Rattle.civl_conditions.specs.Listed.{parts_of}

abbrev pub place_of : ℕ → ℕ → Cut → Place
place_of q c cut = record { proc = q; cut = c; kind = cut.kind }

abbrev pub step_places : Program → ℕ → List Place
step_places program step = each_cut (λ q c cut. place_of q c cut ∷ []) program step

-- the parts from the cut
abbrev pub parts_from : ℕ → Place → List Condition
parts_from step place = map (λ part. Path part step place.proc place.cut) (parts_of place.kind)

-- the target that the cut is, where it is one
abbrev pub yield_at : Place → List Target
yield_at place = if is_yield_cut place.kind then target.Yield place.proc place.cut ∷ [] else []

-- the blocks from the cut
abbrev pub blocks_from : ℕ → List Target → Place → List Condition
blocks_from step targets place = map (Block step place.proc place.cut) targets
