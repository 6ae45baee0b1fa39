use Rattle.std.proofs.Common.{◌≡◌, ◌+◌, [], drop, take}
use Rattle.civl_tree.specs.rules.Rules.{first_of}
use Rattle.civl_goals.specs.declared.spots.Spot.{Spot}
use Rattle.civl_goals.specs.Rules.{misplaced}
use Rattle.civl_goals.specs.Spots.{spots_in, has_spot}
use Rattle.civl_goals.proofs.Noting.{any_there}
use Rattle.civl_goals.proofs.rules.first_note.Given as goal

abbrev pub invariant-loop-place : goal.invariant-loop-place
invariant-loop-place l =
    ((spot : Spot) → has_spot (spots_in l.spots) spot ≡ any_there (take l.place l.notes) spot)
    × (first_of (misplaced l.program (take l.place l.notes) (l.before + l.place) (drop l.place l.notes)) ≡ first_of (misplaced l.fn.program [] l.fn.before l.fn.notes))
