use Rattle.std.proofs.Common.{◌≡◌, [], drop}
use Rattle.civl_goals.specs.Spots.{spots_in, with_notes}
use Rattle.civl_goals.proofs.spots.spots_of.Given as goal

abbrev pub invariant-loop-note : goal.invariant-loop-note
invariant-loop-note l = with_notes (spots_in l.spots) (drop l.note-index l.notes) ≡ with_notes [] l.fn.notes
