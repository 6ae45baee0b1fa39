use Rattle.std.proofs.Common.{◌≡◌, ◌+◌, drop}
use Rattle.civl_firing.specs.Truth.{place_of}
use Rattle.civl_firing.proofs.truth.place.Given as goal

abbrev pub invariant-loop-at : goal.invariant-loop-at
invariant-loop-at l = l.at + place_of (drop l.at l.names) l.name ≡ place_of l.names l.name
