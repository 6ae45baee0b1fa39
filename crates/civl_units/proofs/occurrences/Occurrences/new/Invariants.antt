use Rattle.std.proofs.Common.{◌≡◌, replicate}
use Rattle.civl_units.specs.Occurrences.{nowhere}
use Rattle.civl_units.proofs.occurrences.Occurrences.new.Given as goal

abbrev pub invariant-loop-at : goal.invariant-loop-at
invariant-loop-at l = l.lists.items ≡ replicate l._at nowhere
