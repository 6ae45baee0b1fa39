use Rattle.std.proofs.Common.{◌≡◌, drop}
use Rattle.civl_subjects.specs.Layers.{first_differing}
use Rattle.civl_subjects.proofs.layers.first_differing.Given as goal

abbrev pub invariant-loop-at : goal.invariant-loop-at
invariant-loop-at l = first_differing (drop l.at l.params) (drop l.at l.others) ≡ first_differing l.fn.params l.fn.others
