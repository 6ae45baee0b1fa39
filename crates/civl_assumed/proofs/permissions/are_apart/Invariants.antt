use Rattle.std.proofs.Common.{◌≡◌, drop}
use Rattle.civl_meaning.specs.Permissions.{pairwise_disjoint}
use Rattle.civl_assumed.proofs.permissions.are_apart.Given as goal

abbrev pub invariant-loop-at : goal.invariant-loop-at
invariant-loop-at l = pairwise_disjoint (drop l.at l.lists) ≡ pairwise_disjoint l.lists
