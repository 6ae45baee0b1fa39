use Rattle.std.proofs.Common.{◌≡◌, drop}
use Rattle.civl_meaning.specs.Permissions.{disjoint}
use Rattle.civl_assumed.proofs.permissions.are_disjoint.Given as goal

abbrev pub invariant-loop-at : goal.invariant-loop-at
invariant-loop-at l = disjoint (drop l.at l.first) l.second ≡ disjoint l.first l.second
