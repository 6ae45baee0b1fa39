use Rattle.std.proofs.Common.{◌≡◌, drop}
use Rattle.std.specs.List.{list_all}
use Rattle.civl_meaning.specs.Permissions.{disjoint}
use Rattle.civl_assumed.proofs.permissions.is_apart.Given as goal

abbrev pub invariant-loop-at : goal.invariant-loop-at
invariant-loop-at l = list_all (disjoint l.list) (drop l.at l.lists) ≡ list_all (disjoint l.list) (drop l.from l.lists)
