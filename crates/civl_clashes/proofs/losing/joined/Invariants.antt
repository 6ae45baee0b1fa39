use Rattle.std.proofs.Common.{◌≡◌, ◌++◌, drop, flat_map}
use Rattle.civl_clashes.proofs.losing.joined.Given as goal

abbrev pub invariant-loop-list : goal.invariant-loop-list
invariant-loop-list l = l.all.items ++ flat_map (λ ps. ps) (drop l.list-index l.lists) ≡ flat_map (λ ps. ps) l.lists
