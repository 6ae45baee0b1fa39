use Rattle.std.proofs.Common.{◌≡◌, ◌+◌, ◌≤◌, min, sum, map, drop}
use Rattle.civl_tree.specs.rules.StoreSize.{bits_of}
use Rattle.civl_types.proofs.count.bits_of_all.Given as goal

abbrev pub invariant-loop-global : goal.invariant-loop-global
invariant-loop-global l =
    (min (l.total + sum (map (λ global. bits_of global.sort) (drop l.global-index l.globals))) 4097 ≡ min (sum (map (λ global. bits_of global.sort) l.fn.globals)) 4097)
    × (l.total ≤ 4097)
