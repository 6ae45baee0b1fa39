use Rattle.std.proofs.Common.{◌≡◌, ◌++◌, take, map, false}
use Rattle.civl_tree.specs.rules.Names.{any_twice}
use Rattle.civl_names.specs.inner.NameSets.{names_in}
use Rattle.civl_names.proofs.named.add_new.Given as goal

abbrev pub invariant-loop-item : goal.invariant-loop-item
invariant-loop-item g l =
    (names_in l.set ≡ names_in l.fn.set ++ map g.T.Named.name_of (take l.item-index l.items))
    × (any_twice (names_in l.set) ≡ false)
