use Rattle.std.proofs.Common.{◌≡◌, drop, map}
use Rattle.civl_names.specs.inner.NameSets.{names_in, with_names}
use Rattle.civl_names.proofs.named.add_all.Given as goal

abbrev pub invariant-loop-item : goal.invariant-loop-item
invariant-loop-item g l =
    with_names (names_in l.set) (map g.T.Named.name_of (drop l.item-index l.items))
    ≡ with_names (names_in l.fn.set) (map g.T.Named.name_of l.fn.items)
