use Rattle.std.proofs.Common.{◌≡◌, drop, map}
use Rattle.std.specs.List.{list_any}
use Rattle.civl_tree.specs.rules.Names.{has_name}
use Rattle.civl_names.specs.inner.NameSets.{names_in}
use Rattle.civl_names.proofs.named.any_in.Given as goal

abbrev pub invariant-loop-item : goal.invariant-loop-item
invariant-loop-item g l = list_any (has_name (names_in l.set)) (map g.T.Named.name_of (drop l.item-index l.items)) ≡ list_any (has_name (names_in l.fn.set)) (map g.T.Named.name_of l.fn.items)
