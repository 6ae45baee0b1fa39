use Rattle.std.proofs.Common.{◌≡◌, map, take}
use Rattle.civl_tree.specs.rules.Names.{global_names}
use Rattle.civl_subjects.proofs.naming.global_names.Given as goal

abbrev pub invariant-loop-global : goal.invariant-loop-global
invariant-loop-global l = map (λ name. name.now) l.names.items ≡ global_names (take l.global-index l.global-items)
