use Rattle.std.proofs.Common.{◌≡◌, drop, map}
use Rattle.civl_tree.specs.rules.Names.{has_name}
use Rattle.civl_subjects.proofs.naming.is_one.Given as goal

abbrev pub invariant-loop-other : goal.invariant-loop-other
invariant-loop-other l =
    has_name (map (λ name. name.now) (drop l.other-index l.names)) l.name ≡ has_name (map (λ name. name.now) l.fn.names) l.fn.name
