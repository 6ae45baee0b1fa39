use Rattle.std.proofs.Common.{◌≡◌, drop, map}
use Rattle.civl_tree.specs.rules.Names.{has_name}
use Rattle.civl_subjects.proofs.statements.is_local.Given as goal

abbrev pub invariant-loop-local : goal.invariant-loop-local
invariant-loop-local l =
    has_name (map (λ declared. declared.name) (drop l.local-index l.locals)) l.name
    ≡ has_name (map (λ declared. declared.name) l.fn.locals) l.fn.name
