use Rattle.std.proofs.Common.{◌≡◌, map, drop}
use Rattle.civl_subjects.specs.Twice.{first_again}
use Rattle.civl_subjects.proofs.naming.first_again.Given as goal

abbrev pub invariant-loop-name : goal.invariant-loop-name
invariant-loop-name l =
    first_again (map (λ name. name.now) l.earlier.items) (map (λ name. name.now) (drop l.name-index l.names))
    ≡ first_again (map (λ name. name.now) l.fn.earlier.items) (map (λ name. name.now) l.fn.names)
