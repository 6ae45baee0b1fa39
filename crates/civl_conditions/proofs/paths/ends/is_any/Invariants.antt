use Rattle.std.proofs.Common.{◌≡◌, drop, nat_eq}
use Rattle.std.specs.List.{list_any}
use Rattle.civl_conditions.proofs.paths.ends.is_any.Given as goal

abbrev pub invariant-loop-number : goal.invariant-loop-number
invariant-loop-number l = list_any (λ number. nat_eq l.end number) (drop l.number-index l.number-items) ≡ list_any (λ number. nat_eq l.end number) l.fn.numbers
