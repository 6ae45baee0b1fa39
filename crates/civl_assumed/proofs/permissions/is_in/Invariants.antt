use Rattle.std.proofs.Common.{◌≡◌, drop, nat_eq}
use Rattle.std.specs.List.{list_any}
use Rattle.civl_assumed.proofs.permissions.is_in.Given as goal

abbrev pub invariant-loop-at : goal.invariant-loop-at
invariant-loop-at l = list_any (nat_eq l.permission) (drop l.at l.list) ≡ list_any (nat_eq l.permission) l.list
