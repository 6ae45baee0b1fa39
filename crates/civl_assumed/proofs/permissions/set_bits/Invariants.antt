use Rattle.std.proofs.Common.{◌≡◌}
use Rattle.civl_meaning.specs.Permissions.{set_bits}
use Rattle.civl_assumed.proofs.permissions.set_bits.Given as goal

abbrev pub invariant-loop-at : goal.invariant-loop-at
invariant-loop-at l = l.bits.items ≡ set_bits l.at l.number
