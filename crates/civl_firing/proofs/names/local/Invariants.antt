use Rattle.std.proofs.Common.{◌≡◌, ◌+◌, drop}
use Rattle.civl_firing.specs.Truth.{place_of}
use Rattle.civl_firing.specs.Scope.{local_names}
use Rattle.civl_firing.proofs.names.local.Given as goal

abbrev pub invariant-loop-known : goal.invariant-loop-known
invariant-loop-known l = (l.at ≡ l.known-index) × (l.at + place_of (local_names (drop l.at l.locals)) l.name ≡ place_of (local_names l.locals) l.name)
