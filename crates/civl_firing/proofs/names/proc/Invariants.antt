use Rattle.std.proofs.Common.{◌≡◌, ◌+◌, drop, map}
use Rattle.civl_firing.specs.Truth.{place_of}
use Rattle.civl_firing.proofs.names.proc.Given as goal

abbrev pub invariant-loop-known : goal.invariant-loop-known
invariant-loop-known l = (l.at ≡ l.known-index) × (l.at + place_of (map (λ x. x.name) (drop l.at l.procs)) l.name ≡ place_of (map (λ x. x.name) l.procs) l.name)
