use Rattle.std.proofs.Common.{◌≡◌, ◌+◌, drop}
use Rattle.civl_firing.specs.Truth.{place_of}
use Rattle.civl_tree.specs.rules.Names.{global_names}
use Rattle.civl_firing.proofs.names.global.Given as goal

abbrev pub invariant-loop-known : goal.invariant-loop-known
invariant-loop-known l = (l.at ≡ l.known-index) × (l.at + place_of (global_names (drop l.at l.globals)) l.name ≡ place_of (global_names l.globals) l.name)
