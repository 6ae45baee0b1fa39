use Rattle.std.proofs.Common.{◌≡◌, ◌+◌, drop}
use Rattle.civl_firing.specs.Truth.{place_of}
use Rattle.civl_tree.specs.rules.Names.{param_names}
use Rattle.civl_firing.proofs.names.param.Given as goal

abbrev pub invariant-loop-known : goal.invariant-loop-known
invariant-loop-known l = (l.at ≡ l.known-index) × (l.at + place_of (param_names (drop l.at l.params)) l.name ≡ place_of (param_names l.params) l.name)
