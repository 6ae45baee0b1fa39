use Rattle.std.proofs.Common.{◌≡◌, ◌+◌, drop}
use Rattle.civl_firing.specs.Truth.{place_of}
use Rattle.civl_firing.specs.Scope.{choice_names}
use Rattle.civl_firing.proofs.names.choice.Given as goal

abbrev pub invariant-loop-known : goal.invariant-loop-known
invariant-loop-known l = (l.at ≡ l.known-index) × (l.at + place_of (choice_names (drop l.at l.choices)) l.name ≡ place_of (choice_names l.choices) l.name)
