use Rattle.std.proofs.Common.{◌≡◌, ◌+◌, ◌≤◌, length, drop}
use Rattle.std.specs.Prelude.{filter}
use Rattle.civl_states.specs.Existing.{passes}
use Rattle.civl_states.proofs.stores.existing_count.Given as goal

abbrev pub invariant-loop-global : goal.invariant-loop-global
invariant-loop-global l =
    (l.count + length (filter (passes l.which) (drop l.global-index l.global-items)) ≡ length (filter (passes l.which) l.program.globals)) × (l.count ≤ l.global-index)
