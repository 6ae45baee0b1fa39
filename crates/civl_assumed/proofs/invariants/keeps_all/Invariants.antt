use Rattle.std.proofs.Common.{◌≡◌, drop}
use Rattle.std.specs.List.{list_all}
use Rattle.civl_assumed.specs.inner.Kept.{keeps_invariant}
use Rattle.civl_assumed.proofs.invariants.keeps_all.Given as goal

abbrev pub invariant-loop-invariant : goal.invariant-loop-invariant
invariant-loop-invariant l =
    list_all (keeps_invariant l.program l.step l.store) (drop l.invariant-index l.invariants) ≡ list_all (keeps_invariant l.program l.step l.store) l.invariants
