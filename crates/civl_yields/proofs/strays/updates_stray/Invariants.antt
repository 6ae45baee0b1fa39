use Rattle.std.proofs.Common.{◌≡◌, drop}
use Rattle.std.specs.List.{list_any}
use Rattle.civl_yields.specs.Places.{stray, no_leave}
use Rattle.civl_yields.proofs.strays.updates_stray.Given as goal

abbrev pub invariant-loop-update : goal.invariant-loop-update
invariant-loop-update l = list_any (λ update. stray no_leave update.expr) (drop l.update-index l.updates) ≡ list_any (λ update. stray no_leave update.expr) l.fn.updates
