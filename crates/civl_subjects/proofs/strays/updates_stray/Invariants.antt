use Rattle.std.proofs.Common.{◌≡◌, drop}
use Rattle.civl_yields.specs.Places.{no_leave}
use Rattle.civl_subjects.specs.Parts.{first_told}
use Rattle.civl_subjects.specs.Strays.{first_stray}
use Rattle.civl_subjects.proofs.strays.updates_stray.Given as goal

abbrev pub invariant-loop-update : goal.invariant-loop-update
invariant-loop-update l =
    first_told (λ update. first_stray no_leave update.expr) (drop l.update-index l.updates)
    ≡ first_told (λ update. first_stray no_leave update.expr) l.fn.updates
