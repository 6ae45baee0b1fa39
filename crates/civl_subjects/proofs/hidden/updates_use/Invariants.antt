use Rattle.std.proofs.Common.{◌≡◌, drop}
use Rattle.civl_subjects.specs.Layers.{update_use}
use Rattle.civl_subjects.specs.Parts.{first_told}
use Rattle.civl_subjects.specs.inner.Meant.{hidden_by}
use Rattle.civl_subjects.proofs.hidden.updates_use.Given as goal

abbrev pub invariant-loop-update : goal.invariant-loop-update
invariant-loop-update l =
    first_told (update_use (hidden_by l.span)) (drop l.update-index l.updates) ≡ first_told (update_use (hidden_by l.fn.span)) l.fn.updates
