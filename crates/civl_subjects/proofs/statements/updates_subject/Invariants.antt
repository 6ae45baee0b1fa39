use Rattle.std.proofs.Common.{◌≡◌, drop}
use Rattle.civl_subjects.specs.Parts.{first_told}
use Rattle.civl_subjects.specs.Places.{update_subject}
use Rattle.civl_subjects.proofs.statements.updates_subject.Given as goal

abbrev pub invariant-loop-update : goal.invariant-loop-update
invariant-loop-update l =
    first_told (update_subject l.rule l.program l.action) (drop l.update-index l.updates)
    ≡ first_told (update_subject l.fn.rule l.fn.program l.fn.action) l.fn.updates
