use Rattle.std.proofs.Common.{◌≡◌, drop}
use Rattle.civl_subjects.specs.Parts.{first_told}
use Rattle.civl_subjects.specs.Places.{local_subject}
use Rattle.civl_subjects.proofs.declared.locals_subject.Given as goal

abbrev pub invariant-loop-local : goal.invariant-loop-local
invariant-loop-local l =
    first_told (local_subject l.rule l.program) (drop l.local-index l.locals)
    ≡ first_told (local_subject l.fn.rule l.fn.program) l.fn.locals
