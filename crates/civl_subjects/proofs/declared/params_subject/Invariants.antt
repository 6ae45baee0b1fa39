use Rattle.std.proofs.Common.{◌≡◌, drop}
use Rattle.civl_subjects.specs.Parts.{first_told}
use Rattle.civl_subjects.specs.Places.{param_subject}
use Rattle.civl_subjects.proofs.declared.params_subject.Given as goal

abbrev pub invariant-loop-param : goal.invariant-loop-param
invariant-loop-param l =
    first_told (param_subject l.rule l.program) (drop l.param-index l.params)
    ≡ first_told (param_subject l.fn.rule l.fn.program) l.fn.params
