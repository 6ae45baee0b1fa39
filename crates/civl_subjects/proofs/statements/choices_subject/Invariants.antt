use Rattle.std.proofs.Common.{◌≡◌, drop}
use Rattle.civl_subjects.specs.Parts.{first_told}
use Rattle.civl_subjects.specs.Places.{choice_subject}
use Rattle.civl_subjects.proofs.statements.choices_subject.Given as goal

abbrev pub invariant-loop-choice : goal.invariant-loop-choice
invariant-loop-choice l =
    first_told (choice_subject l.rule l.program l.action) (drop l.choice-index l.choices)
    ≡ first_told (choice_subject l.fn.rule l.fn.program l.fn.action) l.fn.choices
