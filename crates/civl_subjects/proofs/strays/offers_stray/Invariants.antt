use Rattle.std.proofs.Common.{◌≡◌, drop}
use Rattle.civl_yields.specs.Places.{no_leave}
use Rattle.civl_subjects.specs.Parts.{first_told}
use Rattle.civl_subjects.specs.Strays.{first_stray}
use Rattle.civl_subjects.proofs.strays.offers_stray.Given as goal

abbrev pub invariant-loop-choice : goal.invariant-loop-choice
invariant-loop-choice l =
    first_told (λ choice. first_stray no_leave choice.offer) (drop l.choice-index l.choices)
    ≡ first_told (λ choice. first_stray no_leave choice.offer) l.fn.choices
