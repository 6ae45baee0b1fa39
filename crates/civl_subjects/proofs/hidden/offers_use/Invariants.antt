use Rattle.std.proofs.Common.{◌≡◌, drop}
use Rattle.civl_subjects.specs.Layers.{first_use}
use Rattle.civl_subjects.specs.Parts.{first_told}
use Rattle.civl_subjects.specs.inner.Meant.{hidden_by}
use Rattle.civl_subjects.proofs.hidden.offers_use.Given as goal

abbrev pub invariant-loop-choice : goal.invariant-loop-choice
invariant-loop-choice l =
    first_told (λ choice. first_use (hidden_by l.span) choice.offer) (drop l.choice-index l.choices)
    ≡ first_told (λ choice. first_use (hidden_by l.fn.span) choice.offer) l.fn.choices
