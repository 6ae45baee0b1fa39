use Rattle.std.proofs.Common.{◌≡◌, drop}
use Rattle.civl_subjects.specs.Layers.{first_use}
use Rattle.civl_subjects.specs.Parts.{first_told}
use Rattle.civl_subjects.specs.inner.Meant.{hidden_by}
use Rattle.civl_subjects.proofs.hidden.values_use.Given as goal

abbrev pub invariant-loop-value : goal.invariant-loop-value
invariant-loop-value l =
    first_told (first_use (hidden_by l.span)) (drop l.value-index l.values) ≡ first_told (first_use (hidden_by l.fn.span)) l.fn.values
