use Rattle.std.specs.Prelude.{◌≡◌, ◌++◌, drop}
use Rattle.civl_verdicts.specs.inner.models.Zeros.{zeros_of}
use Rattle.civl_verdicts.proofs.models.reading.zeros.Given as goal

abbrev pub invariant-loop-sort : goal.invariant-loop-sort
invariant-loop-sort l = l.values.items ++ zeros_of (drop l.sort-index l.sorts) ≡ zeros_of l.sorts
