use Rattle.std.specs.Prelude.{◌≡◌, ◌++◌, drop}
use Rattle.civl_verdicts.specs.decisions.Numbered.{values_numbered}
use Rattle.civl_verdicts.proofs.decisions.numbering.values_numbered.Given as goal

abbrev pub invariant-loop-sort : goal.invariant-loop-sort
invariant-loop-sort l = l.values.items ++ values_numbered (drop l.sort-index l.sorts) l.rest ≡ values_numbered l.sorts l.number
