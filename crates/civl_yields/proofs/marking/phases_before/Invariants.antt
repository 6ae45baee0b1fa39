use Rattle.std.proofs.Common.{◌≡◌, map, take, false}
use Rattle.civl_yields.specs.inner.Marks.{seen}
use Rattle.civl_yields.proofs.marking.phases_before.Given as goal

abbrev pub invariant-loop-mark : goal.invariant-loop-mark
invariant-loop-mark l = l.phases.items ≡ map (seen false) (take l.mark-index l.mark-items)
