use Rattle.std.proofs.Common.{Bool, ◌≡◌, ◌++◌, map, take}
use Rattle.civl_yields.specs.inner.Marks.{seen}
use Rattle.civl_yields.proofs.marking.add_inside.Given as goal

abbrev pub invariant-loop-phase : goal.invariant-loop-phase
invariant-loop-phase l = (head : Bool) → map (seen head) l.marks.items ≡ map (seen head) l.fn.marks.items ++ map (seen (seen head l.at_head)) (take l.phase-index l.found)
