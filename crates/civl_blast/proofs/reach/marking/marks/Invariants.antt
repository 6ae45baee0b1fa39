use Rattle.std.proofs.Common.{◌+◌, ◌-◌}
use Rattle.civl_blast.specs.reach.Marks.{IsMarking}
use Rattle.civl_blast.proofs.reach.marking.marks.Given as goal

abbrev pub invariant-loop-done : goal.invariant-loop-done
invariant-loop-done l = IsMarking l.terms l.id (l.id + 1 - l.done) l.marks.items
