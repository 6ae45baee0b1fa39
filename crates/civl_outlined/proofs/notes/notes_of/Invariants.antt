use Rattle.std.proofs.Common.{◌≤◌, drop, length}
use Rattle.civl_outlined.specs.inner.Notes.{AreNotes}
use Rattle.civl_outlined.proofs.notes.notes_of.Given as goal

abbrev pub invariant-loop-left : goal.invariant-loop-left
invariant-loop-left l = record {
  left : l.left ≤ length l.notes;
  are : AreNotes l.program (drop l.left l.notes) l.found;
}

abbrev pub decreases-loop-left : goal.decreases-loop-left
decreases-loop-left l = l.left
