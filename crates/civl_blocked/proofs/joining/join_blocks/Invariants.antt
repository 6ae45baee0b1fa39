use Rattle.std.proofs.Common.{drop, take}
use Rattle.civl_blocked.specs.inner.Arranged.{IsJoining}
use Rattle.civl_blocked.proofs.joining.join_blocks.Given as goal

abbrev pub invariant-loop-chosen : goal.invariant-loop-chosen
invariant-loop-chosen l = IsJoining l.ground l.fn.done.items l.fn.beside.config (take l.chosen-index l.blocks) (drop l.chosen-index l.blocks) l.done.items l.beside
