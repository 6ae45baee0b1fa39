use Rattle.std.proofs.Common.{◌≡◌, drop}
use Rattle.std.specs.Prelude.{option_copied}
use Rattle.civl_meaning.specs.inner.Left.{among_left}
use Rattle.civl_meaning.proofs.seeking.+seek.Given as goal

abbrev pub invariant-seek-loop-i : goal.invariant-seek-loop-i
invariant-seek-loop-i l = among_left (drop l.i l.items) (option_copied l.fn.after) l.left ≡ among_left l.fn.stmts (option_copied l.fn.after) l.fn.wanted
