use Rattle.std.proofs.Common.{◌≡◌, drop}
use Rattle.std.specs.Prelude.{option_copied}
use Rattle.civl_meaning.specs.inner.Left.{first_left}
use Rattle.civl_meaning.proofs.seeking.first.Given as goal

abbrev pub invariant-loop-stmt : goal.invariant-loop-stmt
invariant-loop-stmt l = first_left (drop l.stmt-index l.stmts) (option_copied l.after) ≡ first_left l.stmts (option_copied l.after)
