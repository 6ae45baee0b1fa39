use Rattle.std.proofs.Common.{◌≡◌, ◌++◌, take}
use Rattle.civl_linear.proofs.tracing.append.Given as goal

abbrev pub invariant-loop-flag : goal.invariant-loop-flag
invariant-loop-flag l = l.flags.items ≡ l.fn.flags.items ++ take l.flag-index l.others
