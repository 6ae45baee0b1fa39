use Rattle.std.proofs.Common.{◌≡◌, take}
use Rattle.civl_meaning.specs.Frame.{unnumbered}
use Rattle.civl_meaning.specs.Remaining.{rest_of}
use Rattle.civl_meaning.proofs.framing.copied_stmts.Given as goal

abbrev pub invariant-loop-item : goal.invariant-loop-item
invariant-loop-item l = l.stmts.items ≡ unnumbered (rest_of (take l.item-index l.rest))
