use Rattle.std.proofs.Common.{◌≡◌, drop}
use Rattle.civl_yields.specs.Places.{any_stray}
use Rattle.civl_yields.proofs.strays.any_stray.Given as goal

abbrev pub invariant-loop-expr : goal.invariant-loop-expr
invariant-loop-expr l = any_stray (drop l.expr-index l.exprs) ≡ any_stray l.fn.exprs
