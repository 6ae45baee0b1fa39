use Rattle.std.proofs.Common.{◌≡◌, take}
use Rattle.civl_firing.specs.Eval.{values_of}
use Rattle.civl_firing.proofs.expressions.values.Given as goal

abbrev pub invariant-loop-expr : goal.invariant-loop-expr
invariant-loop-expr g l = l.values.items ≡ values_of (g.B.Bindings.scope l.bindings) (take l.expr-index l.exprs)
