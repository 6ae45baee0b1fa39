use Rattle.std.proofs.Common.{◌≡◌, drop}
use Rattle.civl_yields.specs.Places.{no_leave}
use Rattle.civl_subjects.specs.Parts.{first_told}
use Rattle.civl_subjects.specs.Strays.{first_stray}
use Rattle.civl_subjects.proofs.strays.any_stray.Given as goal

abbrev pub invariant-loop-expr : goal.invariant-loop-expr
invariant-loop-expr l = first_told (first_stray no_leave) (drop l.expr-index l.exprs) ≡ first_told (first_stray no_leave) l.fn.exprs
