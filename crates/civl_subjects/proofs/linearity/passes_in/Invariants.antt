use Rattle.std.proofs.Common.{◌≡◌, drop}
use Rattle.civl_linear.specs.Places.{passes_in}
use Rattle.civl_subjects.proofs.linearity.passes_in.Given as goal

abbrev pub invariant-loop-param : goal.invariant-loop-param
invariant-loop-param l = passes_in (drop l.param-index l.params) l.name ≡ passes_in l.fn.params l.fn.name
