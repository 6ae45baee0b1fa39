use Rattle.std.proofs.Common.{◌≡◌, drop}
use Rattle.civl_linear.specs.Places.{gives_out}
use Rattle.civl_subjects.proofs.linearity.gives_out.Given as goal

abbrev pub invariant-loop-out : goal.invariant-loop-out
invariant-loop-out l = gives_out (drop l.out-index l.outs) l.name ≡ gives_out l.fn.outs l.fn.name
