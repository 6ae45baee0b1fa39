use Rattle.std.proofs.Common.{◌≡◌, ◌++◌, map, take}
use Rattle.civl_linear.specs.Modes.{is_lent, is_given}
use Rattle.civl_linear.proofs.flags.exit_owed.Given as goal

abbrev pub invariant-loop-param : goal.invariant-loop-param
invariant-loop-param l = l.owed ≡ map (λ param. is_lent param.mode) (take l.param-index l.param-items)

abbrev pub invariant-loop-out : goal.invariant-loop-out
invariant-loop-out l = l.owed ≡ map (λ param. is_lent param.mode) l.proc.params ++ map (λ out. is_given out.mode) (take l.out-index l.out-items)
