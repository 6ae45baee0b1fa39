use Rattle.std.proofs.Common.{◌≡◌, take}
use Rattle.civl_firing.specs.Eval.{values_of}
use Rattle.civl_firing.specs.Scope.{frame_values}
use Rattle.civl_firing.proofs.asking.gate_of_call.Given as goal

abbrev pub invariant-loop-at : goal.invariant-loop-at
invariant-loop-at l = take l.at l.inputs ≡ values_of (frame_values l.globals l.proc l.locals) (take l.at l.args)
