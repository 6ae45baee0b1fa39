use Rattle.std.specs.Prelude.{take}
use Rattle.civl_states.proofs.Stepping.{of_step, HoldSo}
use Rattle.civl_states.proofs.invariants.invariants_at.Given as goal

abbrev pub invariant-loop-invariant : goal.invariant-loop-invariant
invariant-loop-invariant l = HoldSo l.fn.terms l.program l.globals (of_step l.step (take l.invariant-index l.invariant-items)) l.terms l.all
