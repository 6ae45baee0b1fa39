use Rattle.std.specs.Prelude.{take}
use Rattle.civl_states.proofs.Stepping.{HoldSo}
use Rattle.civl_goal_terms.proofs.holds.holds_at.Given as goal

abbrev pub invariant-loop-hold : goal.invariant-loop-hold
invariant-loop-hold l = HoldSo l.fn.terms l.program l.globals (take l.hold-index l.hold-items) l.terms l.all
