use Rattle.std.proofs.Common.{◌-◌, vec_len}
use Rattle.civl_portfolio.proofs.Rounds.{Asking}
use Rattle.civl_portfolio.proofs.asking.ask.Given as goal

abbrev pub invariant-loop-at : goal.invariant-loop-at
invariant-loop-at g l = Asking l.fn.provers.items l.provers.items l.at l.retired l.cnf l.budget (record {
  asked = λ b. (goal.Prover-dyn g (b.vtable, b.value)).asked b.value;
  lacks = λ b. (goal.Prover-dyn g (b.vtable, b.value)).lacks b.value;
  honest = λ b. (goal.Prover-dyn g (b.vtable, b.value)).honest b.value;
  plan = λ b. (goal.Prover-dyn g (b.vtable, b.value)).plan b.value;
})

abbrev pub decreases-loop-at : goal.decreases-loop-at
decreases-loop-at g l = vec_len l.provers - l.at
