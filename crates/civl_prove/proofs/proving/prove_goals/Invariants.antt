use Rattle.civl_verdicts.specs.decisions.Decided.{WereAsked}
use Rattle.civl_prove.specs.Proved.{HoldUpTo}
use Rattle.civl_prove.proofs.proving.prove_goals.Given as goal

abbrev pub invariant-loop-goal : goal.invariant-loop-goal
invariant-loop-goal g l = HoldUpTo l.src l.outline l.goal-index × WereAsked l.fn.provers.items l.provers.items l.goal-index l.budget (record {
  asked = λ b. (goal.Prover-dyn g (b.vtable, b.value)).asked b.value;
  lacks = λ b. (goal.Prover-dyn g (b.vtable, b.value)).lacks b.value;
  honest = λ b. (goal.Prover-dyn g (b.vtable, b.value)).honest b.value;
  plan = λ b. (goal.Prover-dyn g (b.vtable, b.value)).plan b.value;
})
