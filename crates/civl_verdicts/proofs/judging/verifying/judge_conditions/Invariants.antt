use Rattle.civl_verdicts.specs.decisions.Decided.{WereAsked}
use Rattle.civl_verdicts.proofs.judging.Verdicts.{HoldBefore}
use Rattle.civl_verdicts.proofs.judging.verifying.judge_conditions.Given as goal

abbrev pub invariant-loop-condition : goal.invariant-loop-condition
invariant-loop-condition g l = HoldBefore l.src l.condition-index × WereAsked l.fn.provers.items l.provers.items l.condition-index l.budget (record {
  asked = λ b. (goal.Prover-dyn g (b.vtable, b.value)).asked b.value;
  lacks = λ b. (goal.Prover-dyn g (b.vtable, b.value)).lacks b.value;
  honest = λ b. (goal.Prover-dyn g (b.vtable, b.value)).honest b.value;
  plan = λ b. (goal.Prover-dyn g (b.vtable, b.value)).plan b.value;
})
