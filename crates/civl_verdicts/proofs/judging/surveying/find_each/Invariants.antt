use Rattle.std.specs.Prelude.{take}
use Rattle.civl_verdicts.specs.decisions.Decided.{WereAsked}
use Rattle.civl_verdicts.specs.Surveys.{AreFound}
use Rattle.civl_verdicts.proofs.judging.surveying.find_each.Given as goal

abbrev pub invariant-loop-condition : goal.invariant-loop-condition
invariant-loop-condition g l = AreFound l.src l.budget (take l.condition-index l.list) l.findings.items × WereAsked l.fn.provers.items l.provers.items l.condition-index l.budget (record {
  asked = λ b. (goal.Prover-dyn g (b.vtable, b.value)).asked b.value;
  lacks = λ b. (goal.Prover-dyn g (b.vtable, b.value)).lacks b.value;
  honest = λ b. (goal.Prover-dyn g (b.vtable, b.value)).honest b.value;
  plan = λ b. (goal.Prover-dyn g (b.vtable, b.value)).plan b.value;
})
