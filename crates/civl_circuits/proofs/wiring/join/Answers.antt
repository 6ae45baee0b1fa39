use Rattle.std.proofs.Common.{◌∙◌, ◌++◌, ap}
use Rattle.std.proofs.lemmas.List.{take_all}
use Rattle.civl_circuits.proofs.Wires.{joined}
use Rattle.civl_circuits.proofs.wiring.join.Goals as goal

pub returns-clause-value : goal.returns-clause-value
returns-clause-value c = λ v. joined v _ _ _ (c.loop-lit.invariant ∙ ap (λ xs. c.args.low.now ++ xs) (take_all _ _ c.loop-lit-test.false))
