use Rattle.std.proofs.Common.{◌∙◌, ◌++◌, ◌-◌, length, replicate, ap}
use Rattle.civl_circuits.proofs.Wires.{widened}
use Rattle.civl_circuits.proofs.wiring.widen.Goals as goal

pub returns-clause-value : goal.returns-clause-value
returns-clause-value c = λ v h.
    widened v _ _ _ (c.args.width - length c.args.a.now) (c.in_ok-word.ensures.word ∙ ap (λ xs. c.args.a.now ++ xs) (c.as_slice.ensures.value ∙ c.in_ok-zeros.ensures ∙ ap (replicate (c.args.width - length c.args.a.now)) c.negate.ensures)) h
