use Rattle.std.proofs.Common.{◌∙◌, map, ap}
use Rattle.std.proofs.lemmas.List.{take_all}
use Rattle.civl_cnf.specs.Literal.{opposite}
use Rattle.civl_circuits.proofs.Numbers.{number-complement}
use Rattle.civl_circuits.proofs.bitwise.complement.Goals as goal

pub returns-clause-value : goal.returns-clause-value
returns-clause-value c = λ v. number-complement v _ _ (c.loop-lit.invariant ∙ ap (map opposite) (take_all _ _ c.loop-lit-test.false))
