use Rattle.civl_cnf.proofs.Extending.{extends_same, extends_trans, extends_keeps}
use Rattle.civl_circuits.proofs.laws.extensions.Goals as goal

pub returns-clause-itself : goal.returns-clause-itself
returns-clause-itself c = extends_same

pub returns-clause-further : goal.returns-clause-further
returns-clause-further c = λ first second third p q. extends_trans p q

pub returns-clause-stay : goal.returns-clause-stay
returns-clause-stay c = λ old new later word width cost value w e v y. w.value v (extends_keeps e v y)
