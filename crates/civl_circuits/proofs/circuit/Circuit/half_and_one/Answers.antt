use Rattle.civl_circuits.proofs.Hashing.{half_and_one_is}
use Rattle.std.proofs.Common.{arith}
use Rattle.civl_cnf.proofs.Extending.{extends_trans}
use Rattle.civl_circuits.proofs.circuit.Circuit.half_and_one.Goals as goal

pub returns-clause-ok : goal.returns-clause-ok
returns-clause-ok c = half_and_one_is _ _ c.in_ok-sum.ensures.ok c.in_ok-carry.ensures.ok

pub or-requires-clause-room : goal.or-requires-clause-room
or-requires-clause-room c = omega (arith, c.in_ok-sum.ensures.ok.variables, c.requires.room)

pub or-requires-clause-a : goal.or-requires-clause-a
or-requires-clause-a c = omega (arith, c.in_ok-sum.ensures.extends.variables, c.requires.a)

pub or-requires-clause-b : goal.or-requires-clause-b
or-requires-clause-b c = omega (arith, c.in_ok-sum.ensures.extends.variables, c.requires.b)

pub returns-in_err-carry-clause-extends : goal.returns-in_err-carry-clause-extends
returns-in_err-carry-clause-extends c = extends_trans c.in_ok-sum.ensures.extends c.in_err-carry.ensures.extends

pub returns-clause-extends : goal.returns-clause-extends
returns-clause-extends c = extends_trans c.in_ok-sum.ensures.extends c.in_ok-carry.ensures.extends
