use Rattle.civl_circuits.proofs.Hashing.{half_is}
use Rattle.std.proofs.Common.{arith}
use Rattle.civl_cnf.proofs.Extending.{extends_trans}
use Rattle.civl_circuits.proofs.circuit.Circuit.half.Goals as goal

pub returns-clause-ok : goal.returns-clause-ok
returns-clause-ok c = half_is _ _ c.in_ok-sum.ensures.ok c.in_ok-carry.ensures.ok

pub and-requires-clause-room : goal.and-requires-clause-room
and-requires-clause-room c = omega (arith, c.in_ok-sum.ensures.ok.variables, c.requires.room)

pub and-requires-clause-a : goal.and-requires-clause-a
and-requires-clause-a c = omega (arith, c.in_ok-sum.ensures.extends.variables, c.requires.a)

pub and-requires-clause-b : goal.and-requires-clause-b
and-requires-clause-b c = omega (arith, c.in_ok-sum.ensures.extends.variables, c.requires.b)

pub returns-in_err-carry-clause-extends : goal.returns-in_err-carry-clause-extends
returns-in_err-carry-clause-extends c = extends_trans c.in_ok-sum.ensures.extends c.in_err-carry.ensures.extends

pub returns-clause-extends : goal.returns-clause-extends
returns-clause-extends c = extends_trans c.in_ok-sum.ensures.extends c.in_ok-carry.ensures.extends
