use Rattle.civl_circuits.proofs.Hashing.{addition_there, addition_half, addition_half_and_one}
use Rattle.civl_circuits.proofs.circuit.Circuit.adder.Goals as goal

pub returns-in-Is-clause-ok : goal.returns-in-Is-clause-ok
returns-in-Is-clause-ok c = addition_there c.one-one.ensures c.in-Is.ensures c.requires.a c.requires.b c.requires.c

pub returns-in_ok-sum-in-Half-clause-ok : goal.returns-in_ok-sum-in-Half-clause-ok
returns-in_ok-sum-in-Half-clause-ok c = addition_half c.one-one.ensures c.in-Half.ensures c.in_ok-sum-in-Half.ensures.ok

pub returns-in_ok-sum-in-HalfAndOne-clause-ok : goal.returns-in_ok-sum-in-HalfAndOne-clause-ok
returns-in_ok-sum-in-HalfAndOne-clause-ok c = addition_half_and_one c.one-one.ensures c.in-HalfAndOne.ensures c.in_ok-sum-in-HalfAndOne.ensures.ok
