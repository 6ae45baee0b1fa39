use Rattle.std.proofs.Common.{arith, ap}
use Rattle.civl_cnf.specs.Literal.{Literal}
use Rattle.civl_circuits.proofs.Moves.{staged, IsBelow-moved}
use Rattle.civl_circuits.proofs.shifting.stage.Goals as goal

pub choose-requires-clause-a : goal.choose-requires-clause-a
choose-requires-clause-a c = rw (c.as_slice.ensures.value, c.in_ok-away.ensures) (IsBelow-moved _ c.args.direction _ _ _ (omega (arith, c.requires.one.below, ap (λ (l : Literal). l.variable) c.negate-zero.ensures)) c.requires.a)

pub returns-clause-ok : goal.returns-clause-ok
returns-clause-ok c = staged c.args.direction _ _ _ _ _ _ (rw c.as_slice.ensures.value at c.in_ok-word.ensures.ok) c.in_ok-away.ensures c.requires.one c.negate-zero.ensures c.requires.within
