use Rattle.std.proofs.Common.{ap, eqb, refl, arith}
use Rattle.std.proofs.lemmas.List.{take_all}
use Rattle.civl_circuits.specs.Circuits.{number}
use Rattle.civl_circuits.proofs.Words.{bit_there, bit_as}
use Rattle.civl_circuits.proofs.Choices.{zero_more}
use Rattle.civl_circuits.proofs.equality.is_zero.Goals as goal

pub loop-i-init : goal.loop-i-init
loop-i-init c = bit_there _ _ _ c.requires.one (λ v. refl)

pub loop-i-preserved : goal.loop-i-preserved
loop-i-preserved c = zero_more _ _ _ _ c.loop-i.invariant c.loop-i-test.true c.index-a-i.is c.negate.ensures c.in_ok-zero.ensures.ok

pub returns-clause-ok : goal.returns-clause-ok
returns-clause-ok c =
    bit_as _ _ c.loop-i.invariant (omega arith) (λ v h. ap (λ xs. eqb (number v xs) 0) (take_all c.loop-i.i c.args.a.now (omega arith)))
