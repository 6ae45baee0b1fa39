use Rattle.std.proofs.Common.{ap₂, eqb, refl, arith}
use Rattle.std.proofs.lemmas.List.{take_all}
use Rattle.civl_circuits.specs.Circuits.{number}
use Rattle.civl_circuits.proofs.Words.{bit_there, bit_as}
use Rattle.civl_circuits.proofs.Choices.{equal_more}
use Rattle.civl_circuits.proofs.equality.equal.Goals as goal

pub loop-i-init : goal.loop-i-init
loop-i-init c = bit_there _ _ _ c.requires.one (λ v. refl)

pub loop-i-preserved : goal.loop-i-preserved
loop-i-preserved c = equal_more _ _ _ _ _ _ c.loop-i.invariant c.loop-i-test.true (omega (arith, c.requires.size)) c.index-a-i.is c.index-b-i.is c.in_ok-differ.ensures.ok c.negate.ensures c.in_ok-same.ensures.ok

pub returns-clause-ok : goal.returns-clause-ok
returns-clause-ok c =
    bit_as _ _ c.loop-i.invariant (omega arith)
    (λ v h. ap₂ (λ xs ys. eqb (number v xs) (number v ys)) (take_all c.loop-i.i c.args.a.now (omega arith)) (take_all c.loop-i.i c.args.b.now (omega (arith, c.requires.size))))
