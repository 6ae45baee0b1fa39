use Rattle.std.proofs.Common.{refl, arith}
use Rattle.civl_bits.specs.Word.{bitwise_xor_at}
use Rattle.civl_circuits.specs.Circuits.{number}
use Rattle.civl_circuits.proofs.Words.{word_none, word_push, word_whole, below_at}
use Rattle.civl_circuits.proofs.BitByBit.{xor_more}
use Rattle.civl_cnf.proofs.Extending.{extends_trans}
use Rattle.civl_circuits.proofs.bitwise.bitwise_xor.Goals as goal

pub loop-i-init : goal.loop-i-init
loop-i-init c = rw c.new-word.ensures.items (word_none _ _ (λ v. refl))

pub loop-i-preserved : goal.loop-i-preserved
loop-i-preserved c = rw c.in_ok-push.ensures.items (word_push _ c.loop-i.invariant c.in_ok-bit.ensures.ok (λ v. xor_more v _ _ _ _ _ (omega arith) (omega (arith, c.requires.size)) c.index-a-i.is c.index-b-i.is))

pub returns-clause-ok : goal.returns-clause-ok
returns-clause-ok c = word_whole _ (λ i v. bitwise_xor_at i (number v c.args.a.now) (number v c.args.b.now)) c.loop-i.invariant (omega arith)

pub xor-requires-clause-room : goal.xor-requires-clause-room
xor-requires-clause-room c = omega (arith, c.loop-i.invariant.variables, c.loop-i-test.true, c.requires.room)

pub xor-requires-clause-a : goal.xor-requires-clause-a
xor-requires-clause-a c = below_at _ _ c.requires.a c.loop-i.invariant.extends c.loop-i-test.true c.index-a-i.is

pub xor-requires-clause-b : goal.xor-requires-clause-b
xor-requires-clause-b c = below_at _ _ c.requires.b c.loop-i.invariant.extends (omega (arith, c.loop-i-test.true, c.requires.size)) c.index-b-i.is

pub returns-in_err-bit-clause-extends : goal.returns-in_err-bit-clause-extends
returns-in_err-bit-clause-extends c = extends_trans c.loop-i.invariant.extends c.in_err-bit.ensures.extends

pub returns-in_err-push-clause-extends : goal.returns-in_err-push-clause-extends
returns-in_err-push-clause-extends c = extends_trans c.loop-i.invariant.extends c.in_ok-bit.ensures.extends

pub returns-clause-extends : goal.returns-clause-extends
returns-clause-extends c = c.loop-i.invariant.extends
