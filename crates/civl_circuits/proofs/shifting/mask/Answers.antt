use Rattle.std.proofs.Common.{ℕ, ◌*◌, ◌≡◌, ◌∙◌, ap, arith}
use Rattle.std.proofs.lemmas.List.{take_all}
use Rattle.civl_cnf.specs.Literal.{truth_of}
use Rattle.civl_cnf.specs.Gates.{bit}
use Rattle.civl_circuits.specs.Circuits.{number}
use Rattle.civl_circuits.proofs.Words.{word_none, word_push, word_as, below_at}
use Rattle.civl_circuits.proofs.Moves.{masked_more}
use Rattle.civl_cnf.proofs.Extending.{extends_trans}
use Rattle.civl_circuits.proofs.shifting.mask.Goals as goal

nothing : (n : ℕ) → 0 ≡ n * 0
nothing n = omega arith

pub loop-i-init : goal.loop-i-init
loop-i-init c = rw c.new-word.ensures.items (word_none _ _ (λ v. nothing (bit (truth_of v c.args.c))))

pub loop-i-preserved : goal.loop-i-preserved
loop-i-preserved c = rw c.in_ok-push.ensures.items (word_push _ c.loop-i.invariant c.in_ok-bit.ensures.ok (λ v. masked_more v (truth_of v c.args.c) _ _ _ c.loop-i-test.true c.index-a-i.is))

pub returns-clause-ok : goal.returns-clause-ok
returns-clause-ok c =
    word_as _ _ _ _ c.loop-i.invariant (omega (arith, c.loop-i.invariant.size)) (omega arith) c.loop-i.invariant.below
    (λ v h p. p ∙ ap (λ xs. bit (truth_of v c.args.c) * number v xs) (take_all c.loop-i.i c.args.a.now (omega arith)))

pub and-requires-clause-room : goal.and-requires-clause-room
and-requires-clause-room c = omega (arith, c.loop-i.invariant.variables, c.loop-i-test.true, c.requires.room)

pub and-requires-clause-a : goal.and-requires-clause-a
and-requires-clause-a c = omega (arith, c.requires.c, c.loop-i.invariant.extends.variables)

pub and-requires-clause-b : goal.and-requires-clause-b
and-requires-clause-b c = below_at _ _ c.requires.a c.loop-i.invariant.extends c.loop-i-test.true c.index-a-i.is

pub returns-in_err-bit-clause-extends : goal.returns-in_err-bit-clause-extends
returns-in_err-bit-clause-extends c = extends_trans c.loop-i.invariant.extends c.in_err-bit.ensures.extends

pub returns-in_err-push-clause-extends : goal.returns-in_err-push-clause-extends
returns-in_err-push-clause-extends c = extends_trans c.loop-i.invariant.extends c.in_ok-bit.ensures.extends

pub returns-clause-extends : goal.returns-clause-extends
returns-clause-extends c = c.loop-i.invariant.extends
