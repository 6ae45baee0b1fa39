use Rattle.std.proofs.Common.{ℕ, Bool, true, false, ◌≡◌, ◌∙◌, refl, ap₂, cond, arith}
use Rattle.std.proofs.lemmas.List.{take_all}
use Rattle.civl_cnf.specs.Literal.{truth_of}
use Rattle.civl_circuits.specs.Circuits.{number}
use Rattle.civl_circuits.proofs.Words.{word_none, word_push, word_as, below_at}
use Rattle.civl_circuits.proofs.Choices.{chosen_more}
use Rattle.civl_cnf.proofs.Extending.{extends_trans}
use Rattle.civl_circuits.proofs.choosing.choose.Goals as goal

nothing : (b : Bool) → ◌≡◌ {A = ℕ} 0 (cond b 0 0)
nothing true = refl
nothing false = refl

pub loop-i-init : goal.loop-i-init
loop-i-init c = rw c.new-word.ensures.items (word_none _ _ (λ v. nothing (truth_of v c.args.c)))

pub loop-i-preserved : goal.loop-i-preserved
loop-i-preserved c = rw c.in_ok-push.ensures.items (word_push _ c.loop-i.invariant c.in_ok-bit.ensures.ok (λ v. chosen_more v (truth_of v c.args.c) _ _ _ _ _ (omega arith) (omega (arith, c.requires.size)) c.index-a-i.is c.index-b-i.is))

pub returns-clause-ok : goal.returns-clause-ok
returns-clause-ok c =
    word_as _ _ _ _ c.loop-i.invariant (omega (arith, c.loop-i.invariant.size)) (omega arith) c.loop-i.invariant.below
    (λ v h p. p ∙ ap₂ (λ xs ys. cond (truth_of v c.args.c) (number v xs) (number v ys)) (take_all c.loop-i.i c.args.a.now (omega arith)) (take_all c.loop-i.i c.args.b.now (omega (arith, c.requires.size))))

pub ite-requires-clause-room : goal.ite-requires-clause-room
ite-requires-clause-room c = omega (arith, c.loop-i.invariant.variables, c.loop-i-test.true, c.requires.room)

pub ite-requires-clause-c : goal.ite-requires-clause-c
ite-requires-clause-c c = omega (arith, c.requires.c, c.loop-i.invariant.extends.variables)

pub ite-requires-clause-a : goal.ite-requires-clause-a
ite-requires-clause-a c = below_at _ _ c.requires.a c.loop-i.invariant.extends c.loop-i-test.true c.index-a-i.is

pub ite-requires-clause-b : goal.ite-requires-clause-b
ite-requires-clause-b c = below_at _ _ c.requires.b c.loop-i.invariant.extends (omega (arith, c.loop-i-test.true, c.requires.size)) c.index-b-i.is

pub returns-in_err-bit-clause-extends : goal.returns-in_err-bit-clause-extends
returns-in_err-bit-clause-extends c = extends_trans c.loop-i.invariant.extends c.in_err-bit.ensures.extends

pub returns-in_err-push-clause-extends : goal.returns-in_err-push-clause-extends
returns-in_err-push-clause-extends c = extends_trans c.loop-i.invariant.extends c.in_ok-bit.ensures.extends

pub returns-clause-extends : goal.returns-clause-extends
returns-clause-extends c = c.loop-i.invariant.extends
