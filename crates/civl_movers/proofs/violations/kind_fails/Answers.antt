use Rattle.std.specs.Prelude.{ℕ}
use Rattle.std.proofs.Common.{sym, subst, arith}
use Rattle.civl_movers.specs.Runs.{TellsTwo}
use Rattle.civl_movers.specs.Settings.{kind_fails}
use Rattle.civl_movers.proofs.violations.kind_fails.Goals as goal

pub returns-in_ok-id-in-3-clause-tells : goal.returns-in_ok-id-in-3-clause-tells
returns-in_ok-id-in-3-clause-tells c =
    let pair = c.args.pair.now in
    subst (λ (n : ℕ). TellsTwo c.args.terms.now c.clashes.new.terms c.args.program.now pair.globals pair.x pair.y (kind_fails c.args.program.now n c.args.step) c.in_ok-id-in-3.id) (sym c.in-3.is)
    c.in_ok-id-in-3.ensures.tells

pub returns-in_ok-id-in-4-clause-tells : goal.returns-in_ok-id-in-4-clause-tells
returns-in_ok-id-in-4-clause-tells c =
    let pair = c.args.pair.now in
    subst (λ (n : ℕ). TellsTwo c.args.terms.now c.spoils.new.terms c.args.program.now pair.globals pair.x pair.y (kind_fails c.args.program.now n c.args.step) c.in_ok-id-in-4.id) (sym c.in-4.is)
    c.in_ok-id-in-4.ensures.tells

pub returns-in_ok-id-in-5-clause-tells : goal.returns-in_ok-id-in-5-clause-tells
returns-in_ok-id-in-5-clause-tells c =
    let pair = c.args.pair.now in
    subst (λ (n : ℕ). TellsTwo c.args.terms.now c.clashes-in-5.new.terms c.args.program.now pair.globals pair.x pair.y (kind_fails c.args.program.now n c.args.step) c.in_ok-id-in-5.id) (sym c.in-5.is)
    (λ a b g i e j d s x y. c.in_ok-id-in-5.ensures.tells b a g j d i e s y x)

pub returns-in_ok-id-in-6-clause-tells : goal.returns-in_ok-id-in-6-clause-tells
returns-in_ok-id-in-6-clause-tells c =
    let pair = c.args.pair.now in
    subst (λ (n : ℕ). TellsTwo c.args.terms.now c.spoils-in-6.new.terms c.args.program.now pair.globals pair.x pair.y (kind_fails c.args.program.now n c.args.step) c.in_ok-id-in-6.id) (sym c.in-6.is)
    (λ a b g i e j d s x y. c.in_ok-id-in-6.ensures.tells b a g j d i e s y x)

pub returns-in_ok-id-in-7-clause-tells : goal.returns-in_ok-id-in-7-clause-tells
returns-in_ok-id-in-7-clause-tells c =
    let pair = c.args.pair.now in
    subst (λ (n : ℕ). TellsTwo c.args.terms.now c.reveals.new.terms c.args.program.now pair.globals pair.x pair.y (kind_fails c.args.program.now n c.args.step) c.in_ok-id-in-7.id) (sym c.in-7.is)
    c.in_ok-id-in-7.ensures.tells

pub returns-in_ok-id-in-4-clause-weighs : goal.returns-in_ok-id-in-4-clause-weighs
returns-in_ok-id-in-4-clause-weighs c = λ a b p q. omega (arith, c.in_ok-id-in-4.ensures.weighs a b p q)

pub returns-in_ok-id-in-6-clause-weighs : goal.returns-in_ok-id-in-6-clause-weighs
returns-in_ok-id-in-6-clause-weighs c = λ a b p q. omega (arith, c.in_ok-id-in-6.ensures.weighs b a q p)

pub returns-in_ok-id-in-7-clause-weighs : goal.returns-in_ok-id-in-7-clause-weighs
returns-in_ok-id-in-7-clause-weighs c = λ a b p q. omega (arith, c.in_ok-id-in-7.ensures.weighs a b p q)
