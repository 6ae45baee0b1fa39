use Rattle.std.proofs.Common.{◌≡◌, ℕ, ◌-◌, ◌∙◌, ap, arith}
use Rattle.civl_trial.specs.Trial.{starts_to}
use Rattle.civl_trial.proofs.program.init.Goals as goal

pub returns : goal.returns
returns c =
    let all : c.loop-copy.copy ≡ c.args.number = omega (arith, c.requires, c.loop-copy.invariant.0, c.loop-copy-test.false, c.loop-copy.auto.copy, c.loop-copy.auto.copy-end) in
    c.loop-copy.invariant.1 ∙ ap (λ (m : ℕ). starts_to (m - 1)) all
