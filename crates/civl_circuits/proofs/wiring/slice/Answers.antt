use Rattle.std.proofs.Common.{◌≡◌, ◌∙◌, ◌+◌, ◌-◌, take, drop, ap, arith}
use Rattle.civl_circuits.specs.Circuits.{number}
use Rattle.civl_circuits.proofs.Wires.{sliced}
use Rattle.civl_circuits.proofs.wiring.slice.Goals as goal

pub returns-clause-value : goal.returns-clause-value
returns-clause-value c = λ v.
    let same : c.args.high + 1 - c.args.low ≡ c.args.high - c.args.low + 1 = omega (arith, c.requires.order) in
    ap (number v) c.in_ok-word.ensures.items ∙ ap (λ n. number v (take n (drop c.args.low c.args.a.now))) same ∙ sliced v _ _ _ c.requires.order c.requires.within
