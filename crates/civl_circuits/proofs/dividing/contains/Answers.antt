use Rattle.std.proofs.Common.{◌≡◌, ◌∙◌, ap, rules}
use Rattle.civl_cnf.specs.Literal.{truth_of}
use Rattle.civl_circuits.proofs.Divisions.{number-has}
use Rattle.civl_circuits.proofs.dividing.contains.Goals as goal

same : (c : goal.Then-eq) → c.other-item.result ≡ c.args.lit
same c = search rules

pub returns-then-eq : goal.returns-then-eq
returns-then-eq c = λ found v on. number-has v _ _ _ c.loop-other-test.true c.other-item.is (ap (truth_of v) (same c) ∙ on)
