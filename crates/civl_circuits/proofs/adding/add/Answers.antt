use Rattle.civl_circuits.proofs.Sums.{sum_cut, no_carry}
use Rattle.civl_circuits.proofs.adding.add.Goals as goal

pub returns-clause-ok : goal.returns-clause-ok
returns-clause-ok c =
    sum_cut _ _ _ _ c.in_ok-sum.ensures.ok c.truncate.ensures.items
    (λ v h. no_carry _ c.requires.one c.in_ok-sum.ensures.extends c.negate.ensures v h _ _)
