use Rattle.std.proofs.Common.{subst}
use Rattle.civl_propagation.specs.Watches.{BestSays}
use Rattle.civl_propagation.proofs.choice.with_lit.Goals as goal

pub returns-in-One : goal.returns-in-One
returns-in-One c t seen ranked says = c.second_best.ensures t seen ranked (subst (BestSays t seen) c.in-One.is says)

pub returns-in-Two : goal.returns-in-Two
returns-in-Two c t seen ranked says = c.better.ensures t seen ranked (subst (BestSays t seen) c.in-Two.is says)
