use Rattle.std.proofs.Common.{◌≡◌, ◌++◌, drop, map}
use Rattle.civl_goals.specs.declared.goal.Goal.TheVariants.{Other}
use Rattle.civl_goals.proofs.listing.push_others.Given as goal

abbrev pub invariant-loop-other : goal.invariant-loop-other
invariant-loop-other l = l.list ++ map (λ q. Other l.proc l.statement q.0 q.1) (drop l.other-index l.others) ≡ l.fn.list ++ map (λ q. Other l.proc l.statement q.0 q.1) l.others
