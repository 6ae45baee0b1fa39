use Rattle.std.proofs.Common.{◌≡◌, ◌++◌, drop, map}
use Rattle.civl_conditions.specs.declared.condition.Condition.TheVariants.{Act}
use Rattle.civl_conditions.proofs.listing.push_act.Given as goal

abbrev pub invariant-loop-target : goal.invariant-loop-target
invariant-loop-target l = l.list ++ map (Act l.step l.at) (drop l.target-index l.targets) ≡ l.fn.list ++ map (Act l.step l.at) l.targets
