use Rattle.std.proofs.Common.{◌≡◌, take, map}
use Rattle.civl_firing.specs.Eval.{value_of}
use Rattle.civl_firing.specs.Settings.{scope_in}
use Rattle.civl_clashes.proofs.waiting.offers.Given as goal

abbrev pub invariant-loop-choice : goal.invariant-loop-choice
invariant-loop-choice l = l.offered.items ≡ map (λ c. value_of (scope_in l.setting) c.offer) (take l.choice-index l.choice-items)
