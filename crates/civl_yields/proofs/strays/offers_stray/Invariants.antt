use Rattle.std.proofs.Common.{◌≡◌, drop}
use Rattle.std.specs.List.{list_any}
use Rattle.civl_yields.specs.Places.{stray, no_leave}
use Rattle.civl_yields.proofs.strays.offers_stray.Given as goal

abbrev pub invariant-loop-choice : goal.invariant-loop-choice
invariant-loop-choice l = list_any (λ choice. stray no_leave choice.offer) (drop l.choice-index l.choices) ≡ list_any (λ choice. stray no_leave choice.offer) l.fn.choices
