use Rattle.std.proofs.Common.{◌≡◌, ◌++◌, drop}
use Rattle.civl_conditions.specs.Steps.{each_at}
use Rattle.civl_conditions.specs.Listed.{pair_of, fire_of, movers}
use Rattle.civl_conditions.proofs.listing.push_movers.Given as goal

abbrev pub invariant-loop-at : goal.invariant-loop-at
invariant-loop-at l =
    l.list ++ each_at (λ x a. each_at (pair_of l.step x a) 0 l.fn.program.actions ++ fire_of l.step x a) l.at (drop l.at l.actions) ≡ l.fn.list ++ movers l.fn.program l.step
