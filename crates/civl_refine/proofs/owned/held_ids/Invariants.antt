use Rattle.std.specs.Prelude.{◌≡◌, map, get_or, take}
use Rattle.civl_refine.proofs.owned.held_ids.Given as goal

abbrev pub invariant-loop-number : goal.invariant-loop-number
invariant-loop-number l = l.ids.items ≡ map (λ n. get_or l.locals n 0) (take l.number-index l.held)
