use Rattle.std.specs.Prelude.{◌≡◌, ◌++◌, map, drop, get_or}
use Rattle.civl_goal_terms.proofs.apart.push_held.Given as goal

abbrev pub invariant-loop-number : goal.invariant-loop-number
invariant-loop-number l = l.ids.items ++ map (λ n. get_or l.locals n 0) (drop l.number-index l.held) ≡ l.fn.ids.items ++ map (λ n. get_or l.locals n 0) l.held
