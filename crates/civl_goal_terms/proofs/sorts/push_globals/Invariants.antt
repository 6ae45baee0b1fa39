use Rattle.std.proofs.Common.{◌≡◌, ◌++◌, drop, map}
use Rattle.civl_goal_terms.proofs.sorts.push_globals.Given as goal

abbrev pub invariant-loop-global : goal.invariant-loop-global
invariant-loop-global l = l.sorts.items ++ map (λ g. g.sort) (drop l.global-index l.globals) ≡ l.fn.sorts.items ++ map (λ g. g.sort) l.globals
