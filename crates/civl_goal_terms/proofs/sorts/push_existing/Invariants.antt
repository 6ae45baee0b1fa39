use Rattle.std.proofs.Common.{◌≡◌, ◌++◌, drop, map}
use Rattle.std.specs.Prelude.{filter}
use Rattle.civl_conditions.specs.footprints.Agreement.{exists_at}
use Rattle.civl_goal_terms.proofs.sorts.push_existing.Given as goal

abbrev pub invariant-loop-global : goal.invariant-loop-global
invariant-loop-global l = l.sorts.items ++ map (λ g. g.sort) (filter (exists_at l.layer) (drop l.global-index l.globals)) ≡ l.fn.sorts.items ++ map (λ g. g.sort) (filter (exists_at l.layer) l.globals)
