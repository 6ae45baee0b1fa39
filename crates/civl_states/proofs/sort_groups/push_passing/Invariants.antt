use Rattle.std.proofs.Common.{◌≡◌, ◌++◌, drop, map}
use Rattle.std.specs.Prelude.{filter}
use Rattle.civl_states.specs.Existing.{passes}
use Rattle.civl_states.proofs.sort_groups.push_passing.Given as goal

abbrev pub invariant-loop-global : goal.invariant-loop-global
invariant-loop-global l = l.sorts.items ++ map (λ g. g.sort) (filter (passes l.which) (drop l.global-index l.globals)) ≡ l.fn.sorts.items ++ map (λ g. g.sort) (filter (passes l.which) l.globals)
