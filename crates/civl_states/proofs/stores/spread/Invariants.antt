use Rattle.std.specs.Prelude.{◌≤◌}
use Rattle.civl_terms.specs.Building.{Grows}
use Rattle.civl_terms.specs.Weights.{graph_weight}
use Rattle.civl_states.specs.Existing.{passes}
use Rattle.civl_states.proofs.Spreading.{SpreadTo}
use Rattle.civl_states.proofs.stores.spread.Given as goal

abbrev pub invariant-loop-global : goal.invariant-loop-global
invariant-loop-global l =
    Grows l.initial.terms l.terms × (graph_weight l.terms ≤ graph_weight l.initial.terms)
    × SpreadTo l.initial.terms (passes l.which) l.globals l.given l.terms l.global-index l.at l.ids.items
