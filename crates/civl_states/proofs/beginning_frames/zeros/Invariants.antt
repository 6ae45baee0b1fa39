use Rattle.std.specs.Prelude.{◌≤◌, map, take}
use Rattle.civl_firing.specs.values.Values.{zero_of}
use Rattle.civl_terms.specs.Building.{Grows}
use Rattle.civl_terms.specs.Weights.{graph_weight}
use Rattle.civl_states.specs.formula_parts.Lists.{AreSaid}
use Rattle.civl_states.proofs.beginning_frames.zeros.Given as goal

abbrev pub invariant-loop-sort : goal.invariant-loop-sort
invariant-loop-sort l =
    Grows l.initial.terms l.terms × (graph_weight l.terms ≤ graph_weight l.initial.terms)
    × AreSaid l.terms l.ids.items (take l.sort-index l.sorts) (λ env. map zero_of (take l.sort-index l.sorts))
