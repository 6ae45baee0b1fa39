use Rattle.std.specs.Prelude.{◌+◌, ◌≤◌}
use Rattle.civl_terms.specs.Building.{Lengthens}
use Rattle.civl_terms.specs.Weights.{graph_weight}
use Rattle.civl_states.specs.formula_parts.Lists.{AreSaid}
use Rattle.civl_states.specs.formula_parts.Given.{given, sorts_from, bits_of_sorts, AreVariablesOf}
use Rattle.civl_states.proofs.formula_parts.given.variables.Given as goal

abbrev pub invariant-loop-at : goal.invariant-loop-at
invariant-loop-at l =
    AreSaid l.terms l.ids.items (sorts_from l.sorts l.first l.at) (λ env. given env l.first l.at) × AreVariablesOf l.terms l.sorts × Lengthens l.initial.terms l.terms
    × (graph_weight l.terms ≤ graph_weight l.initial.terms + bits_of_sorts (sorts_from l.sorts l.first l.at))
