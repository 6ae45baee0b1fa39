use Rattle.std.specs.Prelude.{◌≡◌, ◌+◌, ◌≤◌, Bool, ◌&&◌, Some, take}
use Rattle.civl_tree.specs.declared.expr.Sort.TheVariants.{Bool as Truth}
use Rattle.civl_terms.specs.Graphs.{sort_at}
use Rattle.civl_terms.specs.Building.{Grows}
use Rattle.civl_terms.specs.Weights.{graph_weight}
use Rattle.civl_actions.specs.Actions.{values_at}
use Rattle.civl_conditions.specs.Values.{same_values}
use Rattle.civl_states.specs.formula_parts.Said.{Env, IsTest}
use Rattle.civl_states.specs.formula_parts.Lists.{bits_at}
use Rattle.civl_states.proofs.formula_parts.equality.and_all_same.Given as goal

abbrev pub invariant-loop-at : goal.invariant-loop-at
invariant-loop-at l =
    Grows l.initial.terms l.terms × (sort_at l.terms l.id ≡ Some Truth) × (graph_weight l.terms ≤ graph_weight l.initial.terms + bits_at l.initial.terms (take l.at l.xs) + l.at)
    × ((h : Env → Bool) → IsTest l.initial.terms l.test h → IsTest l.terms l.id (λ env. h env && same_values (values_at env l.initial.terms (take l.at l.xs)) (values_at env l.initial.terms (take l.at l.ys))))
