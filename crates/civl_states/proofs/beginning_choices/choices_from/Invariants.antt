use Rattle.std.specs.Prelude.{◌≡◌, ◌+◌, ◌≤◌, map, drop, take}
use Rattle.civl_terms.specs.Building.{Lengthens}
use Rattle.civl_terms.specs.Weights.{graph_weight}
use Rattle.civl_conditions.specs.Values.{choices_count}
use Rattle.civl_states.specs.formula_parts.Given.{bits_of_sorts, AreVariablesOf}
use Rattle.civl_states.specs.Groups.{StandFrom}
use Rattle.civl_states.specs.Laying.{calls_at, call_sorts, with_some, AreChosen}
use Rattle.civl_states.proofs.beginning_choices.choices_from.Given as goal

abbrev pub invariant-loop-number : goal.invariant-loop-number
invariant-loop-number l =
    AreChosen l.terms l.calls.items (with_some (calls_at l.program l.layer (map (λ s. s.now) l.flat) (take l.number-index l.numbers))) l.first
    × StandFrom l.sorts l.next (call_sorts (calls_at l.program l.layer (map (λ s. s.now) l.flat) (drop l.number-index l.numbers)))
    × (l.next ≡ l.first + choices_count (calls_at l.program l.layer (map (λ s. s.now) l.flat) (take l.number-index l.numbers)))
    × AreVariablesOf l.terms l.sorts × Lengthens l.initial.terms l.terms
    × (graph_weight l.terms + bits_of_sorts (call_sorts (calls_at l.program l.layer (map (λ s. s.now) l.flat) (drop l.number-index l.numbers)))
    ≤ graph_weight l.initial.terms + bits_of_sorts (call_sorts (calls_at l.program l.layer (map (λ s. s.now) l.flat) l.numbers)))
