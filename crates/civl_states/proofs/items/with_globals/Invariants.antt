use Rattle.std.specs.Prelude.{◌+◌, ◌≤◌, ◌^◌, ℕ, List, ◌++◌, map, take}
use Rattle.civl_meaning.specs.Permissions.{permissions_of_global}
use Rattle.civl_terms.specs.Building.{Grows}
use Rattle.civl_terms.specs.Weights.{graph_weight}
use Rattle.civl_actions.specs.Actions.{values_at}
use Rattle.civl_states.specs.formula_parts.Said.{Env}
use Rattle.civl_states.specs.formula_parts.Masks.{AreCarried, CanCarry}
use Rattle.civl_states.specs.Items.{HasItems, items_weight}
use Rattle.civl_states.proofs.items.with_globals.Given as goal

abbrev pub invariant-loop-item : goal.invariant-loop-item
invariant-loop-item l =
    Grows l.initial.terms l.terms × CanCarry l.terms (2 ^ l.permissions) l.more
    × ((f : Env → List (List ℕ)) → AreCarried l.initial.terms (2 ^ l.permissions) l.fn.carried f → AreCarried l.terms (2 ^ l.permissions) l.more (λ env. f env ++ map permissions_of_global (values_at env l.initial.terms (take l.item-index l.ids))))
    × ((n : ℕ) → HasItems l.fn.carried.mask n → HasItems l.more.mask (n + l.item-index))
    × ((n : ℕ) → HasItems l.fn.carried.mask n → graph_weight l.terms + items_weight (2 ^ l.permissions) n ≤ graph_weight l.initial.terms + items_weight (2 ^ l.permissions) (n + l.item-index))
