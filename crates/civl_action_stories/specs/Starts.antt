-- K1: an invariant that is false in an initial store (Owicki and Gries, 1976).
use Rattle.std.specs.Prelude.{ℕ, ◌+◌, ◌-◌, nat_eq, if◌then◌else◌, List, [], ◌∷◌, Option, option_map, slice_get, codes}
use Rattle.std.specs.Option.{option_map_or}
use Rattle.civl_tree.specs.declared.program.Invariant.{Invariant}
use Rattle.civl_tree.specs.declared.program.Program.{Program}
use Rattle.civl_tree.specs.Numbering.{invariant_item}
use Rattle.civl_firing.specs.declared.store.Store.{Store}
use Rattle.civl_firing.specs.Scope.{global_values}
use Rattle.civl_conditions.specs.declared.condition.Condition.{Condition}
use Rattle.civl_conditions.specs.declared.condition.Condition.TheVariants as condition
use Rattle.civl_places.specs.declared.formula.Formula.TheVariants as formula
use Rattle.civl_places.specs.Starts.{item_start}
use Rattle.civl_lines.specs.declared.line.Kind.TheVariants as kind
use Rattle.civl_lines.specs.declared.line.Line.{Line}
use Rattle.civl_action_stories.specs.Actors.{at_item, parts_of}

-- the place among all these invariants of the i-th one of a step; behind them, where there is none
abbrev pub invariant_place : ℕ → List Invariant → ℕ → ℕ
invariant_place step [] i = 0
invariant_place step (v ∷ vs) i =
    if nat_eq v.step step
    then (if nat_eq i 0 then 0 else invariant_place step vs (i - 1) + 1)
    else invariant_place step vs i + 1

-- the token at which the item of the invariant at this place among all begins, if there is one
abbrev pub invariant_start : Program → ℕ → Option ℕ
invariant_start program place = option_map (λ v. item_start program (invariant_item program place)) (slice_get program.invariants place)

-- what is wrong with it, and why it is false in a store
abbrev pub invariant_story : Program → ℕ → List ℕ → Store → List Line
invariant_story program place text g =
    option_map_or (λ token. at_item token kind.Error text
    ∷ parts_of program (formula.Invariant place) (global_values program.globals g)) (invariant_start program place) []

abbrev pub start_story : Program → Condition → Store → List Line
start_story program (condition.Start step i) g =
    invariant_story program (invariant_place step program.invariants i) (codes "is false in this initial store") g
start_story program _ g = []
