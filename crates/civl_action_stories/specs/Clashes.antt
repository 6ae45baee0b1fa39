-- K3 and K5: two actions that can't be exchanged (movers: Lipton 1975; gated atomic actions: CAV 2015).
use Rattle.std.specs.Prelude.{ℕ, Bool, false, nat_eq, if◌then◌else◌, List, [], ◌∷◌, ◌++◌, map, slice_get, codes}
use Rattle.std.specs.Option.{option_map_or}
use Rattle.civl_tree.specs.declared.action.Param.{Param}
use Rattle.civl_tree.specs.declared.program.Program.{Program}
use Rattle.civl_firing.specs.declared.store.Store.{Store}
use Rattle.civl_conditions.specs.declared.condition.Condition.{Condition}
use Rattle.civl_conditions.specs.declared.condition.Condition.TheVariants as condition
use Rattle.civl_verdicts.specs.models.Text.{listed, value_text}
use Rattle.civl_clashes.specs.declared.violations.Clash.{Clash}
use Rattle.civl_clashes.specs.declared.violations.Difference.{Difference}
use Rattle.civl_clashes.specs.declared.violations.Exchanged.{Exchanged}
use Rattle.civl_clashes.specs.declared.violations.Exchanged.TheVariants as exchanged
use Rattle.civl_clashes.specs.declared.violations.Place.{Place}
use Rattle.civl_clashes.specs.declared.violations.Place.TheVariants as place
use Rattle.civl_clashes.specs.declared.violations.Which.{Which}
use Rattle.civl_clashes.specs.declared.violations.Which.TheVariants.{First, Second}
use Rattle.civl_lines.specs.declared.line.Line.{Line}
use Rattle.civl_action_stories.specs.Actors.{Actor, goes_wrong, guard_parts, makes, remakes}

-- ---- differences

-- whether the first action of a condition's pair is its Y, as that of K5 is
abbrev pub is_y_first : Condition → Bool
is_y_first (condition.Pair number step m n) = nat_eq number 5
is_y_first _ = false

-- with what the report's names of an action's values begin: of the first one, and of the second one
abbrev pub letter : Bool → Which → List ℕ
letter y_first First = if y_first then codes "Y." else codes "X."
letter y_first Second = if y_first then codes "X." else codes "Y."

abbrev pub output_name : List Param → ℕ → List ℕ
output_name outs at = option_map_or (λ p. p.name.bytes) (slice_get outs at) []

-- the name of a place: a global, or an output of x or of y, as the report has it
abbrev pub place_name : Program → Bool → Actor → Actor → Place → List ℕ
place_name program y_first x y (place.Global at) = option_map_or (λ g. g.name.bytes) (slice_get program.globals at) []
place_name program y_first x y (place.Output First at) = letter y_first First ++ output_name x.action.outs at
place_name program y_first x y (place.Output Second at) = letter y_first Second ++ output_name y.action.outs at

-- `name is kept, and exchanged in the exchanged order`
abbrev pub difference_text : Program → Bool → Actor → Actor → Difference → List ℕ
difference_text program y_first x y d = place_name program y_first x y d.place ++ (codes " is " ++ (value_text d.kept ++ (codes ", and "
    ++ (value_text d.exchanged ++ codes " in the exchanged order"))))

-- ---- the exchanged order of x and y: y and then x

abbrev pub exchanged_story : Program → Store → Bool → Actor → Actor → Exchanged → List Line
exchanged_story program g y_first x y exchanged.WaitsAtOnce =
    goes_wrong y (codes "exchanged, " ++ (y.action.name.bytes ++ codes " waits at once")) ∷ guard_parts program y g
exchanged_story program g y_first x y (exchanged.WaitsBehind e) =
    remakes (codes "exchanged, ") program y g e
    ∷ goes_wrong x (codes "then " ++ (x.action.name.bytes ++ codes " waits")) ∷ guard_parts program x e.store
exchanged_story program g y_first x y (exchanged.Ends order differences) =
    remakes (codes "exchanged, ") program y g order.first
    ∷ remakes (codes "then ") program x order.first.store order.second
    ∷ goes_wrong y (listed (map (difference_text program y_first x y) differences)) ∷ []

-- x and then y, and then the exchanged order
abbrev pub clash_story : Program → Store → Bool → Clash → Actor → Actor → List Line
clash_story program g y_first clash x y =
    makes (codes "first ") program x g clash.kept.first
    ∷ makes (codes "then ") program y clash.kept.first.store clash.kept.second
    ∷ exchanged_story program g y_first x y clash.exchanged
