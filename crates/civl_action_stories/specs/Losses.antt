-- K2: a permission that an action doubles or makes (linear permissions: Kragl, Qadeer, CAV 2018).
use Rattle.std.specs.Prelude.{ℕ, List, [], ◌∷◌, ◌++◌, slice_get, codes, decimal}
use Rattle.std.specs.Option.{option_map_or}
use Rattle.civl_tree.specs.declared.program.Program.{Program}
use Rattle.civl_firing.specs.declared.store.Store.{Store}
use Rattle.civl_clashes.specs.declared.violations.Carrier.{Carrier}
use Rattle.civl_clashes.specs.declared.violations.Carrier.TheVariants as carrier
use Rattle.civl_clashes.specs.declared.violations.Effect.{Effect}
use Rattle.civl_clashes.specs.declared.violations.Loss.{Loss}
use Rattle.civl_clashes.specs.declared.violations.Loss.TheVariants.{Twice, Nowhere}
use Rattle.civl_lines.specs.declared.line.Line.{Line}
use Rattle.civl_action_stories.specs.Actors.{Actor, goes_wrong, makes}

-- the name of what carries a permission
abbrev pub carrier_name : Program → Actor → Carrier → List ℕ
carrier_name program x (carrier.Global at) = option_map_or (λ g. g.name.bytes) (slice_get program.globals at) []
carrier_name program x (carrier.Param at) = option_map_or (λ p. p.name.bytes) (slice_get x.action.params at) []
carrier_name program x (carrier.Out at) = option_map_or (λ p. p.name.bytes) (slice_get x.action.outs at) []

-- `permission P comes out twice: A and B`, or `permission P comes out from nowhere: A`
abbrev pub loss_text : Program → Actor → Loss → List ℕ
loss_text program x (Twice p a b) = codes "permission " ++ (decimal p ++ (codes " comes out twice: " ++ (carrier_name program x a
    ++ (codes " and " ++ carrier_name program x b))))
loss_text program x (Nowhere p a) = codes "permission " ++ (decimal p ++ (codes " comes out from nowhere: " ++ carrier_name program x a))

abbrev pub loss_story : Program → Store → Effect → Loss → Actor → List Line
loss_story program g e loss x = makes [] program x g e ∷ goes_wrong x (loss_text program x loss) ∷ []
