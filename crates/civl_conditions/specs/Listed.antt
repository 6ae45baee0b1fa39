-- The conditions of a layered program, in their order.
use Rattle.std.specs.Prelude.{ℕ, ◌&&◌, if◌then◌else◌, List, [], ◌∷◌, ◌++◌, map, flat_map}
use Rattle.civl_tree.specs.declared.action.Action.{Action}
use Rattle.civl_tree.specs.declared.program.Program.{Program}
use Rattle.civl_layers.specs.declared.cut.CutKind.{CutKind}
use Rattle.civl_conditions.specs.declared.condition.Condition.{Condition}
use Rattle.civl_conditions.specs.declared.condition.Condition.TheVariants.{Start, Keep, Pair, Fire, Path, Block, Act}
use Rattle.civl_conditions.specs.declared.condition.Part.{Part}
use Rattle.civl_conditions.specs.declared.condition.Part.TheVariants.{Gate, Invariant, Once, Stutter, Perform, Rank}
use Rattle.civl_conditions.specs.declared.condition.Target.{Target}
use Rattle.civl_conditions.specs.declared.condition.Target.TheVariants as target
use Rattle.civl_conditions.specs.paths.Ends.{is_yield_cut, is_rank_loop}
use Rattle.civl_conditions.specs.Steps.{each_at, each_cut, steps_to, step_invariants, begins_below, meet_below, lasts_through}
use Rattle.civl_layers.specs.Movers.{is_left, is_right}

-- K1: each invariant of the step
abbrev pub starts : Program → ℕ → List Condition
starts program step = each_at (λ i e. Start step i ∷ []) 0 (step_invariants program step)

-- K2: each action that begins in the lower program
abbrev pub keeps : Program → ℕ → List Condition
keeps program step = each_at (λ x a. if begins_below step a then Keep step x ∷ [] else []) 0 program.actions

-- K3 to K7 of two actions: K3 and K4 for right movers, K5 to K7 for left movers
abbrev pub pair_of : ℕ → ℕ → Action → ℕ → Action → List Condition
pair_of step x a y b =
    if meet_below step a b
    then (if is_right a.mover then Pair 3 step x y ∷ Pair 4 step x y ∷ [] else [])
    ++ (if is_left a.mover then Pair 5 step x y ∷ Pair 6 step x y ∷ Pair 7 step x y ∷ [] else [])
    else []

-- K8 of an action
abbrev pub fire_of : ℕ → ℕ → Action → List Condition
fire_of step x a = if is_left a.mover && begins_below step a then Fire step x ∷ [] else []

-- K3 to K8: the pairs of each action, and then its own
abbrev pub movers : Program → ℕ → List Condition
movers program step = each_at (λ x a. each_at (pair_of step x a) 0 program.actions ++ fire_of step x a) 0 program.actions

abbrev pub parts_of : CutKind → List Part
parts_of kind = Gate ∷ Invariant ∷ Once ∷ Stutter ∷ Perform ∷ (if is_rank_loop kind then Rank ∷ [] else [])

-- K9: the parts from each cut of each procedure of the step's layer
abbrev pub paths : Program → ℕ → List Condition
paths program step = each_cut (λ q c cut. map (λ part. Path part step q c) (parts_of cut.kind)) program step

-- what blocks and actions have to keep: the invariants of the step, and those of the yields of its layer
abbrev pub targets : Program → ℕ → List Target
targets program step =
    each_at (λ i e. target.Invariant i ∷ []) 0 (step_invariants program step)
    ++ each_cut (λ r y cut. if is_yield_cut cut.kind then target.Yield r y ∷ [] else []) program step

-- K10: the blocks from each cut
abbrev pub blocks : Program → ℕ → List Condition
blocks program step = each_cut (λ q c cut. map (Block step q c) (targets program step)) program step

-- K11: each action that is in both programs
abbrev pub acts : Program → ℕ → List Condition
acts program step = each_at (λ x a. if lasts_through step a then map (Act step x) (targets program step) else []) 0 program.actions

abbrev pub at_step : Program → ℕ → List Condition
at_step program step = starts program step ++ (keeps program step ++ (movers program step ++ (paths program step ++ (blocks program step ++ acts program step))))

unfoldable pub conditions : Program → List Condition
conditions program = flat_map (at_step program) (steps_to program.layers)
