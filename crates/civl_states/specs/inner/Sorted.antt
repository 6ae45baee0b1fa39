-- For private functions alone: the sorts of a condition's variables, group by group.
use Rattle.std.specs.Prelude.{ℕ, ◌-◌, List, [], ◌∷◌, ◌++◌, map}
use Rattle.civl_tree.specs.declared.expr.Sort.{Sort}
use Rattle.civl_tree.specs.declared.expr.Sort.TheVariants.{Bool as Truth}
use Rattle.civl_tree.specs.declared.program.Proc.{Proc}
use Rattle.civl_tree.specs.declared.program.Program.{Program}
use Rattle.civl_tree.specs.rules.Uses.{param_sorts}
use Rattle.civl_layers.specs.declared.cut.Cut.{Cut}
use Rattle.civl_conditions.specs.declared.condition.Condition.{Condition}
use Rattle.civl_conditions.specs.declared.condition.Condition.TheVariants.{Start, Keep, Pair, Fire, Path, Block, Act}
use Rattle.civl_conditions.specs.declared.condition.Target.{Target}
use Rattle.civl_conditions.specs.declared.condition.Target.TheVariants as target
use Rattle.civl_conditions.specs.Steps.{of_action, of_proc, of_cut}
use Rattle.civl_conditions.specs.Variables.{passed_choices}
use Rattle.civl_states.specs.declared.stores.Existing.TheVariants.{Layer, Near, All}
use Rattle.civl_states.specs.Existing.{existing_sorts}
use Rattle.civl_states.specs.Laying.{path_sorts}
use Rattle.civl_states.specs.Runs.{instance_sorts}

abbrev pub lower_sorts : Program → ℕ → List Sort
lower_sorts program step = existing_sorts (Layer (step - 1)) program

abbrev pub cut_sorts : Program → ℕ → Proc → Cut → List Sort
cut_sorts program step proc cut = path_sorts program step proc cut.kind (passed_choices program step proc cut)

-- a frame, with `done`
abbrev pub thread_sorts : Proc → List Sort
thread_sorts proc = param_sorts proc.params ++ (param_sorts proc.outs ++ (map (λ l. l.sort) proc.locals ++ Truth ∷ []))

abbrev pub other_sorts : Program → Target → List Sort
other_sorts program (target.Invariant i) = []
other_sorts program (target.Yield r y) = of_proc program r [] thread_sorts

abbrev pub grouped_sorts : Program → Condition → List Sort
grouped_sorts program (Start step i) = existing_sorts All program
grouped_sorts program (Keep step x) = lower_sorts program step ++ of_action program x [] instance_sorts
grouped_sorts program (Pair number step x y) = lower_sorts program step ++ (of_action program x [] instance_sorts ++ of_action program y [] instance_sorts)
grouped_sorts program (Fire step x) = lower_sorts program step ++ of_action program x [] (λ a. param_sorts a.params)
grouped_sorts program (Path part step q c) = of_cut program q c [] (cut_sorts program step)
grouped_sorts program (Block step q c target) = of_cut program q c [] (cut_sorts program step) ++ other_sorts program target
grouped_sorts program (Act step x target) = existing_sorts (Near step) program ++ (of_action program x [] instance_sorts ++ other_sorts program target)
