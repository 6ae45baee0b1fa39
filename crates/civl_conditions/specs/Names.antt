-- The printed names of conditions.
use Rattle.std.specs.Prelude.{ℕ, List, [], ◌++◌, codes, decimal}
use Rattle.civl_tree.specs.declared.program.Program.{Program}
use Rattle.civl_conditions.specs.declared.condition.Condition.{Condition}
use Rattle.civl_conditions.specs.declared.condition.Condition.TheVariants.{Start, Keep, Pair, Fire, Path, Block, Act}
use Rattle.civl_conditions.specs.declared.condition.Part.{Part}
use Rattle.civl_conditions.specs.declared.condition.Part.TheVariants.{Gate, Invariant, Once, Stutter, Perform, Rank}
use Rattle.civl_conditions.specs.declared.condition.Target.{Target}
use Rattle.civl_conditions.specs.declared.condition.Target.TheVariants as target
use Rattle.civl_conditions.specs.Steps.{of_action, of_proc}

abbrev pub action_text : Program → ℕ → List ℕ
action_text program x = of_action program x [] (λ a. a.name.bytes)

abbrev pub proc_text : Program → ℕ → List ℕ
proc_text program q = of_proc program q [] (λ p. p.name.bytes)

abbrev pub part_text : Part → List ℕ
part_text Gate = codes "gate"
part_text Invariant = codes "invariant"
part_text Once = codes "once"
part_text Stutter = codes "stutter"
part_text Perform = codes "perform"
part_text Rank = codes "rank"

abbrev pub step_text : ℕ → List ℕ
step_text step = codes " step " ++ decimal step ++ codes " "

abbrev pub cut_text : Program → ℕ → ℕ → List ℕ
cut_text program q c = proc_text program q ++ codes " from " ++ decimal c

abbrev pub target_text : Program → Target → List ℕ
target_text program (target.Invariant i) = codes " invariant " ++ decimal i
target_text program (target.Yield r y) = codes " yield " ++ proc_text program r ++ codes " " ++ decimal y

unfoldable pub name_text : Program → Condition → List ℕ
name_text program (Start step i) = codes "K1" ++ step_text step ++ codes "invariant " ++ decimal i
name_text program (Keep step x) = codes "K2" ++ step_text step ++ action_text program x
name_text program (Pair number step x y) = codes "K" ++ decimal number ++ step_text step ++ action_text program x ++ codes " " ++ action_text program y
name_text program (Fire step x) = codes "K8" ++ step_text step ++ action_text program x
name_text program (Path part step q c) = codes "K9 " ++ part_text part ++ step_text step ++ cut_text program q c
name_text program (Block step q c target) = codes "K10" ++ step_text step ++ cut_text program q c ++ target_text program target
name_text program (Act step x target) = codes "K11" ++ step_text step ++ action_text program x ++ target_text program target
