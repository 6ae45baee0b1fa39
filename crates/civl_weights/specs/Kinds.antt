-- The weight of a condition from the sums of its parts; `keep_of` and `instance_bits` cite it.
use Rattle.std.specs.Prelude.{ℕ, ◌+◌, ◌*◌, ◌++◌, Option, None, Some, slice_get, ⊤}
use Rattle.civl_tree.specs.declared.action.Action.{Action}
use Rattle.civl_tree.specs.declared.program.Proc.{Proc}
use Rattle.civl_tree.specs.declared.program.Program.{Program}
use Rattle.civl_firing.specs.values.ActionWeights.{action_weight}
use Rattle.civl_layers.specs.declared.cut.Cut.{Cut}
use Rattle.civl_layers.specs.Cuts.{proc_cuts}
use Rattle.civl_conditions.specs.declared.condition.Condition.{Condition}
use Rattle.civl_conditions.specs.declared.condition.Condition.TheVariants.{Start, Keep, Pair, Fire, Path, Block, Act}
use Rattle.civl_conditions.specs.declared.condition.Part.{Part}
use Rattle.civl_conditions.specs.declared.condition.Target.{Target}
use Rattle.civl_conditions.specs.Steps.{of_action, step_invariants}
use Rattle.civl_conditions.specs.Variables.{path_variables, other_variables}
use Rattle.civl_conditions.specs.Weights.{bits_of_variables, outs_bits, keep_weight, pair_weight, path_weight, block_weight, global_weight, weights_of, target_weight, target_items, lin, linear_globals, linear_inputs}
use Rattle.civl_weighing.specs.declared.weight.Weight.{Weight}
use Rattle.civl_weights.specs.declared.sums.actions.ActionSums.{ActionSums}
use Rattle.civl_weights.specs.declared.sums.cuts.CutSums.{CutSums}
use Rattle.civl_weights.specs.declared.sums.targets.TargetSums.{TargetSums}
use Rattle.civl_weighing.specs.Weighing.{Weighs}
use Rattle.civl_weighing.specs.Bits.{choices_bits}
use Rattle.civl_weights.specs.sums.Sums.{OfAction, OfCut, parts_weight}
use Rattle.civl_weights.specs.sums.Tables.{OfTarget}

abbrev pub step_of : Condition → ℕ
step_of (Start step i) = step
step_of (Keep step x) = step
step_of (Pair number step x y) = step
step_of (Fire step x) = step
step_of (Path part step q c) = step
step_of (Block step q c target) = step
step_of (Act step x target) = step

-- the bits of an action's parameters and choices
abbrev pub instance_bits : Action → ℕ
instance_bits a = outs_bits a.params + choices_bits a.choices

-- ---- own weights

pub record IsKeep (program : Program) (sums : ActionSums) (w : Weight) : Type 0 where
  pub is : (a : Action) → OfAction program a sums → Weighs w (keep_weight program a)

pub record IsPair (program : Program) (step : ℕ) (first second : ActionSums) (w : Weight) : Type 0 where
  pub is : (a b : Action) → OfAction program a first → OfAction program b second → Weighs w (pair_weight program step a b)

-- K11 of an action, without its variables
abbrev pub act_weight : Program → ℕ → Target → Action → ℕ
act_weight program step target a =
    action_weight program a + weights_of (global_weight program) (step_invariants program step) + 2 * target_weight program step target
    + lin program (linear_globals program + linear_inputs a.params + target_items program target)

pub record IsAct (program : Program) (together : Weight) (sums : ActionSums) (target : TargetSums) (w : Weight) : Type 0 where
  pub is : (step : ℕ) (a : Action) (t : Target) → Weighs together (weights_of (global_weight program) (step_invariants program step)) → OfAction program a sums → OfTarget program step t target → Weighs w (act_weight program step t a)

pub record IsActAt (program : Program) (step x : ℕ) (target : TargetSums) (w : Weight) : Type 0 where
  pub is : (t : Target) → OfTarget program step t target → Weighs w (of_action program x 0 (act_weight program step t))

-- ---- cuts

-- there are sums exactly where there is a cut, and they are its
abbrev pub OfCutAt : Program → ℕ → Proc → ℕ → Option Cut → Option CutSums → Type 0
OfCutAt program step proc c None None = ⊤
OfCutAt program step proc c None (Some sums) = ⊥
OfCutAt program step proc c (Some cut) None = ⊥
OfCutAt program step proc c (Some cut) (Some sums) = OfCut program step proc c cut sums

abbrev pub OfCutIn : Program → ℕ → Option Proc → ℕ → Option CutSums → Type 0
OfCutIn program step None c None = ⊤
OfCutIn program step None c (Some sums) = ⊥
OfCutIn program step (Some proc) c sums = OfCutAt program step proc c (slice_get (proc_cuts proc) c) sums

-- of the cut with this number of the procedure with this number
abbrev pub OfCutFound : Program → ℕ → ℕ → ℕ → Option CutSums → Type 0
OfCutFound program step q c sums = OfCutIn program step (slice_get program.procs q) c sums

pub record IsPart (sums : CutSums) (part : Part) (w : Weight) : Type 0 where
  pub is : (program : Program) (step : ℕ) (proc : Proc) (c : ℕ) (cut : Cut) → OfCut program step proc c cut sums → Weighs w (parts_weight program step proc cut part)

pub record IsPath (sums : CutSums) (part : Part) (w : Weight) : Type 0 where
  pub is : (program : Program) (step : ℕ) (proc : Proc) (c : ℕ) (cut : Cut) → OfCut program step proc c cut sums → Weighs w (bits_of_variables (path_variables program step proc cut) + path_weight program step part proc c cut)

pub record IsBlock (program : Program) (sums : CutSums) (target : Target) (wanted : TargetSums) (w : Weight) : Type 0 where
  pub is : (step : ℕ) (proc : Proc) (c : ℕ) (cut : Cut) → OfCut program step proc c cut sums → OfTarget program step target wanted → Weighs w (bits_of_variables (path_variables program step proc cut ++ other_variables program target) + block_weight program step proc c cut target)
