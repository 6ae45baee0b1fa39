-- The conditions on initial stores, and those that blocks and actions keep invariants.
use Rattle.std.specs.Prelude.{◌≡◌, ◌<◌, ⊤, ℕ, true, length, slice_get, Some}
use Rattle.civl_tree.specs.declared.program.Proc.{Proc}
use Rattle.civl_tree.specs.declared.program.Program.{Program}
use Rattle.civl_layers.specs.declared.cut.Cut.{Cut}
use Rattle.civl_layers.specs.Cuts.{proc_cuts}
use Rattle.civl_conditions.specs.paths.Ends.{is_yield_cut}
use Rattle.civl_conditions.specs.declared.condition.Condition.{Condition}
use Rattle.civl_conditions.specs.declared.condition.Condition.TheVariants.{Start, Block, Act}
use Rattle.civl_conditions.specs.declared.condition.Target.{Target}
use Rattle.civl_conditions.specs.declared.condition.Target.TheVariants.{Invariant, Yield}
use Rattle.civl_refine.specs.Kinds.{HasCut}

-- there is a procedure with this number, and its cut with that number is a yield
pub record HasYield (program : Program) (r y : ℕ) : Type 0 where
  pub proc : Proc
  pub cut : Cut
  pub there : slice_get program.procs r ≡ Some proc
  pub is : slice_get (proc_cuts proc) y ≡ Some cut
  pub yields : is_yield_cut cut.kind ≡ true

abbrev pub HasTarget : Program → Target → Type 0
HasTarget program (Invariant i) = ⊤
HasTarget program (Yield r y) = HasYield program r y

-- K1, K10 and K11, of actions, cuts and yields that there are
abbrev pub IsOfSteadiness : Program → Condition → Type 0
IsOfSteadiness program (Start step i) = ⊤
IsOfSteadiness program (Block step q c target) = HasCut program q c × HasTarget program target
IsOfSteadiness program (Act step x target) = (x < length program.actions) × HasTarget program target
IsOfSteadiness program _ = ⊥
